-- A line of text that names a frame: borders / mark / resolutions, or what `gridlist` prints of one: frame number, class, borders / noise borders / mark /
-- resolutions. Frame number, class and noise borders are read past: the grid is chosen by the rest. A number alone is a slot count. Numbers have blanks
-- between them; further blanks may stand anywhere but inside a number.
use Rattle.std.specs.Prelude.{Bool, true, false, cond, not, ◌&&◌, ◌||◌, List, [], ◌∷◌, ◌++◌, ℕ, ◌+◌, ◌-◌, ◌*◌, min, leb, ltb, eqb, ℤ, pos, negsuc, neg_ℤ, length}
use Rattle.sbr_text.specs.declared.parts.Part.{Part}
use Rattle.sbr_text.specs.declared.parts.Part.TheVariants.{Borders, Noise, Mark, Flags}
use Rattle.sbr_text.specs.declared.parts.Number.{Number}
use Rattle.sbr_text.specs.declared.Kind.{Kind}
use Rattle.sbr_text.specs.declared.Kind.TheVariants.{Blank, Slots, Frame, Unreadable}

-- a value for each part of a line, by what a number is there: a border, a noise border, the mark; in the last one letters of resolutions follow
abbrev pub by_part : {A : Type 0} → Part → A → A → A → A → A
by_part Borders a b c d = a
by_part Noise a b c d = b
by_part Mark a b c d = c
by_part Flags a b c d = d

-- the part in which one is, and whether numbers stand there
abbrev pub is_borders : Part → Bool
is_borders p = by_part p true false false false

abbrev pub is_mark : Part → Bool
is_mark p = by_part p false false true false

abbrev pub is_flags : Part → Bool
is_flags p = by_part p false false false true

abbrev pub takes_numbers : Part → Bool
takes_numbers p = not (is_flags p)

-- what stands in a line so far
pub record LineParts : Type 0 where
  -- nothing was found that such a line does not have
  pub good : Bool
  -- a class was named
  pub class : Bool
  pub part : Part
  -- a number that is being read: its sign, whether it has a digit yet, its value so far
  pub number : Number
  pub borders : List ℤ
  -- how many marks there are, at most 2, and the last one
  pub marks : ℕ
  pub mark : ℤ
  pub flags : List Bool

-- by what they are
abbrev pub parts : Bool → Bool → Part → Number → List ℤ → ℕ → ℤ → List Bool → LineParts
parts good class part number borders marks mark flags = record {
  good = good;
  class = class;
  part = part;
  number = number;
  borders = borders;
  marks = marks;
  mark = mark;
  flags = flags;
}

abbrev pub numbered : Bool → Bool → ℕ → Number
numbered minus digits value = record { minus = minus; digits = digits; value = value }

-- no number, and a line of which nothing has been read
abbrev pub no_number : Number
no_number = numbered false false 0

abbrev pub no_parts : LineParts
no_parts = parts true false Borders no_number [] 0 (pos 0) []

-- ---- what a byte adds

-- one more of at most k; those past them are left out
abbrev pub pushed : {A : Type 0} → ℕ → List A → A → List A
pushed k xs x = cond (ltb (length xs) k) (xs ++ (x ∷ [])) xs

-- a digit; numbers from 1000 on are 1000, which is no slot, mark or slot count
abbrev pub grown : Number → ℕ → Number
grown a d = numbered a.minus true (min (10 * a.value + d) 1000)

abbrev pub with_digit : LineParts → ℕ → LineParts
with_digit s d =
    parts (s.good && takes_numbers s.part) s.class s.part (grown s.number d) s.borders s.marks s.mark s.flags

-- whether a number is being read
abbrev pub is_open : Number → Bool
is_open a = a.minus || a.digits

-- a minus sign, before the first digit
abbrev pub with_minus : LineParts → LineParts
with_minus s =
    parts (s.good && (takes_numbers s.part && not (is_open s.number))) s.class s.part
    (numbered true s.number.digits s.number.value) s.borders s.marks s.mark s.flags

-- a letter of a class: one number stands before the first, which was the frame's and no border
abbrev pub may_name : LineParts → Bool
may_name s = is_borders s.part && (not (is_open s.number) && eqb (length s.borders) (cond s.class 0 1))

abbrev pub with_letter : LineParts → LineParts
with_letter s = parts (s.good && may_name s) true s.part s.number [] s.marks s.mark s.flags

-- a resolution; of more than six, six are kept, as many as no grid has
abbrev pub with_flag : LineParts → Bool → LineParts
with_flag s high =
    parts (s.good && is_flags s.part) s.class s.part s.number s.borders s.marks s.mark (pushed 6 s.flags high)

-- the value of a number
abbrev pub signed_of : Number → ℤ
signed_of a = cond a.minus (neg_ℤ (pos a.value)) (pos a.value)

-- a number at its place: of more than seven borders, seven are kept, as many as no grid has
abbrev pub with_number : LineParts → ℤ → LineParts
with_number s z =
    parts s.good s.class s.part no_number (cond (is_borders s.part) (pushed 7 s.borders z) s.borders)
    (cond (is_mark s.part) (min (s.marks + 1) 2) s.marks) (cond (is_mark s.part) z s.mark) s.flags

-- the end of a number, where one is being read; a minus sign alone is none
abbrev pub closed : LineParts → LineParts
closed s =
    cond s.number.digits (with_number s (signed_of s.number))
    (parts (s.good && not s.number.minus) s.class s.part no_number s.borders s.marks s.mark s.flags)

-- the part behind a stroke: noise borders stand only in a line that names a class
abbrev pub part_after : Bool → Part → Part
part_after class p = by_part p (cond class Noise Mark) Mark Flags Flags

-- a stroke: none follows the resolutions, and one mark stands before the last
abbrev pub stroked : LineParts → LineParts
stroked s =
    parts (s.good && (takes_numbers s.part && (not (is_mark s.part) || eqb s.marks 1))) s.class (part_after s.class s.part)
    s.number s.borders s.marks s.mark s.flags

-- blank, tabulator, carriage return
abbrev pub is_blank : ℕ → Bool
is_blank b = eqb b 32 || eqb b 9 || eqb b 13

abbrev pub is_digit : ℕ → Bool
is_digit b = leb 48 b && leb b 57

-- H and L
abbrev pub is_flag : ℕ → Bool
is_flag b = eqb b 72 || eqb b 76

-- F, i, x, V, a, r
abbrev pub is_class_letter : ℕ → Bool
is_class_letter b = eqb b 70 || eqb b 105 || eqb b 120 || eqb b 86 || eqb b 97 || eqb b 114

-- any other byte
abbrev pub spoiled : LineParts → LineParts
spoiled s = parts false s.class s.part s.number s.borders s.marks s.mark s.flags

unfoldable pub read_byte : LineParts → ℕ → LineParts
read_byte s b =
    cond (is_digit b) (with_digit s (b - 48))
    (cond (is_blank b) (closed s)
    (cond (eqb b 47) (stroked (closed s))
    (cond (eqb b 45) (with_minus s)
    (cond (is_flag b) (with_flag s (eqb b 72)) (cond (is_class_letter b) (with_letter s) (spoiled s))))))

unfoldable pub read_bytes : LineParts → List ℕ → LineParts
read_bytes s [] = s
read_bytes s (b ∷ bs) = read_bytes (read_byte s b) bs

unfoldable pub read_line : List ℕ → LineParts
read_line l = closed (read_bytes no_parts l)

-- ---- what a line is

-- a slot count; one below 0 is none, as 0 is
abbrev pub slots_of : ℤ → ℕ
slots_of (pos n) = n
slots_of (negsuc n) = 0

-- a line of numbers alone
abbrev pub kind_of_numbers : List ℤ → Kind
kind_of_numbers [] = Blank
kind_of_numbers (z ∷ []) = Slots (slots_of z)
kind_of_numbers (z ∷ y ∷ zs) = Unreadable

unfoldable pub kind_of : LineParts → Kind
kind_of s =
    cond (not s.good) Unreadable
    (cond (is_flags s.part) Frame (cond (is_borders s.part && not s.class) (kind_of_numbers s.borders) Unreadable))
