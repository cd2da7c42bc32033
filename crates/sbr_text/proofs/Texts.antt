-- What a piece of text adds to a line that is well so far.
use mathlib.Core.Path.{◌≡◌, refl, ap, ◌∙◌}
use mathlib.Core.Bool.{Bool, true, false}
use mathlib.Core.List.{List, [], ◌∷◌, ◌++◌, map, append-nil}
use Prim.Native.Nat.{ℕ, suc, ◌+◌, ◌-◌, ◌*◌, ◌/◌, ◌%◌, ◌≤◌, ◌<◌, min}
use native.Mathlib.Omega.{arith}
use native.Mathlib.Decide.{dec_lt}
use borrow.Author.Tests.{lt-ltb, le-leb}
use lib.IntN.{ℤ, pos, negsuc, nat_abs}
use lib.ListN.{length, get_or, length-append}
use lib.Seq.{append_snoc}
use Rattle.sbr_grid.specs.declared.FrameClass.{FrameClass}
use Rattle.sbr_grid.specs.declared.FrameClass.TheVariants.{FixFix, FixVar, VarFix, VarVar}
use Rattle.sbr_list.specs.Listing.{decimal, signed, spaced, class_name, resolution, stroke}
use Rattle.sbr_list.proofs.Lines.{decimal_one, decimal_two, decimal_three}
use Rattle.sbr_text.specs.declared.parts.Part.TheVariants.{Borders, Noise, Mark, Flags}
use Rattle.sbr_text.specs.declared.parts.Number.{Number}
use Rattle.sbr_text.specs.Parts.{takes_numbers, LineParts, parts, numbered, no_number, part_after, with_number, closed, read_byte, read_bytes}
use Rattle.sbr_text.proofs.Bytes.{bytes_append}

-- a line that is well so far, and has this number
abbrev reading : LineParts → Number → LineParts
reading s a = parts true s.class s.part a s.borders s.marks s.mark s.flags

-- a text, and a blank behind it that ends its last number
pub piece : (s u : LineParts) (t r : List ℕ) → closed (read_bytes s t) ≡ u → read_bytes s (t ++ (32 ∷ r)) ≡ read_bytes u r
unfolding read_bytes read_byte
piece s u t r e = bytes_append s t (32 ∷ r) ∙ ap (λ x. read_bytes x r) e

module _ (s : LineParts) (h : takes_numbers s.part ≡ true) where
  -- a digit makes the number w of the number v
  grown-to : (m d : Bool) (v x w : ℕ) → x < 10 → 10 * v + x ≡ w → w < 1000
      → read_byte (reading s (numbered m d v)) (48 + x) ≡ reading s (numbered m true w)
  unfolding read_byte
  grown-to m d v x w l e g =
      let q : 48 + x - 48 ≡ x = omega arith in
      let n : min (10 * v + x) 1000 ≡ w = omega arith in
      rw (le-leb 48 (48 + x) (omega arith), le-leb (48 + x) 57 (omega arith), q, n, h)

  -- a number in base ten is its value
  decimal-read : (m : Bool) (n : ℕ) → n < 1000 → read_bytes (reading s (numbered m false 0)) (decimal n) ≡ reading s (numbered m true n)
  unfolding read_bytes
  decimal-read m n l = elim (dec_lt n 10) [
    | yes g ↦ rw (decimal_one n g) (grown-to m false 0 n n g (omega arith) l)
    | no g ↦ elim (dec_lt n 100) [
      | yes f ↦
          rw (
            decimal_two n (omega arith) f,
            grown-to m false 0 (n / 10) (n / 10) (omega arith) (omega arith) (omega arith),
            grown-to m true (n / 10) (n % 10) n (omega arith) (omega arith) l,
          )
      | no f ↦
          rw (
            decimal_three n (omega arith),
            grown-to m false 0 (n / 100) (n / 100) (omega arith) (omega arith) (omega arith),
            grown-to m true (n / 100) (n / 10 % 10) (n / 10) (omega arith) (omega arith) (omega arith),
            grown-to m true (n / 10) (n % 10) n (omega arith) (omega arith) l,
          )
    ]
  ]

  -- a minus sign begins a number
  minus-read : read_byte (reading s no_number) 45 ≡ reading s (numbered true false 0)
  unfolding read_byte
  minus-read = rw h

  -- a number with its sign goes to its place
  pub signed-read : (z : ℤ) → nat_abs z < 1000 → closed (read_bytes (reading s no_number) (signed z)) ≡ with_number (reading s no_number) z
  unfolding read_bytes read_byte signed
  signed-read (pos n) l = rw (decimal-read false n l)
  signed-read (negsuc n) l = ap closed (ap (λ r. read_bytes r (decimal (suc n))) minus-read ∙ decimal-read true (suc n) l)

-- numbers at their places, one behind the other
unfoldable with_numbers : LineParts → List ℕ → LineParts
with_numbers s [] = s
with_numbers s (x ∷ xs) = with_numbers (with_number s (pos x)) xs

-- numbers with blanks between go to their places
spaced-read : (s : LineParts) (xs : List ℕ) → takes_numbers s.part ≡ true → ((i : ℕ) → get_or xs i 0 < 1000)
    → closed (read_bytes (reading s no_number) (spaced xs)) ≡ with_numbers (reading s no_number) xs
unfolding read_bytes spaced with_numbers signed
spaced-read s [] h small = refl
spaced-read s (x ∷ []) h small = signed-read s h (pos x) (small 0)
spaced-read s (x ∷ z ∷ xs) h small =
    ap closed (piece _ _ (decimal x) (spaced (z ∷ xs)) (signed-read s h (pos x) (small 0)))
    ∙ spaced-read (with_number s (pos x)) (z ∷ xs) h (λ i. small (suc i))

-- borders stand behind the others
borders_are : (c : Bool) (bs : List ℤ) (xs : List ℕ) → length bs + length xs ≤ 7
    → with_numbers (parts true c Borders no_number bs 0 (pos 0) []) xs ≡ parts true c Borders no_number (bs ++ map pos xs) 0 (pos 0) []
unfolding with_numbers
borders_are c bs [] h = rw append-nil
borders_are c bs (x ∷ xs) h =
    rw (lt-ltb (length bs) 7 (omega arith))
    (borders_are c (bs ++ (pos x ∷ [])) xs (omega (arith, length-append bs (pos x ∷ [])))
    ∙ ap (λ l. parts true c Borders no_number l 0 (pos 0) []) (append_snoc bs (pos x) (map pos xs)))

-- noise borders are read past
noise_past : (bs : List ℤ) (xs : List ℕ)
    → with_numbers (parts true true Noise no_number bs 0 (pos 0) []) xs ≡ parts true true Noise no_number bs 0 (pos 0) []
unfolding with_numbers
noise_past bs [] = refl
noise_past bs (x ∷ xs) = noise_past bs xs

-- the letter of a resolution stands behind the others
letter_read : (c : Bool) (bs : List ℤ) (k : ℕ) (y : ℤ) (fs : List Bool) (x : Bool) → length fs < 6
    → read_byte (parts true c Flags no_number bs k y fs) (resolution x) ≡ parts true c Flags no_number bs k y (fs ++ (x ∷ []))
unfolding read_byte
letter_read c bs k y fs true h = rw (lt-ltb (length fs) 6 h)
letter_read c bs k y fs false h = rw (lt-ltb (length fs) 6 h)

-- letters of resolutions stand behind the others
letters_read : (c : Bool) (bs : List ℤ) (k : ℕ) (y : ℤ) (fs res : List Bool) → length fs + length res ≤ 6
    → read_bytes (parts true c Flags no_number bs k y fs) (map resolution res) ≡ parts true c Flags no_number bs k y (fs ++ res)
unfolding read_bytes
letters_read c bs k y fs [] h = rw append-nil
letters_read c bs k y fs (x ∷ res) h =
    ap (λ s. read_bytes s (map resolution res)) (letter_read c bs k y fs x (omega arith))
    ∙ letters_read c bs k y (fs ++ (x ∷ [])) res (omega (arith, length-append fs (x ∷ [])))
    ∙ ap (parts true c Flags no_number bs k y) (append_snoc fs x res)

-- the name of a class behind the number of a frame, and a blank, leave a line that has no border yet
pub class_read : (k : FrameClass) (z : ℤ) (r : List ℕ)
    → read_bytes (parts true false Borders no_number (z ∷ []) 0 (pos 0) []) (class_name k ++ (32 ∷ r)) ≡ read_bytes (parts true true Borders no_number [] 0 (pos 0) []) r
unfolding read_bytes read_byte
class_read FixFix z r = refl
class_read FixVar z r = refl
class_read VarFix z r = refl
class_read VarVar z r = refl

-- borders and a stroke leave a line that has these borders
pub borders_read : (c : Bool) (xs : List ℕ) (r : List ℕ) → length xs ≤ 7 → ((i : ℕ) → get_or xs i 0 < 1000)
    → read_bytes (parts true c Borders no_number [] 0 (pos 0) []) (spaced xs ++ (stroke ++ r))
    ≡ read_bytes (parts true c (part_after c Borders) no_number (map pos xs) 0 (pos 0) []) r
unfolding read_bytes read_byte
borders_read c xs r h small =
    let s = parts true c Borders no_number [] 0 (pos 0) [] in
    piece _ _ (spaced xs) (47 ∷ 32 ∷ r) (spaced-read s xs refl small ∙ borders_are c [] xs (omega arith))

-- noise borders and a stroke leave a line before its mark
pub noise_read : (bs : List ℤ) (xs : List ℕ) (r : List ℕ) → ((i : ℕ) → get_or xs i 0 < 1000)
    → read_bytes (parts true true Noise no_number bs 0 (pos 0) []) (spaced xs ++ (stroke ++ r)) ≡ read_bytes (parts true true Mark no_number bs 0 (pos 0) []) r
unfolding read_bytes read_byte
noise_read bs xs r small =
    let s = parts true true Noise no_number bs 0 (pos 0) [] in
    piece _ _ (spaced xs) (47 ∷ 32 ∷ r) (spaced-read s xs refl small ∙ noise_past bs xs)

-- the mark, a stroke and the resolutions end a line
pub rest_read : (c : Bool) (bs : List ℤ) (mark : ℤ) (res : List Bool) → nat_abs mark < 1000 → length res ≤ 6
    → read_bytes (parts true c Mark no_number bs 0 (pos 0) []) (signed mark ++ (stroke ++ map resolution res)) ≡ parts true c Flags no_number bs 1 mark res
unfolding read_bytes read_byte
rest_read c bs mark res h l =
    let s = parts true c Mark no_number bs 0 (pos 0) [] in
    piece _ _ (signed mark) (47 ∷ 32 ∷ map resolution res) (signed-read s refl mark h)
    ∙ letters_read c bs 1 mark [] res (omega arith)
