-- Texts with no line feed in them, and the lines of a text that a listing begins.
use Rattle.std.proofs.lemmas.Bool.{not-true}
use mathlib.Core.Path.{◌≡◌, refl, sym, ap, ◌∙◌}
use mathlib.Core.Bool.{Bool, true, false, not, and-eq-true_iff}
use mathlib.Core.List.{List, [], ◌∷◌, ◌++◌, map}
use Prim.Native.Nat.{ℕ, suc, ◌+◌, ◌/◌, ◌%◌}
use native.Mathlib.Decide.{dec_lt}
use native.Mathlib.Omega.{arith}
use borrow.Author.Tests.{ne_eqb}
use lib.Dec.{eqb}
use lib.IntN.{ℤ, pos, negsuc}
use lib.Seq.{append_snoc}
use Rattle.sbr_grid.specs.declared.FrameClass.{FrameClass}
use Rattle.sbr_grid.specs.declared.FrameClass.TheVariants.{FixFix, FixVar, VarFix, VarVar}
use Rattle.std.specs.List.{list_all}
use Rattle.sbr_reader.specs.Read.{Accepted}
use Rattle.sbr_list.specs.Listing.{decimal, signed, spaced, class_name, resolution, frame_line}
use Rattle.sbr_list.proofs.Lines.{decimal_one, decimal_two, decimal_three}
use Rattle.sbr_text.proofs.Printed.{shown, shown-line}
use Rattle.sbr_make.specs.Making.{lines_of}

-- no byte is a line feed
abbrev pub Plain : List ℕ → Type 0
Plain l = list_all (λ b. not (eqb b 10)) l ≡ true

-- such bytes before a line feed are the first line
pub first-line : (l r : List ℕ) → Plain l → lines_of (l ++ (10 ∷ r)) ≡ l ∷ lines_of r
unfolding lines_of
first-line [] r h = refl
first-line (b ∷ l) r h = let p = simp and-eq-true_iff at h in rw (not-true (eqb b 10) p.0, first-line l r p.1)

-- two such texts
plain_both : (a b : List ℕ) → Plain a → Plain b → Plain (a ++ b)
plain_both [] b h k = k
plain_both (x ∷ a) b h k = let p = simp and-eq-true_iff at h in rw p.0 (plain_both a b p.1 k)

-- a number
pub plain_decimal : (n : ℕ) → Plain (decimal n)
plain_decimal n = elim (dec_lt n 10) [
  | yes h ↦ rw (decimal_one n h, digit n)
  | no h ↦ elim (dec_lt n 100) [
    | yes k ↦ rw (decimal_two n (omega arith) k, digit (n / 10), digit (n % 10))
    | no k ↦ rw (decimal_three n (omega arith), digit (n / 100), digit (n / 10 % 10), digit (n % 10))
  ]
]
  where
    digit : (x : ℕ) → eqb (48 + x) 10 ≡ false
    digit x = ne_eqb (48 + x) 10 (λ e. omega arith)

-- one with its sign
plain_signed : (z : ℤ) → Plain (signed z)
unfolding signed
plain_signed (pos n) = plain_decimal n
plain_signed (negsuc n) = plain_decimal (suc n)

-- several
plain_spaced : (l : List ℕ) → Plain (spaced l)
unfolding spaced
plain_spaced [] = refl
plain_spaced (x ∷ []) = plain_decimal x
plain_spaced (x ∷ y ∷ l) = plain_both (decimal x) (32 ∷ spaced (y ∷ l)) (plain_decimal x) (plain_spaced (y ∷ l))

-- a class
plain_class : (c : FrameClass) → Plain (class_name c)
plain_class FixFix = refl
plain_class FixVar = refl
plain_class VarFix = refl
plain_class VarVar = refl

-- resolutions
plain_letters : (l : List Bool) → Plain (map resolution l)
plain_letters [] = refl
plain_letters (true ∷ l) = plain_letters l
plain_letters (false ∷ l) = plain_letters l

-- a frame's line before its line feed
plain_shown : (i : ℕ) (f : Accepted) → Plain (shown i f)
plain_shown i f =
    plain_both (decimal i) _ (plain_decimal i)
    (plain_both (class_name f.grid.frame_class) _ (plain_class f.grid.frame_class)
    (plain_both (spaced f.time.t_e) _ (plain_spaced f.time.t_e)
    (plain_both (spaced f.time.t_q) _ (plain_spaced f.time.t_q)
    (plain_both (signed f.time.l_a) _ (plain_signed f.time.l_a) (plain_letters f.grid.freq_res)))))

-- the first line of a text that begins with a frame's
pub frame_line_lem : (i : ℕ) (f : Accepted) (r : List ℕ) → lines_of (frame_line i f ++ r) ≡ shown i f ∷ lines_of r
frame_line_lem i f r =
    ap (λ l. lines_of (l ++ r)) (sym (shown-line i f)) ∙ ap lines_of (append_snoc (shown i f) 10 r) ∙ first-line (shown i f) r (plain_shown i f)
