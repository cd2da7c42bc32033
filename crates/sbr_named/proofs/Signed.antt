-- Borders and marks as the program has them: signed numbers of 32 bits.
use mathlib.Core.Path.{◌≡◌, refl, sym, ◌∙◌}
use mathlib.Core.Bool.{Bool, true, false, false≢true}
use mathlib.Core.List.{List, [], ◌∷◌, map, map-map, map-id}
use Prim.Native.Nat.{ℕ, zero, suc, ◌+◌, ◌-◌, ◌≤◌}
use native.Mathlib.Omega.{arith}
use borrow.Author.Tests.{ltb-true, leb-true}
use lib.Dec.{T, leb}
use lib.IntN.{ℤ, pos, negsuc, nat_abs}
use lib.Signed.{lt_z, non_neg}
use lib.ListN.{get_or, get_or-map}
use Rattle.sbr_grid.specs.declared.FrameClass.{FrameClass}
use Rattle.sbr_grid.specs.Grid.{by_class}
use Rattle.std.specs.List.{list_all}
use Rattle.std.proofs.lemmas.Bool.{and_parts}
use Rattle.sbr_named.specs.Shapes.{pointer_for, from_zero_of}
use Rattle.sbr_named.specs.Code.{is_border}

-- ---- borders

-- every element of a list passes a test, and so does what stands past its end
every_at : {A : Type 0} (f : A → Bool) (d : A) (xs : List A) (i : ℕ) → f d ≡ true → list_all f xs ≡ true → f (get_or xs i d) ≡ true
every_at f d [] i z e = z
every_at f d (x ∷ xs) zero z e = (and_parts (f x) (list_all f xs) e).0
every_at f d (x ∷ xs) (suc i) z e = every_at f d xs i z (and_parts (f x) (list_all f xs) e).1

-- a number that is not negative and at most m
pub record Whole (z : ℤ) (m : ℕ) : Type 0 where
  pub positive : T (non_neg z)
  pub low : nat_abs z ≤ m

-- a border is such a number, up to 19
border_whole : (z : ℤ) → is_border z ≡ true → Whole z 19
border_whole (pos k) e = record { positive = tt; low = leb-true k 19 (and_parts (leb 0 k) (leb k 19) e).1 }
border_whole (negsuc k) e = absurd (false≢true e)

-- so is the number at any place of a list of borders, and past its end
pub border_at : (zs : List ℤ) (i : ℕ) → list_all is_border zs ≡ true → Whole (get_or zs i (pos 0)) 19
border_at zs i e = border_whole (get_or zs i (pos 0)) (every_at is_border (pos 0) zs i refl e)

-- it is at most 19
pub border_low : (zs : List ℤ) (i : ℕ) → list_all is_border zs ≡ true → get_or (map nat_abs zs) i 0 ≤ 19
border_low zs i e = rw (get_or-map nat_abs zs i (pos 0)) (border_at zs i e).low

-- whole numbers with a sign, without it
pub pos_back : (ns : List ℕ) → map nat_abs (map pos ns) ≡ ns
pos_back ns = map-map nat_abs pos ns ∙ map-id ns

-- no border is below 0
pub border_from_zero : (zs : List ℤ) → list_all is_border zs ≡ true → list_all from_zero_of zs ≡ true
border_from_zero [] e = refl
border_from_zero (pos b ∷ zs) e = border_from_zero zs (and_parts (is_border (pos b)) (list_all is_border zs) e).1
border_from_zero (negsuc b ∷ zs) e = absurd (false≢true e)

-- ---- marks

-- a mark below 0 is none, which pointer 0 gives
pub unmarked_pointer : (c : FrameClass) (l : ℕ) (z : ℤ) → lt_z z (pos 0) ≡ true → 0 ≡ pointer_for c l z
unfolding pointer_for
unmarked_pointer c l (pos m) t = absurd (omega (arith, ltb-true m 0 t))
unmarked_pointer c l (negsuc m) t = refl

-- any other has a pointer in Table 4.176
pub marked_pointer : (c : FrameClass) (l : ℕ) (z : ℤ) → lt_z z (pos 0) ≡ false
    → pointer_for c l z ≡ by_class c 0 (l + 1 - nat_abs z) (nat_abs z + 1) (l + 1 - nat_abs z)
unfolding pointer_for
marked_pointer c l (pos m) t = refl
marked_pointer c l (negsuc m) t = absurd (false≢true (sym t))
