-- The pointer of a mark, and the written bits by class and envelope count.
use mathlib.Core.Path.{◌≡◌, refl, ap, ◌∙◌}
use mathlib.Core.Bool.{true}
use Prim.Native.Nat.{ℕ, zero, suc, ◌+◌, ◌-◌, ◌*◌, ◌≤◌}
use native.Mathlib.Omega.{arith}
use borrow.Author.Tests.{le-leb, le-ltb}
use lib.IntN.{ℤ, pos, negsuc}
use lib.ListN.{length, length-append, length-reverse}
use Rattle.bits.proofs.Numbers.{length-bits_of}
use Rattle.sbr_grid.specs.declared.FrameClass.{FrameClass}
use Rattle.sbr_grid.specs.declared.FrameClass.TheVariants.{FixFix, FixVar, VarFix, VarVar}
use Rattle.sbr_grid.specs.Grid.{by_class, class_code, class_of, ptr_bits, Grid, num_env_of}
use Rattle.sbr_grid.proofs.Laws.{class_of_code}
use Rattle.sbr_time_grid.specs.TimeGrid.{mark_of}
use Rattle.sbr_time_grid.proofs.Marks.{pointer_some}
use Rattle.sbr_writer.specs.Syntax.{body_bits, grid_bits}
use Rattle.sbr_writer.specs.Write.{class_fits, writable}
use Rattle.sbr_writer.proofs.Gather.{length-twos}
use Rattle.sbr_writer.proofs.Writable.{one_told, two_told}
use Rattle.sbr_named.specs.Shapes.{pointer_for}
use Rattle.sbr_named.specs.Code.{is_mark}
use Rattle.sbr_named.proofs.Passed.{fit_class}

-- ---- the pointer of a mark

-- the pointer for the mark of p is p or less and has that mark, which is one that a frame can have
pub record Marked (c : FrameClass) (l p q : ℕ) : Type 0 where
  pub low : by_class c 0 q q q ≤ p
  pub same : mark_of c l (by_class c 0 q q q) ≡ mark_of c l p
  pub within : is_mark (mark_of c l p) ≡ true

-- a pointer above 0 counts from the last envelope back
from_last : (l p : ℕ) → suc p ≤ l → mark_of FixVar l (suc p) ≡ pos (l + 1 - suc p)
from_last l p h = pointer_some (suc p) _ _ (λ e. omega arith) ∙ rw (le-ltb (l + 1) (suc p) (omega arith))

-- in FIXVAR the pointer for the mark of p is p
trail_marked : (l p : ℕ) → l ≤ 5 → p ≤ l → Marked FixVar l p (pointer_for FixVar l (mark_of FixVar l p))
unfolding pointer_for
trail_marked l zero a b = record { low = omega arith; same = refl; within = refl }
trail_marked l (suc p) a b =
    let m = from_last l p b in
    let e : pointer_for FixVar l (mark_of FixVar l (suc p)) ≡ suc p = ap (pointer_for FixVar l) m ∙ omega arith in
    record { low = omega arith; same = ap (mark_of FixVar l) e; within = rw m (le-leb (l + 1 - suc p) 5 (omega arith)) }

-- in VARFIX it is p too, but for p = 1, which marks nothing: there it is 0
lead_marked : (l p : ℕ) → l ≤ 5 → p ≤ l → Marked VarFix l p (pointer_for VarFix l (mark_of VarFix l p))
unfolding pointer_for
lead_marked l zero a b = record { low = omega arith; same = refl; within = refl }
lead_marked l (suc zero) a b = record { low = omega arith; same = refl; within = refl }
lead_marked l (suc (suc p)) a b =
    let m = suc (suc p) in
    let e : m - 1 + 1 ≡ m = omega arith in
    record { low = omega arith; same = rw e; within = le-leb (m - 1) 5 (omega arith) }

-- in VARVAR pointers are those of FIXVAR
both_trail : (l : ℕ) (z : ℤ) → pointer_for VarVar l z ≡ pointer_for FixVar l z
unfolding pointer_for
both_trail l (pos m) = refl
both_trail l (negsuc m) = refl

-- so it is in every class, for a pointer of at most the envelope count
pub marked : (c : FrameClass) (l p : ℕ) → l ≤ 5 → p ≤ l → Marked c l p (pointer_for c l (mark_of c l p))
unfolding pointer_for
marked FixFix l p a b = record { low = omega arith; same = refl; within = refl }
marked FixVar l p a b = trail_marked l p a b
marked VarFix l p a b = lead_marked l p a b
marked VarVar l p a b =
    let t = trail_marked l p a b in
    rw (both_trail l (mark_of VarVar l p)) (record { low = t.low; same = t.same; within = t.within })

-- pointer 0 has no mark
pub no_mark : (c : FrameClass) (l : ℕ) → mark_of c l (by_class c 0 0 0 0) ≡ negsuc 0
no_mark FixFix l = refl
no_mark FixVar l = refl
no_mark VarFix l = refl
no_mark VarVar l = refl

-- ---- the written bits

-- those of a class with l envelopes
abbrev pub bit_count : FrameClass → ℕ → ℕ
bit_count c l = let w = 3 * l + ptr_bits l in by_class c 5 (w + 4) (w + 4) (w + 8)

-- the next law, by the class, with the two bits of the class
body_count : (c : FrameClass) (g : Grid) → class_fits c g ≡ true → length (body_bits c g) + 2 ≡ bit_count c (num_env_of g)
unfolding body_bits class_fits
body_count FixFix g b = simp (length-append, length-bits_of)
body_count FixVar g b =
    let t = one_told (length g.rel_bord_1) (num_env_of g) b in
    simp (length-append, length-bits_of, length-twos, length-reverse) (omega (arith, t.0))
body_count VarFix g b =
    let t = one_told (length g.rel_bord_0) (num_env_of g) b in
    simp (length-append, length-bits_of, length-twos) (omega (arith, t.0))
body_count VarVar g b =
    let t = two_told (length g.rel_bord_0) (length g.rel_bord_1) (num_env_of g) b in
    simp (length-append, length-bits_of, length-twos) (omega (arith, t.0))

-- a writable record's bits are told by its class and its envelope count alone
pub bit_count_lem : (g : Grid) → writable g ≡ true → length (grid_bits g) ≡ bit_count g.frame_class (num_env_of g)
unfolding grid_bits
bit_count_lem g e =
    simp (length-append, length-bits_of) (omega (arith, body_count g.frame_class g (fit_class g e)))

-- ---- the order of the classes

-- a number that falls from no class to the next falls from no class number to a larger one
pub class_rise : (f : FrameClass → ℕ) → f FixFix ≤ f FixVar → f FixVar ≤ f VarFix → f VarFix ≤ f VarVar
    → (i d : ℕ) → f (class_of i) ≤ f (class_of (i + d))
class_rise f a b c i zero = let z : i + 0 ≡ i = omega arith in rw z (omega arith)
class_rise f a b c i (suc d) =
    let z : i + suc d ≡ suc (i + d) = omega arith in
    rw z (omega (arith, class_rise f a b c i d, next (i + d)))
  where
    next : (k : ℕ) → f (class_of k) ≤ f (class_of (suc k))
    next zero = a
    next (suc zero) = b
    next (suc (suc zero)) = c
    next (suc (suc (suc k))) = omega arith

-- the written bits of a class rise with its code
pub bits_rise : (c d : FrameClass) (l : ℕ) → 1 ≤ l → class_code c ≤ class_code d → bit_count c l ≤ bit_count d l
bits_rise c d l a h =
    let z : class_code c + (class_code d - class_code c) ≡ class_code d = omega arith in
    rw (class_of_code c, z, class_of_code d) at (class_rise (λ x. bit_count x l) (omega arith) (omega arith) (omega arith) (class_code c) (class_code d - class_code c))
