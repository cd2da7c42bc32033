-- Laws of the record that is formed of what C hands in.
use Rattle.std.specs.Prelude.{Err, Ok}
use mathlib.Core.Path.{◌≡◌, refl, sym}
use mathlib.Core.Bool.{Bool, true, false, ◌&&◌}
use mathlib.Core.List.{List}
use Prim.Native.Nat.{ℕ, ◌%◌}
use native.Mathlib.Omega.{arith}
use borrow.Author.Tests.{leb-true}
use lib.Dec.{leb, eqb}
use lib.ListN.{length}
use Rattle.sbr_grid.specs.declared.FrameClass.{FrameClass}
use Rattle.sbr_grid.specs.declared.Refusal.{Refusal}
use Rattle.sbr_grid.specs.declared.Refusal.TheVariants.{Record}
use Rattle.sbr_grid.specs.Grid.{class_of, class_with_code}
use Rattle.sbr_grid.proofs.Outcomes.{unless_refused, unless_answered}
use Rattle.c_values.specs.declared.form.Handed.{Handed}
use Rattle.c_values.specs.Handed.{formed, forming}

-- a switch that is taken is 0 or 1, and on where it is 1
pub switched : (n : ℕ) (b : Bool) → Ok b ≡ forming (leb n 1) (Ok (eqb n 1)) → (leb n 1 ≡ true) × (b ≡ eqb n 1)
switched n b k = let t = unless_answered (leb n 1) Record (Ok (eqb n 1)) (sym k) in let c = t.1 in (t.0, cc)

module _ (h : Handed) (rel0 rel1 : List ℕ) where
  -- a class that is refused, by 5
  pub not_by_class : (e : Refusal) → Err e ≡ class_with_code h.frame_class → (formed h rel0 rel1 ≡ false) × (e ≡ Record)
  unfolding formed
  not_by_class e k = let t = unless_refused (leb h.frame_class 3) Record e (class_of h.frame_class) k in (rw t.0 refl, t.1)

  module _ (class : FrameClass) (k : Ok class ≡ class_with_code h.frame_class) where
    -- one that is taken
    taken : (leb h.frame_class 3 ≡ true) × (class ≡ class_of (h.frame_class % 4))
    taken =
        let t = unless_answered (leb h.frame_class 3) Record (Ok (class_of h.frame_class)) (sym k) in
        let l = leb-true h.frame_class 3 t.0 in
        let m : h.frame_class % 4 ≡ h.frame_class = omega arith in
        (t.0, rw m (let c = t.1 in cc))

    -- then the lists decide
    pub by_lists : formed h rel0 rel1 ≡ (leb h.num_rel_0 (length rel0) && leb h.num_rel_1 (length rel1))
    unfolding formed
    by_lists = rw (taken.0) refl

    pub class_is : class ≡ class_of (h.frame_class % 4)
    class_is = taken.1
