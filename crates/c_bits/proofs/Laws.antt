-- What a call comes to where its record could be formed: what it comes to for the record that was formed.
use Rattle.std.specs.Prelude.{Ok}
use mathlib.Core.Path.{◌≡◌, sym, ap, ◌∙◌}
use mathlib.Core.Bool.{Bool, true, false}
use Prim.Native.Nat.{ℕ}
use native.Mathlib.Omega.{arith}
use Rattle.sbr_grid.specs.declared.SbrGrid.{SbrGrid}
use Rattle.sbr_grid.specs.Refusals.{Outcome, result_map}
use Rattle.sbr_grid.specs.Grid.{view_of, record_of, Grid}
use Rattle.c_values.specs.Handed.{forming}

module _ {A : Type 0} (g : Grid) (f : Grid → Outcome A) (r : SbrGrid) (like : (h : Grid) → f (view_of (record_of h)) ≡ f h) where
  -- a record r was formed, and a grid's record answers as the grid does
  pub is_formed : (ok : Bool) → Ok r ≡ result_map record_of (forming ok (Ok g)) → forming ok (f g) ≡ f (view_of r)
  is_formed true k = let e : record_of g ≡ r = cc in sym (like g) ∙ ap (λ s. f (view_of s)) e
  is_formed false k = let z : ◌≡◌ {A = ℕ} 0 1 = cc in absurd (omega arith)
