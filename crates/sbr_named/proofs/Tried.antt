-- The search through the shapes.
use Rattle.std.specs.Prelude.{Option, Some}
use Rattle.std.specs.Option.{option_map, ok_or}
use Rattle.std.specs.List.{find, range_with_len}
use mathlib.Core.Path.{◌≡◌, refl, ap}
use mathlib.Core.Bool.{Bool, true, false, cond}
use mathlib.Core.List.{List, map}
use Prim.Native.Nat.{ℕ, zero, suc, ◌+◌, ◌≤◌, ◌<◌}
use native.Mathlib.Omega.{arith}
use lib.IntN.{ℤ}
use lib.ListN.{length}
use Rattle.sbr_grid.specs.declared.SbrGrid.{SbrGrid}
use Rattle.sbr_grid.specs.declared.Refusal.TheVariants.{NoGrid}
use Rattle.sbr_grid.specs.Refusals.{result_map}
use Rattle.sbr_grid.specs.Grid.{Grid, view_of, record_of}
use Rattle.sbr_named.specs.declared.shape.TheConstants.{SHAPES}
use Rattle.sbr_named.specs.declared.shape.Shape.{Shape}
use Rattle.sbr_named.specs.Shapes.{shape_at, candidate, has_borders, named}
use Rattle.sbr_named.proofs.Stored.{candidate-view}

module _ (n : ℕ) (bs : List ℕ) (res : List Bool) (mark : ℤ) (one : 0 < length res) (few : length res ≤ 5) where
  -- the record of shape k, and whether it has what is named
  abbrev pub tried : ℕ → Grid
  tried k = candidate n bs res mark (shape_at k)

  abbrev pub passes : ℕ → Bool
  passes k = has_borders n bs mark (tried k)

  -- what the program makes of a shape, and its test of that
  abbrev made : Shape → SbrGrid
  made s = record_of (candidate n bs res mark s)

  abbrev has : SbrGrid → Bool
  has g = has_borders n bs mark (view_of g)

  -- the test says the same
  has-is : (k : ℕ) → k < 7 → has (made (shape_at k)) ≡ passes k
  has-is k h = ap (has_borders n bs mark) (candidate-view n bs res mark k h one few)

  -- the next law, by what the test of shape k says
  one_more : (b : Bool) (k : ℕ) (r : Option SbrGrid) (o : Option ℕ) → ok_or r NoGrid ≡ result_map record_of (ok_or (option_map tried o) NoGrid)
      → ok_or (cond b (Some (made (shape_at k))) r) NoGrid ≡ result_map record_of (ok_or (option_map tried (cond b (Some k) o)) NoGrid)
  one_more true k r o e = refl
  one_more false k r o e = e

  -- the first of d shapes from k on that passes
  found_by : (k d : ℕ) → k + d ≡ 7 → let ks = range_with_len k d in
      ok_or (find has (map (λ j. made (shape_at j)) ks)) NoGrid ≡ result_map record_of (ok_or (option_map tried (find passes ks)) NoGrid)
  found_by k zero e = refl
  found_by k (suc d) e =
      let ks = range_with_len (k + 1) d in
      rw (has-is k (omega arith))
      (one_more (passes k) k (find has (map (λ j. made (shape_at j)) ks)) (find passes ks) (found_by (k + 1) d (omega arith)))

  -- the first of all is the one that is named
  pub found : ok_or (find has (map made SHAPES)) NoGrid ≡ result_map record_of (ok_or (named n bs res mark) NoGrid)
  unfolding named
  found = found_by 0 7 refl
