-- A grid's record answers as the grid does: what is formed answers as what is meant.
use Rattle.std.specs.Prelude.{Err}
use mathlib.Core.Path.{◌≡◌, refl, sym, ap, ◌∙◌}
use mathlib.Core.Bool.{Bool, true, false, cond}
use mathlib.Core.List.{List}
use Prim.Native.Nat.{ℕ, ◌≤◌}
use native.Mathlib.Omega.{arith}
use lib.ListN.{length}
use Rattle.sbr_grid.specs.declared.Refusal.TheVariants.{SlotCount, Record, TimeGrid}
use Rattle.sbr_grid.specs.Grid.{view_of, record_of, Grid, num_env_of}
use Rattle.sbr_grid.proofs.Laws.{view_record, lengths}
use Rattle.sbr_grid.specs.Times.{is_slot_count}
use Rattle.sbr_time_grid.specs.TimeGrid.{counts_fit, time_grid}
use Rattle.sbr_time_grid.proofs.Laws.{counts}
use Rattle.sbr_writer.specs.Write.{fields_fit_of, write_grid}
use Rattle.sbr_writer.proofs.Writable.{fields_told}

-- the lists of a grid are within a record
pub record Within (g : Grid) : Type 0 where
  pub env : num_env_of g ≤ 5
  pub rel0 : length g.rel_bord_0 ≤ 4
  pub rel1 : length g.rel_bord_1 ≤ 4

module _ {X : Type 0} (f : Grid → X) (x : X) (t : Grid → Bool) (within : (g : Grid) → t g ≡ true → Within g) (else : (g : Grid) → t g ≡ false → f g ≡ x) where
  -- the next law, by the tests of the grid and of the view of its record
  same_by : (g : Grid) (a b : Bool) → t g ≡ a → t (view_of (record_of g)) ≡ b → f (view_of (record_of g)) ≡ f g
  same_by g true b e k = let w = within g e in ap f (view_record g w.env w.rel0 w.rel1)
  same_by g false true e k =
      let w = within (view_of (record_of g)) k in
      let l = lengths (record_of g) in
      ap f (view_record g (omega arith) (omega arith) (omega arith))
  same_by g false false e k = else (view_of (record_of g)) k ∙ sym (else g e)

  -- a function that gives one value where the lists may not be within a record sees no difference between a grid and its record
  pub same : (g : Grid) → f (view_of (record_of g)) ≡ f g
  same g = same_by g _ _ refl refl

-- the writer refuses a grid whose fields don't fit
write_else : (l : List ℕ) (p : ℕ) (g : Grid) → fields_fit_of g ≡ false → write_grid l p g ≡ Err Record
unfolding write_grid
write_else l p g e = rw e

-- a grid is written alike from its record
pub write_same : (l : List ℕ) (p : ℕ) (g : Grid) → write_grid l p (view_of (record_of g)) ≡ write_grid l p g
write_same l p g =
    same (write_grid l p) (Err Record) fields_fit_of (λ g e. let t = fields_told g e in record { env = t.most; rel0 = t.rel0; rel1 = t.rel1 }) (write_else l p) g

-- a grid whose counts don't fit is refused by the slot count, or has no time grid
pub time_else : (n : ℕ) (g : Grid) → counts_fit g ≡ false → time_grid n g ≡ cond (is_slot_count n) (Err TimeGrid) (Err SlotCount)
unfolding time_grid
time_else n g e = rw e

-- the lists of one whose counts fit are within a record
pub counted : (g : Grid) → counts_fit g ≡ true → Within g
counted g e = let t = counts g e in record { env = t.few; rel0 = t.few0; rel1 = t.few1 }

-- a grid and its record have the same time grid
pub time_same : (n : ℕ) (g : Grid) → time_grid n (view_of (record_of g)) ≡ time_grid n g
time_same n g = same (time_grid n) _ counts_fit counted (time_else n) g
