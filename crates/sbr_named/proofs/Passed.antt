-- What the tests of the writer and of the time grid say of a record that passes them.
use Rattle.std.specs.Prelude.{Ok}
use Rattle.std.proofs.lemmas.Bool.{and_parts}
use mathlib.Core.Path.{◌≡◌}
use mathlib.Core.Bool.{true, and-eq-true_iff}
use Prim.Native.Nat.{ℕ}
use Rattle.sbr_grid.specs.Grid.{Grid, num_env_of}
use Rattle.sbr_grid.specs.Times.{Times, is_slot_count}
use Rattle.sbr_time_grid.specs.TimeGrid.{t_e_of, rises, borders_fit, noise_fits, times, time_grid}
use Rattle.sbr_time_grid.proofs.Laws.{Counts, counts}
use Rattle.sbr_time_grid.proofs.Ends.{time_passes}
use Rattle.sbr_writer.specs.Write.{class_fits, fields_fit_of, writable}
use Rattle.sbr_writer.proofs.Writable.{Fields, fields_told}

-- a writable record has fields as the writer takes them, and the counts that its class can send
pub fit_fields : (g : Grid) → writable g ≡ true → Fields g
fit_fields g w = fields_told g (and_parts (fields_fit_of g) (class_fits g.frame_class g) w).0

pub fit_class : (g : Grid) → writable g ≡ true → class_fits g.frame_class g ≡ true
fit_class g w = (and_parts (fields_fit_of g) (class_fits g.frame_class g) w).1

-- a record with a time grid has passed each test of it
pub record Timed (n : ℕ) (g : Grid) (t : Times) : Type 0 where
  pub slots : is_slot_count n ≡ true
  pub counted : Counts g
  pub bytes : borders_fit g ≡ true
  pub up : rises (t_e_of n g) (num_env_of g) ≡ true
  pub noise : noise_fits g ≡ true
  pub value : t ≡ times n g

pub timed : (n : ℕ) (g : Grid) (t : Times) → time_grid n g ≡ Ok t → Timed n g t
timed n g t e =
    let p = time_passes n g t e in
    let v = simp and-eq-true_iff at p.tests in
    record { slots = p.slots; counted = counts g v.0.0.0; bytes = v.0.0.1; up = v.0.1; noise = v.1; value = p.value }
