-- A grid and its record have the same energies.
use Rattle.std.specs.Prelude.{Err}
use mathlib.Core.Path.{◌≡◌, refl}
use mathlib.Core.Bool.{Bool, true, false, cond}
use mathlib.Core.List.{List}
use Prim.Native.Nat.{ℕ}
use lib.Dec.{leb}
use lib.ListN.{length}
use lib.Ieee.{Float}
use Rattle.sbr_grid.specs.declared.Refusal.TheVariants.{SlotCount, Samples, Tables, TimeGrid}
use Rattle.sbr_grid.specs.Grid.{view_of, record_of, Grid}
use Rattle.sbr_grid.specs.Times.{is_slot_count}
use Rattle.sbr_time_grid.specs.TimeGrid.{counts_fit}
use Rattle.sbr_qmf.specs.Qmf.{columns, samples_needed}
use Rattle.sbr_bands.specs.Tables.{tables_fit}
use Rattle.sbr_envelopes.specs.Envelopes.{rows_of, energies}
use Rattle.c_values.proofs.Same.{same, counted, time_else}

-- a test that was passed is passed again
again : {A B : Type 0} (f : A → B) (p q : A) (r : B) (t : Bool) → cond t (f (cond t p q)) r ≡ cond t (f p) r
again f p q r true = refl
again f p q r false = refl

-- a grid whose counts don't fit has no energies: it is refused by the tests before the time grid, or has none
energy_else : (n : ℕ) (high low : List ℕ) (x : List Float) (room : ℕ) (g : Grid) → counts_fit g ≡ false
    → energies n high low x g room
    ≡ cond (is_slot_count n) (cond (tables_fit high low) (cond (leb (samples_needed n) (length x)) (Err TimeGrid) (Err Samples)) (Err Tables)) (Err SlotCount)
unfolding energies
energy_else n high low x room g e =
    rw (time_else n g e)
    (again (λ o. cond (tables_fit high low) (cond (leb (samples_needed n) (length x)) (rows_of (columns x) high low g room o) (Err Samples)) (Err Tables))
    (Err TimeGrid) (Err SlotCount) (Err SlotCount) (is_slot_count n))

-- a grid and its record have the same energies
pub energy_same : (n : ℕ) (high low : List ℕ) (x : List Float) (room : ℕ) (g : Grid) → energies n high low x (view_of (record_of g)) room ≡ energies n high low x g room
energy_same n high low x room g = same (λ g. energies n high low x g room) _ counts_fit counted (energy_else n high low x room) g
