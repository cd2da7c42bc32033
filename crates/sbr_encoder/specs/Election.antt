-- The election of a frame's grid: `elect_grid` of src/sbr_encoder.rs.
use Rattle.std.specs.Prelude.{Bool, true, false, List, [], ◌∷◌, map, ℕ, leb, ℤ, length, Float, Ok}
use Rattle.sbr_grid.specs.declared.Refusal.TheVariants.{SlotCount, Samples, Tables}
use Rattle.sbr_grid.specs.Refusals.{Outcome, value_or, unless}
use Rattle.sbr_grid.specs.Grid.{by_class, Grid, made, record_of}
use Rattle.sbr_grid.specs.Times.{Times, is_slot_count}
use Rattle.sbr_time_grid.specs.TimeGrid.{time_grid}
use Rattle.sbr_qmf.specs.Qmf.{SampleAt, columns, samples_needed}
use Rattle.sbr_energy.specs.Energy.{slot_energy}
use Rattle.sbr_choice.specs.Choice.{chosen_grid, fallback_grid}
use Rattle.sbr_bands.specs.Tables.{entry, last_entry, tables_fit, spans}
use Rattle.sbr_onsets.specs.Onsets.{halves_alike, onsets_for, lead_for}
use Rattle.sbr_resolution.specs.Resolution.{elect_freq_res}
use Rattle.sbr_encoder.specs.declared.Election.{Election}

abbrev pub with_freq_res : List Bool → Grid → Grid
with_freq_res fs g =
    made g.frame_class g.num_noise fs g.var_bord_0 g.var_bord_1 g.rel_bord_0 g.rel_bord_1 g.pointer g.amp_override

-- FixFix keeps its resolution, in the other classes that of each envelope is elected
abbrev pub resolved : SampleAt → List ℕ → List ℕ → Grid → Times → Grid
resolved x high low g t =
    let elected = with_freq_res (map (elect_freq_res x high low) (spans t.t_e)) g in
    by_class g.frame_class g elected elected elected

-- a grid and whether the frame has an onset
pub record Elected : Type 0 where
  pub grid : Grid
  pub transient : Bool

abbrev pub has_onset : List ℕ → Bool
has_onset [] = false
has_onset (s ∷ os) = true

-- for onsets and evenness; a grid that has no time grid would not be sent
abbrev pub elected_for : SampleAt → List ℕ → List ℕ → ℕ → ℕ → Bool → Bool → List ℕ → Elected
elected_for x high low n lead variable even os =
    let g = chosen_grid variable even os lead n in
    record { grid = value_or (resolved x high low g) (fallback_grid os) (time_grid n g); transient = has_onset os }

-- the energies of the slots over the bands of the high table give onsets and evenness
abbrev pub elected_of : SampleAt → List ℕ → List ℕ → ℕ → ℤ → Bool → Elected
elected_of x high low n previous variable =
    let e = slot_energy x (entry high 0) (last_entry high) in
    elected_for x high low n (lead_for n previous) variable (halves_alike e n) (onsets_for e n)

unfoldable pub elect : ℕ → List ℕ → List ℕ → List Float → ℤ → Bool → Outcome Elected
elect n high low x previous variable =
    unless (is_slot_count n) SlotCount
    (unless (tables_fit high low) Tables
    (unless (leb (samples_needed n) (length x)) Samples
    (Ok (elected_of (columns x) high low n previous variable))))

-- the struct that a program hands out for it
abbrev pub election : Elected → Election
election e = record { grid = record_of e.grid; transient = e.transient }
