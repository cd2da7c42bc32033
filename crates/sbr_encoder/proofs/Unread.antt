-- An election depends on the samples of the high table's bands alone, in the columns that are needed.
use Rattle.std.specs.Prelude.{Ok, Err}
use mathlib.Core.Path.{◌≡◌, refl}
use mathlib.Core.Bool.{Bool}
use mathlib.Core.List.{List}
use Prim.Native.Nat.{ℕ, ◌+◌, ◌-◌}
use native.Mathlib.Omega.{arith}
use lib.Dec.{leb}
use lib.IntN.{ℤ}
use lib.ListN.{length}
use Rattle.sbr_grid.specs.Refusals.{Outcome, value_or}
use Rattle.sbr_grid.specs.Grid.{Grid, num_env_of}
use Rattle.sbr_grid.specs.Times.{Times, is_slot_count}
use Rattle.sbr_grid.proofs.Outcomes.{unless-same}
use Rattle.sbr_time_grid.specs.TimeGrid.{time_grid}
use Rattle.sbr_time_grid.proofs.Ends.{time_ends}
use Rattle.sbr_qmf.specs.Qmf.{SampleAt, columns, samples_needed, AlikeIn}
use Rattle.sbr_energy.specs.Energy.{slot_energy}
use Rattle.sbr_energy.proofs.Alike.{slot_same}
use Rattle.sbr_bands.specs.Tables.{entry, last_entry, tables_fit}
use Rattle.sbr_bands.proofs.TableLaws.{Tables, tables}
use Rattle.sbr_means.proofs.Spans.{mapped_same}
use Rattle.sbr_onsets.specs.Onsets.{halves_alike, onsets_for, lead_for}
use Rattle.sbr_onsets.proofs.OnsetSame.{onsets_same, halves_same}
use Rattle.sbr_choice.specs.Choice.{chosen_grid, fallback_grid}
use Rattle.sbr_resolution.specs.Resolution.{elect_freq_res}
use Rattle.sbr_resolution.proofs.Alike.{freq-res-same}
use Rattle.sbr_resolution.proofs.Times.{border_by}
use Rattle.sbr_encoder.specs.Election.{resolved, elected_of, elect}
use Rattle.sbr_encoder.specs.Unread.{ElectionsUnread}

module _ (n : ℕ) (high low : List ℕ) (x y : SampleAt) (f : Tables high low) (a : AlikeIn (n + 8) (entry high 0) (last_entry high) x y) where
  -- the resolutions of a grid, by what its time grid comes to
  resolved-same : (g d : Grid) (o : Outcome Times) → time_grid n g ≡ o → value_or (resolved x high low g) d o ≡ value_or (resolved y high low g) d o
  resolved-same g d (Err e) q = refl
  resolved-same g d (Ok t) q =
      let k : length t.t_e - 1 ≡ num_env_of g = omega (arith, (time_ends n g t q).count) in
      rw (mapped_same (elect_freq_res x high low) (elect_freq_res y high low) t.t_e 0 (length t.t_e - 1)
      (λ j h l. freq-res-same (n + 8) high x y f.high a _ (border_by n g t q (j + 1) (omega arith)) low))

  -- the election, by lead and switch: onsets and evenness are the same, and so are the resolutions
  elected-same : (previous : ℤ) (variable : Bool) → elected_of x high low n previous variable ≡ elected_of y high low n previous variable
  elected-same previous variable =
      let e = slot_energy x (entry high 0) (last_entry high) in
      let e' = slot_energy y (entry high 0) (last_entry high) in
      let s = slot_same (n + 8) (entry high 0) (last_entry high) x y a in
      rw (halves_same e e' n (λ i l. s i (omega arith)), onsets_same e e' n s)
      (let g = chosen_grid variable (halves_alike e' n) (onsets_for e' n) (lead_for n previous) n in
      rw (resolved-same g (fallback_grid (onsets_for e' n)) (time_grid n g) refl))

pub elections_unread : ElectionsUnread
unfolding elect
elections_unread n high low x y previous variable a =
    unless-same (is_slot_count n) _ _ _ (λ s.
    unless-same (tables_fit high low) _ _ _ (λ f.
    rw a.enough
    (unless-same (leb (samples_needed n) (length y)) _ _ _ (λ l.
    rw (elected-same n high low (columns x) (columns y) (tables high low f) a.same previous variable)))))
