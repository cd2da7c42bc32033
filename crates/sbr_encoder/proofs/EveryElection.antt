-- What holds of every elected record.
use Rattle.std.specs.Prelude.{Ok}
use mathlib.Core.Path.{◌≡◌, refl, ap, ◌∙◌}
use mathlib.Core.Bool.{Bool}
use mathlib.Core.List.{List, map}
use Prim.Native.Nat.{ℕ, ◌-◌}
use native.Mathlib.Omega.{arith}
use lib.Dec.{leb}
use lib.ListN.{length, length-map}
use Rattle.sbr_grid.specs.declared.FrameClass.{FrameClass}
use Rattle.sbr_grid.specs.declared.FrameClass.TheVariants.{FixFix, FixVar, VarFix, VarVar}
use Rattle.sbr_grid.specs.Refusals.{Outcome}
use Rattle.sbr_grid.specs.Grid.{by_class, Grid}
use Rattle.sbr_grid.specs.Times.{Times, is_slot_count}
use Rattle.sbr_grid.proofs.Outcomes.{unless_answered}
use Rattle.sbr_time_grid.proofs.Ends.{time_ends}
use Rattle.sbr_qmf.specs.Qmf.{SampleAt, columns, samples_needed}
use Rattle.sbr_energy.specs.Energy.{slot_energy}
use Rattle.sbr_writer.proofs.Writable.{writable_view}
use Rattle.sbr_parse.proofs.Inverse.{reads_back}
use Rattle.sbr_build.specs.Cases.{Case}
use Rattle.sbr_choice.specs.Choice.{chosen_grid}
use Rattle.sbr_choice.specs.Chosen.{Sound}
use Rattle.sbr_choice.proofs.Every.{chosen_is_sound}
use Rattle.sbr_bands.specs.Tables.{spans, tables_fit, entry, last_entry}
use Rattle.sbr_onsets.specs.Onsets.{halves_alike, onsets_for, lead_for}
use Rattle.sbr_means.proofs.Spans.{spans-length}
use Rattle.sbr_resolution.specs.Resolution.{elect_freq_res}
use Rattle.sbr_encoder.specs.Election.{with_freq_res, elected_for, elected_of, elect}
use Rattle.sbr_encoder.specs.Electable.{Electable, EveryElection, NotAtEnd, NeverAtEnd}
use Rattle.sbr_onsets.proofs.OnsetLead.{frame_case}
use Rattle.sbr_encoder.proofs.Resolution.{time-res, Kept, kept_res}
use Rattle.sbr_encoder.proofs.Kept.{chosen_kept}

-- a record that was read, and the bits behind it
reading : List Bool → Grid → Outcome (Grid × List Bool)
reading rest g = Ok (g, rest)

-- a grid that is sound and kept is sent
sent : (n lead : ℕ) (g : Grid) → Sound n lead g → Kept g → Electable n lead g
unfolding reading
sent n lead g s k = record {
  sound = s;
  fits = k.fits;
  reads = λ rest. reads_back g rest k.fits ∙ ap (reading rest) k.clear;
  kept = writable_view g k.fits;
}

-- so is a grid of another class than FixFix with other resolutions
sound_res : (n lead : ℕ) (fs : List Bool) (g : Grid) → length fs ≡ length g.freq_res → Sound n lead g → Sound n lead (with_freq_res fs g)
sound_res n lead fs g e s = record {
  time = s.time;
  derived = time-res n fs g e ∙ s.derived;
  starts = s.starts;
  ends_from = rw e s.ends_from;
  ends_by = rw e s.ends_by;
  unlike = rw e s.unlike;
}

-- by the class
resolved-sent : (c : FrameClass) (n lead : ℕ) (fs : List Bool) (g : Grid) → g.frame_class ≡ c → length fs ≡ length g.freq_res → Sound n lead g → Kept g
    → Electable n lead (by_class c g (with_freq_res fs g) (with_freq_res fs g) (with_freq_res fs g))
resolved-sent FixFix n lead fs g q e s k = sent n lead g s k
resolved-sent FixVar n lead fs g q e s k = sent n lead (with_freq_res fs g) (sound_res n lead fs g e s) (kept_res fs g (λ r. let z : ◌≡◌ {A = ℕ} 0 1 = cc in absurd (omega arith)) e k)
resolved-sent VarFix n lead fs g q e s k = sent n lead (with_freq_res fs g) (sound_res n lead fs g e s) (kept_res fs g (λ r. let z : ◌≡◌ {A = ℕ} 0 1 = cc in absurd (omega arith)) e k)
resolved-sent VarVar n lead fs g q e s k = sent n lead (with_freq_res fs g) (sound_res n lead fs g e s) (kept_res fs g (λ r. let z : ◌≡◌ {A = ℕ} 0 1 = cc in absurd (omega arith)) e k)

-- ---- from the answer to the record

-- the grid for onsets, with a time grid, in the form that the election gives it
for_onsets : (x : SampleAt) (high low : List ℕ) (n lead : ℕ) (variable even : Bool) (os : List ℕ) → Case n lead os
    → Electable n lead (elected_for x high low n lead variable even os).grid
for_onsets x high low n lead variable even os c =
    let g = chosen_grid variable even os lead n in
    let s = chosen_is_sound variable even n lead os c in
    let t = s.time in
    let ends = time_ends n g t s.derived in
    let fs = map (elect_freq_res x high low) (spans t.t_e) in
    let many : length fs ≡ length g.freq_res = rw (length-map (spans t.t_e) (elect_freq_res x high low), spans-length t.t_e 0 (length t.t_e - 1), ends.count) (omega arith) in
    rw s.derived (resolved-sent g.frame_class n lead fs g refl many s (chosen_kept variable even n lead os c))

pub every_election : EveryElection
unfolding elect
every_election n high low x previous variable e a =
    let s = unless_answered (is_slot_count n) _ _ a in
    let f = unless_answered (tables_fit high low) _ _ s.1 in
    let l = unless_answered (leb (samples_needed n) (length x)) _ _ f.1 in
    let v : e ≡ elected_of (columns x) high low n previous variable = cc l.1 in
    let en = slot_energy (columns x) (entry high 0) (last_entry high) in
    rw v (for_onsets (columns x) high low n (lead_for n previous) variable (halves_alike en n) (onsets_for en n) (frame_case n previous en s.0))

-- ---- the mark

-- a sound record has one time grid, and its mark is not the envelope count
pub not_at_end : (n lead : ℕ) (g : Grid) → Sound n lead g → NotAtEnd n g
not_at_end n lead g s t e m =
    let same : s.time ≡ t = cc (s.derived, e) in
    s.unlike (ap (λ (x : Times). x.l_a) same ∙ m)

pub never_at_end : NeverAtEnd
never_at_end n high low x previous variable e a = not_at_end n (lead_for n previous) e.grid (every_election n high low x previous variable e a).sound
