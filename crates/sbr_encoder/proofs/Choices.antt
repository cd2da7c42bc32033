-- Laws of the choice of a grid from onsets in an array.
use Rattle.std.specs.Prelude.{Ok}
use Rattle.sbr_grid.specs.declared.Refusal.TheVariants.{SlotCount, Samples, Tables}
use Rattle.sbr_grid.specs.Refusals.{unless, result_map}
use Rattle.sbr_grid.proofs.Outcomes.{unless_answered}
use Rattle.sbr_resolution.specs.Resolution.{framed}
use mathlib.Core.Path.{◌≡◌, refl, sym, ap, ◌∙◌}
use mathlib.Core.Bool.{Bool, true, false}
use mathlib.Core.List.{List, [], ◌∷◌}
use Prim.Native.Nat.{ℕ, zero, suc, ◌+◌}
use native.Mathlib.Omega.{arith}
use borrow.Author.Tests.{lt-ltb}
use lib.Dec.{ltb, leb}
use lib.IntN.{ℤ}
use lib.Ieee.{Float, nan}
use lib.ListN.{get_or, length}
use Rattle.sbr_grid.specs.declared.SbrGrid.{SbrGrid}
use Rattle.sbr_grid.specs.Grid.{first, Grid, view_of, record_of}
use Rattle.sbr_grid.proofs.Laws.{view_record}
use Rattle.sbr_grid.specs.Times.{Times, is_slot_count}
use Rattle.sbr_time_grid.specs.TimeGrid.{time_grid}
use Rattle.sbr_writer.specs.Write.{fields_fit_of, class_fits}
use Rattle.std.proofs.lemmas.Bool.{and_parts}
use Rattle.sbr_writer.proofs.Writable.{fields_told}
use Rattle.sbr_qmf.specs.Qmf.{SampleAt, columns, samples_needed}
use Rattle.sbr_energy.specs.Energy.{slot_energy, slot_energies}
use Rattle.sbr_bands.specs.Tables.{entry, last_entry, tables_fit}
use Rattle.sbr_onsets.specs.Onsets.{halves_alike, onsets_for, lead_for}
use Rattle.sbr_onsets.proofs.OnsetSame.{onsets-array, halves-array}
use Rattle.sbr_onsets.proofs.OnsetLead.{frame_case}
use Rattle.sbr_choice.proofs.Every.{chosen_is_sound}
use Rattle.sbr_build.specs.declared.Onsets.{Onsets}
use Rattle.sbr_build.specs.Cases.{onset_list}
use Rattle.sbr_choice.specs.Choice.{chosen_grid}
use Rattle.sbr_choice.proofs.ChoiceCases.{chosen_some}
use Rattle.sbr_encoder.specs.declared.Election.{Election}
use Rattle.sbr_encoder.specs.Election.{has_onset, resolved, elected_of, elect, election}
use Rattle.sbr_encoder.proofs.Kept.{chosen_kept}

-- whether the halves are alike counts only where there is no onset
even_by_lem : (v a b : Bool) (lead n : ℕ) (o : Onsets) (k : ℕ) → o.count ≡ k → (o.count ≡ 0 → a ≡ b) → chosen_grid v a (onset_list o) lead n ≡ chosen_grid v b (onset_list o) lead n
even_by_lem v a b lead n o zero e h = ap (λ (x : Bool). chosen_grid v x (onset_list o) lead n) (h e)
even_by_lem v a b lead n o (suc k) e h =
    chosen_some v a lead n o (λ z. omega (arith, e, z)) ∙ sym (chosen_some v b lead n o (λ z. omega (arith, e, z)))

pub even_same : (v a b : Bool) (lead n : ℕ) (o : Onsets) → (o.count ≡ 0 → a ≡ b) → chosen_grid v a (onset_list o) lead n ≡ chosen_grid v b (onset_list o) lead n
even_same v a b lead n o h = even_by_lem v a b lead n o o.count refl h

-- so too of the record of such a grid
pub even_of : (v a b : Bool) (lead n : ℕ) (o : Onsets) (r : SbrGrid) → r ≡ record_of (chosen_grid v a (onset_list o) lead n) → (o.count ≡ 0 → a ≡ b)
    → r ≡ record_of (chosen_grid v b (onset_list o) lead n)
even_of v a b lead n o r e h = e ∙ ap record_of (even_same v a b lead n o h)

-- there is an onset where the count is above 0
pub some_onset : (k : ℕ) (xs : List ℕ) → ltb 0 k ≡ has_onset (first 0 k xs)
some_onset zero xs = refl
some_onset (suc k) [] = lt-ltb 0 (suc k) (omega arith)
some_onset (suc k) (x ∷ xs) = lt-ltb 0 (suc k) (omega arith)

-- ---- the election, from the array of the slot energies

-- what the steps of the election leave: a record, its class and time grid, in the form that the election gives it
pub record Plan (x : SampleAt) (high low : List ℕ) (n : ℕ) (previous : ℤ) (variable : Bool) (r : SbrGrid) (transient : Bool) : Type 0 where
  pub grid : Grid
  pub time : Times
  pub view : view_of r ≡ grid
  pub whole : record_of (view_of r) ≡ r
  pub derived : time_grid n (view_of r) ≡ Ok time
  pub elects : elected_of x high low n previous variable ≡ record { grid = resolved x high low (view_of r) time; transient = transient }

-- the record that is chosen for the energies in the array is such a plan
pub planned : (x : SampleAt) (high low : List ℕ) (n : ℕ) (previous : ℤ) (variable : Bool) (e : List Float) (r : SbrGrid) (transient : Bool)
    → is_slot_count n ≡ true → e ≡ slot_energies x (entry high 0) (last_entry high) (n + 8)
    → r ≡ record_of (chosen_grid variable (halves_alike (λ i. get_or e i nan) n) (onsets_for (λ i. get_or e i nan) n) (lead_for n previous) n)
    → transient ≡ has_onset (onsets_for (λ i. get_or e i nan) n) → Plan x high low n previous variable r transient
planned x high low n previous variable e r transient slots q p t =
    let by = slot_energy x (entry high 0) (last_entry high) in
    let os : onsets_for (λ i. get_or e i nan) n ≡ onsets_for by n = ap (λ (l : List Float). onsets_for (λ i. get_or l i nan) n) q ∙ onsets-array x (entry high 0) (last_entry high) n in
    let hs : halves_alike (λ i. get_or e i nan) n ≡ halves_alike by n = ap (λ (l : List Float). halves_alike (λ i. get_or l i nan) n) q ∙ halves-array x (entry high 0) (last_entry high) n in
    let g = chosen_grid variable (halves_alike by n) (onsets_for by n) (lead_for n previous) n in
    let c = frame_case n previous by slots in
    let s = chosen_is_sound variable (halves_alike by n) n (lead_for n previous) (onsets_for by n) c in
    let k = chosen_kept variable (halves_alike by n) n (lead_for n previous) (onsets_for by n) c in
    let f = fields_told g (and_parts (fields_fit_of g) (class_fits g.frame_class g) k.fits).0 in
    let rg : r ≡ record_of g = p ∙ (λ i. record_of (chosen_grid variable (hs i) (os i) (lead_for n previous) n)) in
    let v : view_of r ≡ g = ap view_of rg ∙ view_record g f.most f.rel0 f.rel1 in
    record {
      grid = g;
      time = s.time;
      view = v;
      whole = ap record_of v ∙ sym rg;
      derived = ap (time_grid n) v ∙ s.derived;
      elects = rw s.derived (λ i. record { grid = resolved x high low (sym v i) s.time; transient = sym (t ∙ ap has_onset os) i });
    }

-- with its resolutions elected, it is what the election hands out
pub handed_out : (x : SampleAt) (high low : List ℕ) (n : ℕ) (previous : ℤ) (variable : Bool) (r s : SbrGrid) (transient : Bool) (p : Plan x high low n previous variable r transient)
    → s ≡ record_of (resolved x high low (view_of r) p.time)
    → ◌≡◌ {A = Election} (record { grid = s; transient = transient }) (election (elected_of x high low n previous variable))
handed_out x high low n previous variable r s transient p e =
    (λ i. record { grid = e i; transient = transient }) ∙ sym (ap election p.elects)

-- the election behind the tests that it shares with the energies
pub elect_framed : (n : ℕ) (high low : List ℕ) (x : List Float) (previous : ℤ) (variable : Bool)
    → elect n high low x previous variable ≡ result_map (λ s. elected_of (columns x) high low n previous variable) (framed n high low x)
unfolding elect
elect_framed n high low x previous variable = by (is_slot_count n) (tables_fit high low) (leb (samples_needed n) (length x))
  where
    by : (a b c : Bool) → unless a SlotCount (unless b Tables (unless c Samples (Ok (elected_of (columns x) high low n previous variable))))
        ≡ result_map (λ s. elected_of (columns x) high low n previous variable) (unless a SlotCount (unless b Tables (unless c Samples (Ok (n + 8)))))
    by true true true = refl
    by true true false = refl
    by true false c = refl
    by false b c = refl

-- what those tests leave where they are passed
pub framed_passed : (n : ℕ) (high low : List ℕ) (x : List Float) (s : ℕ) → Ok s ≡ framed n high low x → (is_slot_count n ≡ true) × (s ≡ n + 8)
framed_passed n high low x s e =
    let a = unless_answered (is_slot_count n) _ _ (sym e) in
    let b = unless_answered (tables_fit high low) _ _ a.1 in
    let c = unless_answered (leb (samples_needed n) (length x)) _ _ b.1 in
    (a.0, cc c.1)
