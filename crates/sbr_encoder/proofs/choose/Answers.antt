-- `sbr_encoder::choose` meets its contract.
use mathlib.Core.Path.{◌≡◌, ap, ◌∙◌}
use native.Mathlib.Omega.{arith}
use lib.Ieee.{nan}
use lib.ListN.{get_or}
use mir.Syntax.{w32}
use mir.ValLaws.{to_z-of_z}
use Prim.Native.Nat.{ℕ, ◌≤◌}
use Rattle.sbr_grid.specs.Grid.{record_of}
use Rattle.sbr_grid.proofs.Slots.{slot_range}
use Rattle.sbr_onsets.specs.Onsets.{halves_alike, onsets_for, lead_for}
use Rattle.sbr_choice.specs.Choice.{chosen_grid}
use Rattle.sbr_build.specs.Cases.{onset_list}
use Rattle.sbr_onsets.proofs.Onsets.{onsets_listed}
use Rattle.sbr_onsets.proofs.OnsetLead.{frame_case, lead_small}
use Rattle.sbr_encoder.proofs.Choices.{even_of, some_onset}
use Rattle.sbr_encoder.specs.Election.{has_onset}
use Rattle.sbr_encoder.proofs.choose.Goals as goal

pub onsets_of-onsets-requires : goal.onsets_of-onsets-requires
onsets_of-onsets-requires c = (slot_range _ c.requires).1

pub halves_alike-even-requires : goal.halves_alike-even-requires
halves_alike-even-requires c = (slot_range _ c.requires).1

pub overflow_cast-frame : goal.overflow_cast-frame
overflow_cast-frame c = omega (arith, slot_range _ c.requires)

pub invariant_of-frame : goal.invariant_of-frame
invariant_of-frame c =
    let r = slot_range _ c.requires in
    let lead_is : c.lead_of-lead.result ≡ lead_for c.args.num_time_slots c.args.t_e_last_prev = rw (to_z-of_z w32 _ c.ranges.t_e_last_prev) at c.lead_of-lead.ensures in
    let small : lead_for c.args.num_time_slots c.args.t_e_last_prev ≤ 3 = lead_small c.args.num_time_slots c.args.t_e_last_prev in
    record { bounds = record { least = r.0; most = r.1; held = omega arith } }

pub choose_grid-requires : goal.choose_grid-requires
choose_grid-requires c =
    -- the energy of a slot
    let energy = λ (i : ℕ). get_or c.args.e.now i nan in
    -- the onsets, as a list
    let listed : onset_list c.onsets_of-onsets.result ≡ onsets_for energy c.args.num_time_slots = onsets_listed _ _ c.onsets_of-onsets.ensures in
    -- the lead
    let lead_is : c.lead_of-lead.result ≡ lead_for c.args.num_time_slots c.args.t_e_last_prev = rw (to_z-of_z w32 _ c.ranges.t_e_last_prev) at c.lead_of-lead.ensures in
    rw (lead_is, listed) (frame_case c.args.num_time_slots c.args.t_e_last_prev energy c.requires)

pub returns-clause-grid_value : goal.returns-clause-grid_value
returns-clause-grid_value c =
    let energy = λ (i : ℕ). get_or c.args.e.now i nan in
    let listed : onset_list c.onsets_of-onsets.result ≡ onsets_for energy c.args.num_time_slots = onsets_listed _ _ c.onsets_of-onsets.ensures in
    let lead_is : c.lead_of-lead.result ≡ lead_for c.args.num_time_slots c.args.t_e_last_prev = rw (to_z-of_z w32 _ c.ranges.t_e_last_prev) at c.lead_of-lead.ensures in
    let a = c.args in
    -- where there is no onset, the halves were compared
    even_of a.variable_borders _ (halves_alike energy a.num_time_slots) c.lead_of-lead.result a.num_time_slots c.onsets_of-onsets.result _ c.choose_grid.ensures (λ z. grind arith)
    ∙ (λ i. record_of (chosen_grid a.variable_borders (halves_alike energy a.num_time_slots) (listed i) (lead_is i) a.num_time_slots))

pub returns-clause-transient_value : goal.returns-clause-transient_value
returns-clause-transient_value c =
    let o = c.onsets_of-onsets in
    some_onset o.result.count o.result.slot ∙ ap has_onset (onsets_listed _ _ o.ensures)
