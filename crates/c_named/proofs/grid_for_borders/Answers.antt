-- `c_named::grid_for_borders` meets its contract.
use mathlib.Core.Path.{sym, ◌∙◌}
use mir.Syntax.{w32}
use mir.ValLaws.{to_z-of_z}
use native.Mathlib.Omega.{arith}
use Rattle.sbr_grid.specs.Grid.{record_of}
use Rattle.sbr_grid.proofs.Outcomes.{passed_on, map_refused, map_answered}
use Rattle.c_values.specs.Given.{record_out}
use Rattle.c_values.proofs.Answers.{leaves-refused, leaves-answered, shown_record}
use Rattle.c_named.proofs.Given.{flagged_all, flags_lent, named_few}
use Rattle.c_named.proofs.grid_for_borders.Goals as goal

pub returns-in_err-grid : goal.returns-in_err-grid
returns-in_err-grid c =
    let slots = sym c.is_slot_count.ensures ∙ c.if-not-is_slot_count.false in
    let flags = sym (c.is_flagged.ensures ∙ flagged_all _) ∙ c.if-not-is_flagged.false in
    let lent = flags_lent c.args.resolutions.now c.flags-flags.result (omega arith) c.flags-flags.ensures in
    let o = map_refused record_of _ c.in_err-grid.field-0.0 (rw (lent, to_z-of_z w32 _ c.ranges.l_a) at c.in_err-grid.ensures) in
    rw (slots, flags) (leaves-refused record_out _ _ _ (passed_on _ _ c.from_residual.ensures.1) o)

pub give_record-requires : goal.give_record-requires
give_record-requires c = named_few _ _ _ _ _ c.in_ok-grid.ensures

pub returns : goal.returns
returns c =
    let slots = sym c.is_slot_count.ensures ∙ c.if-not-is_slot_count.false in
    let flags = sym (c.is_flagged.ensures ∙ flagged_all _) ∙ c.if-not-is_flagged.false in
    let lent = flags_lent c.args.resolutions.now c.flags-flags.result (omega arith) c.flags-flags.ensures in
    let o = map_answered record_of _ c.in_ok-grid.grid (rw (lent, to_z-of_z w32 _ c.ranges.l_a) at c.in_ok-grid.ensures) in
    let g = c.give_record.ensures in
    rw (slots, flags, g.to_numbers_after, g.freq_res_after, g.rel_bord_0_after, g.rel_bord_1_after, o.1.1)
    (leaves-answered record_out _ o.0 _ o.1.0 (shown_record o.0))
