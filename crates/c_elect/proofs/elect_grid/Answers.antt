-- `c_elect::elect_grid` meets its contract.
use mathlib.Core.Path.{sym, ◌∙◌}
use mir.Syntax.{w32}
use mir.ValLaws.{to_z-of_z}
use Rattle.c_values.proofs.Formed.{switched}
use Rattle.c_elect.proofs.Given.{elect_few, elect_given}
use Rattle.c_elect.proofs.elect_grid.Goals as goal

pub give_record-requires : goal.give_record-requires
give_record-requires c = elect_few _ _ _ _ _ _ _ c.in_ok-elected.ensures

pub returns : goal.returns
returns c =
    let slots = sym c.is_slot_count.ensures ∙ c.if-not-is_slot_count.false in
    let g = c.give_record.ensures in
    let v = switched _ _ c.in_ok-variable_borders.ensures in
    let e = rw (to_z-of_z w32 _ c.ranges.previous_border, v.1) at c.in_ok-elected.ensures in
    rw (slots, v.0, c.from.ensures, g.to_numbers_after, g.freq_res_after, g.rel_bord_0_after, g.rel_bord_1_after)
    (elect_given _ _ _ _ _ _ _ e)
