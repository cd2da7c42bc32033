-- `c_send::send_frame` meets its contract.
use mathlib.Core.Path.{refl, sym, ◌∙◌}
use borrow.Author.Rules.{rules}
use lib.Dec.{eqb}
use mir.Syntax.{w32}
use mir.Val.{SFits}
use mir.ValLaws.{to_z-of_z}
use Rattle.sbr_run.specs.Place.{turn_from}
use Rattle.c_send.specs.Turns.{place_in}
use Rattle.c_values.proofs.Formed.{switched}
use Rattle.c_send.proofs.Sendings.{send_few, send_given}
use Rattle.c_send.proofs.send_frame.Goals as goal

pub give_record-requires : goal.give_record-requires
give_record-requires c =
    let a = c.args in
    let f : SFits w32 a.border.now = search rules in
    let v = switched _ _ c.in_ok-variable_borders.ensures in
    let t = turn_from a.num_time_slots a.tables.high.now a.tables.low.now a.samples.now (eqb a.variable_borders 1) a.bytes.now (place_in a.border.now a.position.now) in
    send_few t c.in_ok-sending.sending (rw (c.start.ensures, to_z-of_z w32 _ f, v.1) at c.in_ok-sending.ensures.answer) _ _ _ _ _ _ refl

pub returns : goal.returns
returns c =
    let a = c.args in
    let f : SFits w32 a.border.now = search rules in
    let l : SFits w32 c.in_ok-sending.sending.place.carried.border = search rules in
    let t = turn_from a.num_time_slots a.tables.high.now a.tables.low.now a.samples.now (eqb a.variable_borders 1) a.bytes.now (place_in a.border.now a.position.now) in
    let v = switched _ _ c.in_ok-variable_borders.ensures in
    let slots = sym c.is_slot_count.ensures ∙ c.if-not-is_slot_count.false in
    let g = c.give_record.ensures in
    let m = c.give_times.ensures in
    rw (slots, v.0, c.from.ensures, g.to_numbers_after, g.freq_res_after, g.rel_bord_0_after, g.rel_bord_1_after, m.t_e_after, m.t_q_after, m.l_a_after)
    (send_given t c.in_ok-sending.sending (rw (c.start.ensures, to_z-of_z w32 _ f, v.1) at c.in_ok-sending.ensures.answer) a.bytes.now _ _
    (rw (c.start.ensures, to_z-of_z w32 _ f, v.1) at c.send_frame.ensures.bytes) (to_z-of_z w32 _ l))
