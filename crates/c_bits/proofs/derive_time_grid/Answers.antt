-- `c_bits::derive_time_grid` meets its contract.
use mathlib.Core.Path.{refl, sym, ap, ◌∙◌}
use Rattle.sbr_grid.specs.Times.{time_record}
use Rattle.sbr_grid.proofs.Outcomes.{passed_on, map_refused, map_answered}
use Rattle.sbr_time_grid.specs.TimeGrid.{time_grid}
use Rattle.c_values.proofs.Same.{time_same}
use Rattle.c_bits.proofs.Laws.{is_formed}
use Rattle.c_bits.proofs.derive_time_grid.Goals as goal

pub returns-in_err-time : goal.returns-in_err-time
returns-in_err-time c =
    let slots = sym c.is_slot_count.ensures ∙ c.if-not-is_slot_count.false in
    let formed = is_formed _ (time_grid c.args.num_time_slots) c.in_ok-grid.grid (time_same _) _ c.in_ok-grid.ensures in
    let o = map_refused time_record _ c.in_err-time.field-0.0 c.in_err-time.ensures in
    rw (slots, formed, o) (record { answer = passed_on _ _ c.from_residual-in_err-time.ensures.1; outputs = refl })

pub returns : goal.returns
returns c =
    let slots = sym c.is_slot_count.ensures ∙ c.if-not-is_slot_count.false in
    let formed = is_formed _ (time_grid c.args.num_time_slots) c.in_ok-grid.grid (time_same _) _ c.in_ok-grid.ensures in
    let o = map_answered time_record _ c.in_ok-time.time c.in_ok-time.ensures in
    let g = c.give_times.ensures in
    let t = o.1.1 in
    rw (slots, formed, o.1.0) (record {
      answer = refl;
      outputs = λ i. ((g.t_e_after ∙ ap (λ x. x.t_e) t) i, (g.t_q_after ∙ ap (λ x. x.t_q) t) i, (g.l_a_after ∙ ap (λ x. x.l_a) t) i);
    })
