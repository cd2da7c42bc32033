use Rattle.std.proofs.Common.{sym, ap, ◌∙◌, reverse, arith}
use Rattle.sbr_borders.specs.Borders.{steps_up, steps_down}
use Rattle.sbr_borders.proofs.Walks.{all_even_is, reaches_by}
use Rattle.sbr_borders.proofs.reaches.Goals as goal

pub returns-then-leads_to : goal.returns-then-leads_to
returns-then-leads_to c =
    let a = c.args in
    let s = c.split_at.ensures in
    rw (← c.as_slice-borders.ensures.0)
    (reaches_by a.lead a.t _ _ _ _ _ (omega arith) (omega arith) (omega arith) (ap (steps_up a.lead) s.front) (all_even_is _ ∙ sym c.leads_to.ensures ∙ c.if-leads_to.true)
    (ap (λ l. steps_down a.t (reverse l)) s.back) (c.trails_to.ensures ∙ sym (all_even_is _)))
