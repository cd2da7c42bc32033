use Rattle.std.proofs.Common.{sym, ◌∙◌, arith}
use Rattle.sbr_search.proofs.TryEnds.{end-early, end-dear, end-unfit, end-fit}
use Rattle.sbr_search.proofs.try_end.Goals as goal
use Rattle.sbr_search.proofs.try_end.Goals.{then-t-last_border-via-then-t-last_border, then-t-last_border-via-else-t-last_border+then-not-is_cheaper}

pub returns-then-t-last_border : goal.returns-then-t-last_border
returns-then-t-last_border c k =
    let lead = c.args.frame.lead in
    let last = rw (c.as_slice.ensures.0, c.from-lead.ensures) at c.last_border.ensures in
    elim c.then-t-last_border.branch [
      | then-t-last_border-via-then-t-last_border w ↦ end-early _ _ lead _ _ _ _ (omega (arith, last))
      | then-t-last_border-via-else-t-last_border+then-not-is_cheaper w ↦ end-dear _ _ _ _ _ _ _ (rw c.from.ensures at (sym (w.is_cheaper.ensures k) ∙ w.if-not-is_cheaper.true))
    ]

pub returns-in-Some : goal.returns-in-Some
returns-in-Some c k =
    let lead = c.args.frame.lead in
    let cheap = rw c.from.ensures at (sym (c.is_cheaper.ensures k) ∙ c.if-not-is_cheaper.false) in
    rw c.from.ensures
    (end-fit _ _ lead _ _ _ _ (omega (arith, rw (c.as_slice.ensures.0, c.from-lead.ensures) at c.last_border.ensures)) cheap _ (sym (rw (c.from-lead.ensures, c.from-t.ensures) at c.fitting.ensures) ∙ c.in-Some.is))

pub returns-in-None : goal.returns-in-None
returns-in-None c k =
    let lead = c.args.frame.lead in
    let cheap = rw c.from.ensures at (sym (c.is_cheaper.ensures k) ∙ c.if-not-is_cheaper.false) in
    end-unfit _ _ lead _ _ _ _ (omega (arith, rw (c.as_slice.ensures.0, c.from-lead.ensures) at c.last_border.ensures)) cheap (sym (rw (c.from-lead.ensures, c.from-t.ensures) at c.fitting.ensures) ∙ c.in-None.is)
