use Rattle.std.proofs.Common.{sym, ◌∙◌, arith}
use Rattle.sbr_search.proofs.TryEnds.{ends_next, ends-end, shifts_dear, shifts-fall, shifts-rise}
use Rattle.sbr_search.proofs.try_shifts.Goals as goal

pub returns-then-not-is_cheaper : goal.returns-then-not-is_cheaper
returns-then-not-is_cheaper c =
    let e = rw (c.borders.ensures.0, c.front.ensures 0) at c.cost_of-cost.ensures.0 in
    shifts_dear _ _ _ _ _ _ e (sym (c.is_cheaper.ensures c.args.w.now.count) ∙ c.if-not-is_cheaper.true)

pub returns-then-not-rises_from : goal.returns-then-not-rises_from
returns-then-not-rises_from c =
    shifts-fall _ _ _ _ _ _ (c.as_slice.ensures.0 ∙ c.borders_of-borders.ensures.value) (sym (rw c.from.ensures at c.rises_from.ensures) ∙ c.if-not-rises_from.true)

pub loop-over-preserved : goal.loop-over-preserved
loop-over-preserved c =
    (omega arith, ends_next 4 _ _ _ _ _ _ _ _ _ (omega arith) (c.try_end-now.ensures c.args.w.now.count) c.loop-over.invariant.1)

pub returns : goal.returns
returns c =
    shifts-rise _ _ _ _ _ _ c.borders_of-borders.ensures.value _ _ (sym (rw (c.from.ensures, c.as_slice.ensures.0) at c.rises_from.ensures) ∙ c.if-not-rises_from.false)
    (rw (c.borders.ensures.0, c.front.ensures 0) at c.cost_of-cost.ensures.0) (ends-end 4 _ _ _ _ _ _ _ _ (omega arith) c.loop-over.invariant.1)
