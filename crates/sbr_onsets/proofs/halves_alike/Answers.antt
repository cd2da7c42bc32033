use Rattle.std.proofs.Common.{◌-◌, ◌/◌, sym, ◌∙◌, arith}
use Rattle.sbr_onsets.proofs.Onsets.{and_passed, and_failed, halves_is, totals, sum_part}
use Rattle.sbr_onsets.proofs.halves_alike.Goals as goal

pub returns-then-ratio : goal.returns-then-ratio
returns-then-ratio c =
    let e = c.args.e.now in
    let n = c.args.nts in
    -- the two tests on the sums that have been computed
    sym (halves_is e n _ _ (c.sum_of-first.ensures ∙ sym (totals e (n / 2) (omega arith)))
    (c.sum_of-second.ensures ∙ sum_part e (n / 2) n (n - n / 2) (omega arith) (omega arith)) ∙ and_passed _ _ c.if-ratio.true)

pub returns-else-ratio : goal.returns-else-ratio
returns-else-ratio c =
    let e = c.args.e.now in
    let n = c.args.nts in
    -- the two tests on the sums that have been computed
    sym (halves_is e n _ _ (c.sum_of-first.ensures ∙ sym (totals e (n / 2) (omega arith)))
    (c.sum_of-second.ensures ∙ sum_part e (n / 2) n (n - n / 2) (omega arith) (omega arith)) ∙ and_failed _ _ c.if-ratio.false)
