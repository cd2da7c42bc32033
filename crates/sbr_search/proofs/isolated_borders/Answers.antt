use Rattle.std.proofs.Common.{arith}
use Rattle.sbr_search.proofs.Bounds.{bounds}
use Rattle.sbr_search.proofs.Bare.{isolated_is, isolated_framed}
use Rattle.sbr_search.proofs.isolated_borders.Goals as goal

pub overflow_add-result : goal.overflow_add-result
overflow_add-result c =
    let b = bounds _ _ c.args.attacks.onsets c.args.attacks.case in
    omega (arith, b.few)

pub invariant_of-result : goal.invariant_of-result
invariant_of-result c =
    let a = c.args.attacks in
    let b = bounds _ _ a.onsets a.case in
    record { in_frame = isolated_framed a.onsets _ a.case a.some (rw (c.onset_at.ensures, c.onset_at-2.ensures, c.onset_at-3.ensures) (isolated_is a.onsets.count a.onsets.slot a.some b.few)) }

pub returns : goal.returns
returns c =
    let a = c.args.attacks in
    let b = bounds _ _ a.onsets a.case in
    rw (c.onset_at.ensures, c.onset_at-2.ensures, c.onset_at-3.ensures) (isolated_is a.onsets.count a.onsets.slot a.some b.few)
