use Rattle.sbr_search.proofs.Bounds.{bounds}
use Rattle.sbr_search.proofs.Bare.{bare_is, bare_framed}
use Rattle.sbr_search.proofs.bare_borders.Goals as goal

pub slots-requires : goal.slots-requires
slots-requires c = (bounds _ _ c.args.attacks.onsets c.args.attacks.case).few

pub invariant_of-result : goal.invariant_of-result
invariant_of-result c =
    let a = c.args.attacks in
    let b = bounds _ _ a.onsets a.case in
    record { in_frame = bare_framed a.onsets _ a.case (rw (c.onset_borders.ensures, c.slots.ensures) (bare_is a.onsets.count a.onsets.slot b.few)) }

pub returns : goal.returns
returns c =
    let a = c.args.attacks in
    let b = bounds _ _ a.onsets a.case in
    rw (c.onset_borders.ensures, c.slots.ensures) (bare_is a.onsets.count a.onsets.slot b.few)
