use mathlib.Core.Path.{refl}
use native.Mathlib.Omega.{arith}
use lib.ListN.{length-append}
use Rattle.sbr_build.proofs.Shares.{shares_done, shares_stop, shares-next}
use Rattle.sbr_build.specs.Slots.{slot_list}
use Rattle.sbr_build.proofs.shared.Goals as goal

pub returns-then-left-len : goal.returns-then-left-len
returns-then-left-len c =
    let s = c.loop-remaining in
    (shares_stop (slot_list s.rel) _ _ _ _ (omega arith) c.share-len.ensures.0 c.if-left-len.true s.invariant.1, omega arith)

pub loop-remaining-preserved : goal.loop-remaining-preserved
loop-remaining-preserved c =
    let s = c.loop-remaining in
    (rw (c.push.ensures, length-append) (omega arith), shares-next (slot_list s.rel) _ _ _ _ _ (omega arith) c.share-len.ensures.0 c.if-left-len.false c.push.ensures s.invariant.1)

pub returns : goal.returns
returns c =
    let s = c.loop-remaining in
    (shares_done (slot_list s.rel) _ _ _ (omega arith) s.invariant.1, omega arith)

pub loop-remaining-init : goal.loop-remaining-init
loop-remaining-init c = rw c.new-rel.ensures (omega arith, refl)
