use Rattle.std.proofs.Common.{◌+◌, refl, arith}
use Rattle.sbr_qmf.specs.Qmf.{columns}
use Rattle.sbr_means.proofs.Sums.{slot_none, slot_more}
use Rattle.sbr_means.proofs.Envelope.pair_sums.Goals as goal

pub loop-t-init : goal.loop-t-init
loop-t-init c = (slot_none _ _, slot_none _ _)

pub loop-t-preserved : goal.loop-t-preserved
loop-t-preserved c =
    let l = c.loop-t in
    let a = c.args in
    let sums = c.band_sums-sums.ensures in
    let more = slot_more (columns a.self.x.now) in (
      more a.k a.w _ l.t _ _ _ _ _ _ (omega arith) refl c.of_slot-low.ensures c.next.ensures l.invariant.0 sums.c_value sums.d_value,
      more (a.k + a.w) a.w _ l.t _ _ _ _ _ _ (omega arith) refl c.of_slot-high.ensures c.next-in-loop-t.ensures l.invariant.1 sums.e_value sums.f_value,
    )
