use Rattle.std.proofs.Common.{◌≡◌, ◌+◌, ◌-◌, ◌*◌, refl, arith}
use Rattle.sbr_qmf.specs.Qmf.{columns}
use Rattle.sbr_means.proofs.Sums.{slot_none, slot_more}
use Rattle.sbr_means.proofs.Envelope.band_sum.Goals as goal

pub loop-i-init : goal.loop-i-init
loop-i-init c =
    let e : c.args.self.from + 0 ≡ c.args.self.from = omega arith in
    rw e (slot_none _ _)

pub loop-i-preserved : goal.loop-i-preserved
loop-i-preserved c =
    let l = c.loop-i in
    let a = c.args in
    let sums = c.band_sums-sums.ensures in
    let more = slot_more (columns a.self.x.now) a.k a.w a.self.from in
    more (a.self.from + 2 * l.i + 1) _ _ _ _ _ _ (omega arith) (omega arith) c.of_slot-e.ensures c.next-in-loop-i.ensures
    (more (a.self.from + 2 * l.i) _ _ _ _ _ _ (omega arith) refl c.of_slot-c.ensures c.next.ensures l.invariant sums.c_value sums.d_value)
    sums.e_value sums.f_value

pub returns-then-slots-eq1 : goal.returns-then-slots-eq1
returns-then-slots-eq1 c =
    let a = c.args in
    let sums = c.band_sums-sums-then-slots-eq1.ensures in
    -- the last slot is left
    let e : a.self.from + 2 * c.loop-i.i ≡ a.self.to - 1 = omega arith in
    slot_more (columns a.self.x.now) a.k a.w a.self.from (a.self.to - 1) _ _ _ _ _ _ (omega arith) (omega arith)
    c.of_slot-c-then-slots-eq1.ensures c.next-then-slots-eq1.ensures (rw e at c.loop-i.invariant) sums.c_value sums.d_value
