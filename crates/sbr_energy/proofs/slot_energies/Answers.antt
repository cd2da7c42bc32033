use Rattle.std.proofs.Common.{◌≡◌, arith}
use Rattle.sbr_qmf.specs.Qmf.{columns}
use Rattle.sbr_floats.specs.Floats.{zero64}
use Rattle.sbr_energy.specs.Energy.{slot_energy}
use Rattle.sbr_energy.proofs.Laws.{slot_is, put_four, quarters-more, quarters-all}
use Rattle.sbr_energy.proofs.slot_energies.Goals as goal

pub loop-s-preserved : goal.loop-s-preserved
loop-s-preserved c =
    let a = c.args in
    let q = c.loop-s.invariant in
    let u = c.band_sums-first.ensures in
    let v = c.band_sums-second.ensures in
    let slot = slot_is (columns a.x.now) a.kl a.kh in
    quarters-more _ zero64 a.n _ _ _ (omega arith) (omega arith) (omega arith) q
    (put_four (slot_energy (columns a.x.now) a.kl a.kh) _ _ _ _ _ _ _ _ _
    (omega (arith, q.size)) (omega (arith, q.size)) (omega (arith, q.size)) (omega (arith, q.size))
    (slot _ _ _ _ _ c.of_slot-c.ensures c.next.ensures u.c_value v.c_value)
    (slot _ _ _ _ _ c.of_slot-d.ensures c.next-in-loop-s.ensures u.d_value v.d_value)
    (slot _ _ _ _ _ c.of_slot-e.ensures c.next-in-loop-s-2.ensures u.e_value v.e_value)
    (slot _ _ _ _ _ c.of_slot-f.ensures c.next-in-loop-s-3.ensures u.f_value v.f_value))

pub returns : goal.returns
returns c =
    let e : c.loop-s.s ≡ 6 = omega arith in
    quarters-all _ zero64 c.args.n c.loop-s.out (omega arith) (omega arith) (rw e at c.loop-s.invariant)
