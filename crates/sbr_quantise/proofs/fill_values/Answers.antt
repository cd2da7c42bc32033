use Rattle.std.proofs.Common.{arith}
use Rattle.sbr_quantise.specs.Quantise.{quantised}
use Rattle.sbr_quantise.proofs.Stored.{stored_more}
use Rattle.sbr_quantise.proofs.fill_values.Goals as goal

pub loop-i-preserved : goal.loop-i-preserved
loop-i-preserved c =
    let l = c.loop-i in
    let a = c.args in
    stored_more (quantised a.amp_res) a.energy.now a.out.now l.out l.i c.quantise.result (omega arith, omega arith) l.invariant c.quantise.ensures
