use Rattle.std.proofs.Common.{◌≡◌, arith}
use Rattle.sbr_energy.proofs.Laws.{total_none, total_more}
use Rattle.sbr_energy.proofs.band_sums.Goals as goal

pub loop-i-init : goal.loop-i-init
loop-i-init c = (total_none _, total_none _, total_none _, total_none _)

pub loop-i-preserved : goal.loop-i-preserved
loop-i-preserved c =
    let sums = c.loop-i.invariant in (
      total_more _ _ _ _ sums.0 c.energy.ensures,
      total_more _ _ _ _ sums.1 c.energy-in-loop-i.ensures,
      total_more _ _ _ _ sums.2 c.energy-in-loop-i-2.ensures,
      total_more _ _ _ _ sums.3 c.energy-in-loop-i-3.ensures,
    )

pub returns-clause-e_value : goal.returns-clause-e_value
returns-clause-e_value c =
    let all : c.loop-i.i ≡ c.args.w = omega arith in
    rw all at c.loop-i.invariant.2

pub returns-clause-f_value : goal.returns-clause-f_value
returns-clause-f_value c =
    let all : c.loop-i.i ≡ c.args.w = omega arith in
    rw all at c.loop-i.invariant.3
