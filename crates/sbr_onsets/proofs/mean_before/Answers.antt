use Rattle.std.proofs.Common.{◌-◌, arith}
use Rattle.sbr_onsets.proofs.Onsets.{sum_part}
use Rattle.sbr_onsets.proofs.mean_before.Goals as goal

pub returns : goal.returns
returns c =
    let e = c.args.e.now in
    let s = c.args.s in
    rw (
      c.min.ensures,
      c.mean-before_4.ensures,
      c.mean-before_2.ensures,
      c.sum_of.ensures,
      c.sum_of-2.ensures,
      sum_part e (s - 4) s 4 (omega arith) (omega arith),
      sum_part e (s - 2) s 2 (omega arith) (omega arith),
    )
