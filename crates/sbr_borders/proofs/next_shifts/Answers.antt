use Rattle.std.proofs.Common.{refl, ◌∙◌, length, arith}
use lib.ListN.{length-set}
use lib.Seq.{drop-set-lt}
use Rattle.sbr_borders.proofs.Shifts.{no_border, turns_next, turns-stop, turns-end}
use Rattle.sbr_borders.proofs.next_shifts.Goals as goal

pub returns-then-next-i-clause-value : goal.returns-then-next-i-clause-value
returns-then-next-i-clause-value c =
    let s = c.loop-i in
    let k = c.shift_count.ensures in
    turns-stop no_border s.invariant.2 c.loop-i-test.true (omega arith) _ refl (omega (arith, k))

pub loop-i-preserved : goal.loop-i-preserved
loop-i-preserved c =
    let s = c.loop-i in
    let k = c.shift_count.ensures in (
      simp length-set s.invariant.0,
      drop-set-lt (length c.args.wanted.now) s.next s.i 0 c.loop-i-test.true ∙ s.invariant.1,
      turns_next no_border s.invariant.2 c.loop-i-test.true (omega arith) (omega (arith, k)),
    )

pub returns-clause-value : goal.returns-clause-value
returns-clause-value c = turns-end c.loop-i.invariant.2 (omega arith)
