use Rattle.std.proofs.Common.{refl, sym, arith}
use Rattle.sbr_borders.proofs.Walks.{steps_begin, steps_next, steps-end, up_steps}
use Rattle.sbr_borders.proofs.leading_lengths.Goals as goal

pub loop-b-init : goal.loop-b-init
loop-b-init c = let a = c.args in steps_begin refl c.requires c.new-out.ensures (sym (up_steps a.lead a.borders.now))

pub push-requires : goal.push-requires
push-requires c = omega (arith, c.loop-b.invariant.count)

pub loop-b-preserved : goal.loop-b-preserved
loop-b-preserved c = steps_next c.loop-b.invariant _ _ _ c.loop-b-test.true refl c.saturating_sub.ensures c.push.ensures

pub returns : goal.returns
returns c = let s = c.loop-b in (steps-end s.invariant (omega arith), omega (arith, s.invariant.count))
