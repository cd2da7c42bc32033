use Rattle.std.proofs.Common.{refl, sym, arith}
use borrow.Author.Tests.{lt-ltb, le-ltb}
use Rattle.sbr_borders.proofs.Walks.{walk-next, walk-stop, walk_end, rises_walk}
use Rattle.sbr_borders.proofs.rises_from.Goals as goal

pub loop-b-init : goal.loop-b-init
loop-b-init c = record { size = refl; rest = sym (rises_walk _ _) }

pub returns-then-b-last : goal.returns-then-b-last
returns-then-b-last c = walk-stop c.loop-b.invariant _ c.loop-b-test.true refl (le-ltb _ _ c.if-b-last.true)

pub loop-b-preserved : goal.loop-b-preserved
loop-b-preserved c = walk-next c.loop-b.invariant _ c.loop-b-test.true refl (lt-ltb _ _ c.if-b-last.false)

pub returns : goal.returns
returns c = walk_end c.loop-b.invariant (omega arith)
