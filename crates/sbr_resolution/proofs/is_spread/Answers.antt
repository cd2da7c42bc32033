use Rattle.std.proofs.Common.{◌∙◌, arith}
use lib.Seq.{take_all}
use Rattle.sbr_resolution.proofs.Spread.{largest_none, smallest_none, largest_number, smallest_number, largest_next, smallest_next, spread_few, spread-low, spread-high}
use Rattle.sbr_resolution.proofs.is_spread.Goals as goal

pub returns-then-means-lt2 : goal.returns-then-means-lt2
returns-then-means-lt2 c = spread_few _ (omega arith)

pub loop-m-init : goal.loop-m-init
loop-m-init c = (largest_none, smallest_none, largest_number, smallest_number)

pub loop-m-preserved : goal.loop-m-preserved
loop-m-preserved c =
    let l = c.loop-m in (
      c.raised-largest.ensures.value ∙ largest_next _ _ l.m-index (omega arith) l.invariant.0,
      c.lowered-smallest.ensures.value ∙ smallest_next _ _ l.m-index (omega arith) l.invariant.1,
      c.raised-largest.ensures.number,
      c.lowered-smallest.ensures.number,
    )

pub returns-then-largest : goal.returns-then-largest
returns-then-largest c =
    let l = c.loop-m in
    let all = take_all l.m-index c.args.means.now (omega arith) in
    c.spread_is_high.ensures
    ∙ rw c.max.ensures (spread-high _ _ _ (omega arith) (rw all at l.invariant.0) (rw all at l.invariant.1) c.if-largest.true)

pub returns-else-largest : goal.returns-else-largest
returns-else-largest c =
    let l = c.loop-m in
    let all = take_all l.m-index c.args.means.now (omega arith) in
    c.if-largest.false ∙ spread-low _ _ _ (omega arith) (rw all at l.invariant.0) (rw all at l.invariant.1) c.if-largest.false
