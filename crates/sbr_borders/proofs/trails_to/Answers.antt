use Rattle.std.proofs.Common.{◌≡◌, ◌-◌, sym, ap, ◌∙◌, length, reverse, arith}
use Rattle.std.proofs.lemmas.List.{length-reverse}
use Rattle.sbr_borders.specs.Borders.{all_even}
use Rattle.sbr_borders.proofs.Walks.{down, walk-next, walk-stop, walk_end, down_steps, even_walk, left_begin, left-next}
use Rattle.sbr_borders.proofs.trails_to.Goals as goal

pub loop-b-init : goal.loop-b-init
loop-b-init c =
    let a = c.args in
    let bs = a.borders.now in
    let z : length bs - length bs ≡ 0 = omega arith in
    rw (c.into_iter-b-iterator.ensures.into_iter_gives, c.rev-b-items.ensures.source, c.iter.ensures.rest)
    (left_begin bs, rw z (record { size = length-reverse bs; rest = sym (ap all_even (down_steps a.t (reverse bs)) ∙ even_walk down a.t (reverse bs)) }))

pub returns-then-not-even_ok : goal.returns-then-not-even_ok
returns-then-not-even_ok c =
    let s = c.loop-b in
    let n = left-next c.args.borders.now _ _ _ s.invariant.0 c.in-Some.ensures.steps in
    walk-stop s.invariant.1 _ n.0 n.1 (sym (rw c.saturating_sub.ensures at c.even_ok.ensures) ∙ c.if-not-even_ok.true)

pub loop-b-preserved : goal.loop-b-preserved
loop-b-preserved c =
    let s = c.loop-b in
    let n = left-next c.args.borders.now _ _ _ s.invariant.0 c.in-Some.ensures.steps in
    (n.3, rw n.2 (walk-next s.invariant.1 _ n.0 n.1 (sym (rw c.saturating_sub.ensures at c.even_ok.ensures) ∙ c.if-not-even_ok.false)))

pub returns : goal.returns
returns c = walk_end c.loop-b.invariant.1 (omega (arith, c.in-None.ensures.steps.0))
