use Rattle.std.proofs.Common.{◌≡◌, ◌-◌, sym, length, reverse, arith}
use Rattle.std.proofs.lemmas.List.{length-reverse}
use Rattle.sbr_borders.proofs.Walks.{steps_begin, steps_next, steps-end, down_steps, left_begin, left-next}
use Rattle.sbr_borders.proofs.trailing_lengths.Goals as goal

pub loop-b-init : goal.loop-b-init
loop-b-init c =
    let a = c.args in
    let bs = a.borders.now in
    let z : length bs - length bs ≡ 0 = omega arith in
    rw (c.into_iter-b-iterator.ensures.into_iter_gives, c.rev-b-items.ensures.source, c.iter.ensures.rest)
    (left_begin bs, rw z (steps_begin (length-reverse bs) c.requires c.new-out.ensures (sym (down_steps a.t (reverse bs)))))

pub push-requires : goal.push-requires
push-requires c =
    let s = c.loop-b in
    let n = left-next c.args.borders.now _ _ _ s.invariant.0 c.in-Some.ensures.steps in
    omega (arith, s.invariant.1.count, n.0)

pub loop-b-preserved : goal.loop-b-preserved
loop-b-preserved c =
    let s = c.loop-b in
    let n = left-next c.args.borders.now _ _ _ s.invariant.0 c.in-Some.ensures.steps in
    (n.3, rw n.2 (steps_next s.invariant.1 _ _ _ n.0 n.1 c.saturating_sub.ensures c.push.ensures))

pub returns : goal.returns
returns c =
    let s = c.loop-b in
    (steps-end s.invariant.1 (omega (arith, c.in-None.ensures.steps.0)), omega (arith, s.invariant.1.count, c.in-None.ensures.steps.0))
