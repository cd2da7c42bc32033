use Rattle.std.proofs.Common.{◌-◌, length, reverse}
use Rattle.sbr_borders.specs.Borders.{steps_down, all_even}
use Rattle.sbr_borders.proofs.Walks.{down, even_by, Walk, Left}
use Rattle.sbr_borders.proofs.trails_to.Given as goal

abbrev pub invariant-loop-b : goal.invariant-loop-b
invariant-loop-b l =
    let rest = l.b-iterator.iter.rest.now in
    let down_from = reverse l.borders in
    Left l.borders rest × Walk (even_by down) down_from (length l.borders) (all_even (steps_down l.t down_from)) (length l.borders - length rest) l.last
