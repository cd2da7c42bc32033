use Rattle.std.proofs.Common.{◌-◌, length, reverse}
use Rattle.sbr_build.specs.Slots.{slot_list}
use Rattle.sbr_borders.specs.Borders.{steps_down}
use Rattle.sbr_borders.proofs.Walks.{down, Steps, Left}
use Rattle.sbr_borders.proofs.trailing_lengths.Given as goal

abbrev pub invariant-loop-b : goal.invariant-loop-b
invariant-loop-b l =
    let rest = l.b-iterator.iter.rest.now in
    let down_from = reverse l.borders in
    Left l.borders rest × Steps down down_from (length l.borders) (steps_down l.t down_from) (length l.borders - length rest) l.last (slot_list l.out)
