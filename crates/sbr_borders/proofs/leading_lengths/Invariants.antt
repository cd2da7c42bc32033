use lib.ListN.{length}
use Rattle.sbr_build.specs.Slots.{slot_list}
use Rattle.sbr_borders.specs.Borders.{steps_up}
use Rattle.sbr_borders.proofs.Walks.{up, Steps}
use Rattle.sbr_borders.proofs.leading_lengths.Given as goal

abbrev pub invariant-loop-b : goal.invariant-loop-b
invariant-loop-b l = Steps up l.borders (length l.borders) (steps_up l.lead l.borders) l.b-index l.last (slot_list l.out)
