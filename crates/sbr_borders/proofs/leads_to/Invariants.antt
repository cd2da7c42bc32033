use lib.ListN.{length}
use Rattle.sbr_borders.specs.Borders.{steps_up, all_even}
use Rattle.sbr_borders.proofs.Walks.{up, even_by, Walk}
use Rattle.sbr_borders.proofs.leads_to.Given as goal

abbrev pub invariant-loop-b : goal.invariant-loop-b
invariant-loop-b l = Walk (even_by up) l.borders (length l.borders) (all_even (steps_up l.lead l.borders)) l.b-index l.last
