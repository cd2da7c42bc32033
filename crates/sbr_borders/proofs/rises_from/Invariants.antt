use lib.Dec.{ltb}
use lib.ListN.{length}
use Rattle.sbr_borders.specs.Borders.{rises_from}
use Rattle.sbr_borders.proofs.Walks.{Walk}
use Rattle.sbr_borders.proofs.rises_from.Given as goal

abbrev pub invariant-loop-b : goal.invariant-loop-b
invariant-loop-b l = Walk ltb l.borders (length l.borders) (rises_from l.lead l.borders) l.b-index l.last
