use Rattle.sbr_borders.proofs.Shifts.{first_count}
use Rattle.sbr_borders.proofs.Wanted.borders.Goals as goal

pub returns : goal.returns
returns c = (c.front.ensures _, first_count _ _ _ (c.front.ensures _))
