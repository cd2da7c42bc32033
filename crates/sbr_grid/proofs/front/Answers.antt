-- A front of an array is its first places, whatever stands for those that it lacks.
use Rattle.sbr_grid.proofs.First.{first_take}
use Rattle.sbr_grid.proofs.front.Goals as goal

pub returns : goal.returns
returns g c = λ fill. first_take fill c.args.count c.args.items.now (rw c.type_inv.items c.requires)
