use Rattle.std.proofs.Common.{◌∙◌, arith}
use Rattle.sbr_borders.proofs.Shifts.{prices_zip, prices_few}
use Rattle.sbr_borders.proofs.cost_of.Goals as goal

pub returns : goal.returns
returns c =
    let ws = c.args.wanted.now in
    let e = c.total_price.ensures ∙ prices_zip ws c.args.shifts.now in
    (e, omega (arith, e, prices_few ws c.args.shifts.now))
