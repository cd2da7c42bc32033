use lib.Ieee.{of_bits}
use Rattle.sbr_floats.proofs.Spread.{spread}
use Rattle.sbr_floats.proofs.spread_is_high.Goals as goal

pub returns : goal.returns
unfolding of_bits
returns c = spread c.args.quotient c.well_formed.0.1
