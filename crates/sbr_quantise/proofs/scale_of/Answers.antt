-- `sbr_quantise::scale_of` meets its contract.
use Rattle.std.proofs.Common.{sym, arith}
use mathlib.Core.Path.{subst}
use lib.Dec.{T}
use lib.Ieee.{binary64}
use lib.Ieee.Bits.{to_bits-lt}
use Rattle.sbr_quantise.proofs.Octaves.{scales}
use Rattle.sbr_quantise.proofs.scale_of.Goals as goal

pub overflow_sub-result : goal.overflow_sub-result
overflow_sub-result c = (scales c.args.energy c.well_formed.0.1 c.requires).0

pub returns : goal.returns
returns c = (
  (scales c.args.energy c.well_formed.0.1 c.requires).1,
  omega (arith, to_bits-lt binary64 c.args.energy (subst T (sym c.well_formed.0.1) tt)),
  omega arith,
)
