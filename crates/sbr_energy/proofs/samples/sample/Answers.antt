use Rattle.std.proofs.Common.{rules}
use Rattle.sbr_qmf.specs.Qmf.{columns}
use Rattle.sbr_energy.proofs.samples.sample.Goals as goal

pub returns : goal.returns
unfolding columns
returns c = search rules
