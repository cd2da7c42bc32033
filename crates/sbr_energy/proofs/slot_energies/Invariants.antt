use Rattle.sbr_qmf.specs.Qmf.{columns}
use Rattle.sbr_floats.specs.Floats.{zero64}
use Rattle.sbr_energy.specs.Energy.{slot_energy}
use Rattle.sbr_energy.proofs.Laws.{Quarters}
use Rattle.sbr_energy.proofs.slot_energies.Given as goal

abbrev pub invariant-loop-s : goal.invariant-loop-s
invariant-loop-s l = Quarters (slot_energy (columns l.x) l.kl l.kh) zero64 l.n l.s l.out
