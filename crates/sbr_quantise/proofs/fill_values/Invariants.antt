-- `sbr_quantise::fill_values` meets its contract.
use Rattle.sbr_quantise.specs.Quantise.{quantised}
use Rattle.sbr_quantise.proofs.Stored.{Stored}
use Rattle.sbr_quantise.proofs.fill_values.Given as goal

abbrev pub invariant-loop-i : goal.invariant-loop-i
invariant-loop-i l = Stored (quantised l.amp_res) l.energy l.initial.out l.out l.i
