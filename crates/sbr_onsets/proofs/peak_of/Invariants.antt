use Rattle.std.proofs.Common.{◌≡◌, false}
use lib.Ieee.{is_nan}
use Rattle.sbr_onsets.specs.Onsets.{energy_at, peak_for}
use Rattle.sbr_onsets.proofs.peak_of.Given as goal

abbrev pub invariant-loop-x : goal.invariant-loop-x
invariant-loop-x l = (l.peak ≡ peak_for (energy_at l.energies) l.x-index) × (is_nan l.peak ≡ false)
