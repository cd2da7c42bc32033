use Rattle.std.proofs.Common.{◌≡◌, ◌+◌}
use lib.Ieee.{Float}
use Rattle.sbr_qmf.specs.Qmf.{columns, norm_sqr}
use Rattle.sbr_floats.specs.Floats.{total}
use Rattle.sbr_energy.specs.declared.Start.{Start}
use Rattle.sbr_energy.proofs.band_sums.Given as goal

abbrev pub invariant-loop-i : goal.invariant-loop-i
invariant-loop-i l =
    let sum : Start → Float = λ start. total (λ j. norm_sqr (columns l.x start.column (start.band + j))) l.i in
    (l.sums.c ≡ sum l.c) × (l.sums.d ≡ sum l.d) × (l.sums.e ≡ sum l.e) × (l.sums.f ≡ sum l.f)
