use Rattle.std.proofs.Common.{refl}
use lib.Ieee.{is_nan, of_bits}
use Rattle.sbr_onsets.specs.Onsets.{peak_for}
use Rattle.sbr_onsets.proofs.Onsets.{peak_more}
use Rattle.sbr_onsets.proofs.peak_of.Goals as goal

pub loop-x-init : goal.loop-x-init
unfolding peak_for is_nan of_bits
loop-x-init c = (refl, refl)

pub loop-x-preserved : goal.loop-x-preserved
loop-x-preserved c =
    (peak_more _ _ _ _ c.loop-x.invariant.0 c.raised-peak.ensures.value, c.raised-peak.ensures.number)
