use Rattle.std.proofs.Common.{◌≡◌, false, take}
use lib.Ieee.{inf, is_nan}
use Rattle.sbr_floats.specs.Floats.{zero64}
use Rattle.sbr_resolution.specs.Resolution.{largest_from, smallest_from}
use Rattle.sbr_resolution.proofs.is_spread.Given as goal

abbrev pub invariant-loop-m : goal.invariant-loop-m
invariant-loop-m l =
    (l.largest ≡ largest_from zero64 (take l.m-index l.means)) × (l.smallest ≡ smallest_from (inf false) (take l.m-index l.means))
    × (is_nan l.largest ≡ false) × (is_nan l.smallest ≡ false)
