use Rattle.std.proofs.Common.{max}
use Rattle.sbr_onsets.specs.Onsets.{energy_at, is_attack}
use Rattle.sbr_onsets.proofs.Onsets.{Scan}
use Rattle.sbr_onsets.proofs.detect_onsets.Given as goal

abbrev pub invariant-loop-s : goal.invariant-loop-s
invariant-loop-s l = Scan (is_attack (energy_at l.e) l.peak) l.nts l.count l.slot (max l.free l.s)
