use Rattle.std.proofs.Common.{◌≡◌, ◌-◌, ◌≤◌, length, take}
use Rattle.sbr_qmf.specs.Qmf.{columns}
use Rattle.sbr_means.proofs.Places.{means}
use Rattle.sbr_means.proofs.Envelope.band_means.Given as goal

abbrev pub invariant-loop-j : goal.invariant-loop-j
invariant-loop-j l =
    (l.j ≤ length l.out) × (length l.out ≡ length l.initial.out)
    × (take l.j l.out ≡ take l.j (means (columns l.self.x.now) l.bands l.self.from l.self.to))

abbrev pub decreases-loop-j : goal.decreases-loop-j
decreases-loop-j l = length l.out - l.j
