use Rattle.std.proofs.Common.{◌≡◌, ◌+◌, ◌*◌}
use Rattle.sbr_qmf.specs.Qmf.{columns}
use Rattle.sbr_energy.specs.Energy.{band_total}
use Rattle.sbr_means.proofs.Envelope.band_sum.Given as goal

abbrev pub invariant-loop-i : goal.invariant-loop-i
invariant-loop-i l = l.sum ≡ band_total (columns l.self.x.now) l.self.from (l.self.from + 2 * l.i) l.k (l.k + l.w)
