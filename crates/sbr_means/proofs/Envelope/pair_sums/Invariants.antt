use Rattle.std.proofs.Common.{◌≡◌, ◌+◌}
use Rattle.sbr_qmf.specs.Qmf.{columns}
use Rattle.sbr_energy.specs.Energy.{band_total}
use Rattle.sbr_means.proofs.Envelope.pair_sums.Given as goal

abbrev pub invariant-loop-t : goal.invariant-loop-t
invariant-loop-t l =
    let sum = band_total (columns l.self.x.now) l.self.from l.t in
    (l.pair.a ≡ sum l.k (l.k + l.w)) × (l.pair.b ≡ sum (l.k + l.w) (l.k + l.w + l.w))
