use Rattle.std.proofs.Common.{◌≡◌, ◌+◌}
use Rattle.sbr_qmf.specs.Qmf.{columns}
use Rattle.sbr_resolution.proofs.Inside.{Rest, spreadFrom}
use Rattle.sbr_resolution.proofs.FrameSamples.elect_freq_res.Given as goal

abbrev pub invariant-loop-end : goal.invariant-loop-end
invariant-loop-end l =
    let tables = l.self.tables in
    let spread = spreadFrom (columns l.self.x.now) tables.high.now tables.low.now (record { from = l.from; to = l.to }) in
    Rest tables.high.now tables.low.now l.rest l.end-index × (spread (l.end-index + 1) ≡ spread 1)
