use Rattle.std.proofs.Common.{◌≡◌, false, map, ◌-◌}
use Rattle.sbr_grid.specs.Grid.{first}
use Rattle.sbr_qmf.specs.Qmf.{columns}
use Rattle.sbr_bands.specs.Tables.{spans_from}
use Rattle.sbr_resolution.specs.Resolution.{elect_freq_res}
use Rattle.sbr_resolution.proofs.FrameSamples.resolutions.Given as goal

abbrev pub invariant-loop-l : goal.invariant-loop-l
invariant-loop-l l =
    l.out ≡ first false 5 (map (elect_freq_res (columns l.self.x.now) l.self.tables.high.now l.self.tables.low.now) (spans_from l.borders 0 (l.l - 1)))
