use Rattle.std.proofs.Common.{◌≡◌, ◌+◌, ◌-◌, false, map, length, refl, arith}
use Rattle.sbr_grid.proofs.First.{first-append}
use Rattle.sbr_qmf.specs.Qmf.{columns}
use Rattle.sbr_bands.specs.Tables.{entry, spans_from}
use Rattle.sbr_means.proofs.Spans.{mapped_length, mapped_more}
use Rattle.sbr_resolution.specs.Resolution.{elect_freq_res}
use Rattle.sbr_resolution.proofs.Borders.{borders_le}
use Rattle.sbr_resolution.proofs.FrameSamples.resolutions.Goals as goal

pub loop-l-init : goal.loop-l-init
unfolding spans_from
loop-l-init c = refl

pub elect_freq_res-requires : goal.elect_freq_res-requires
elect_freq_res-requires c =
    let t = c.args.borders.now in
    let l = c.loop-l.l in
    let e : l - 1 + 1 ≡ l = omega arith in (
      rw e at (c.requires.rising (l - 1) (omega arith)),
      omega (arith, borders_le t (length t - 1) (λ m h. c.requires.rising m (omega arith)) l (omega arith), c.requires.inside),
    )

pub loop-l-preserved : goal.loop-l-preserved
loop-l-preserved c =
    let a = c.args in
    let l = c.loop-l in
    let k = l.l - 1 in
    let e : k + 1 ≡ l.l = omega arith in
    let d : l.l + 1 - 1 ≡ k + 1 = omega arith in
    let f = elect_freq_res (columns a.self.x.now) a.self.tables.high.now a.self.tables.low.now in
    rw (l.invariant, c.elect_freq_res.ensures, d, mapped_more f a.borders.now k, e)
    (first-append false 5 k (map f (spans_from a.borders.now 0 k)) (f (record { from = entry a.borders.now k; to = entry a.borders.now l.l })) (mapped_length f a.borders.now 0 k) (omega arith))

pub returns : goal.returns
returns c =
    let e : c.loop-l.l ≡ length c.args.borders.now = omega arith in
    rw e at c.loop-l.invariant
