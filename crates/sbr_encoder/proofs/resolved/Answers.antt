-- `sbr_encoder::resolved` meets its contract.
use native.Mathlib.Omega.{arith}
use Rattle.sbr_qmf.specs.Qmf.{columns}
use Rattle.sbr_resolution.proofs.Times.{bordered, recorded, recorded_count}
use Rattle.sbr_encoder.proofs.Resolves.{elects, timed_by}
use Rattle.sbr_encoder.proofs.resolved.Goals as goal

pub borders-requires : goal.borders-requires
borders-requires c =
    let t = c.requires.timed in
    (recorded _ _ t.0 _ t.1 (timed_by _ _ t.0 t.1 _ _ c.derive_time_grid.ensures c.unwrap-time.ensures)).few

pub resolutions-requires : goal.resolutions-requires
resolutions-requires c =
    let t = c.requires.timed in
    let r = timed_by _ _ t.0 t.1 _ _ c.derive_time_grid.ensures c.unwrap-time.ensures in
    rw (c.borders.ensures, (recorded _ _ t.0 _ t.1 r).borders, c.args.frame.framed) (bordered _ _ t.0 t.1)

pub returns-in_default : goal.returns-in_default
returns-in_default c = λ t e.
    let a = c.args in
    let r = timed_by _ _ t e _ _ c.derive_time_grid.ensures c.unwrap-time.ensures in
    let s = recorded _ _ t _ e r in
    let n = recorded_count _ a.grid t _ e r in
    elects (columns a.frame.samples.x.now) a.frame.samples.tables.high.now a.frame.samples.tables.low.now a.grid t c.requires.whole _ c.in_default.not-FixFix (omega (arith, s.count)) (rw (c.borders.ensures, s.borders) at c.resolutions.ensures)
