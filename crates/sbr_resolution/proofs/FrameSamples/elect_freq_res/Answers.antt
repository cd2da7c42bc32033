use Rattle.std.proofs.Common.{◌+◌, refl, sym, ◌∙◌, take, map, arith}
use lib.ListN.{length-take}
use Rattle.sbr_qmf.specs.Qmf.{columns}
use Rattle.sbr_bands.specs.Tables.{Span, spans}
use Rattle.sbr_bands.proofs.TableLaws.{tables}
use Rattle.sbr_means.specs.Means.{mean_in}
use Rattle.sbr_resolution.specs.Resolution.{is_spread}
use Rattle.sbr_resolution.proofs.Inside.{step_of, rest-all, end-within, inner-bands, rest-behind, spread-done, spread-turn, spread-skip, spread-stop, elect-short, elect-long, inner_few}
use Rattle.sbr_resolution.proofs.FrameSamples.elect_freq_res.Goals as goal
use Rattle.sbr_resolution.proofs.FrameSamples.elect_freq_res.Goals.{else-bands-ge2-via-then-bands-ge2+else-are_spread, else-bands-ge2-via-else-bands-ge2}

pub returns-then-to-from-lt-MIN_SLOTS : goal.returns-then-to-from-lt-MIN_SLOTS
returns-then-to-from-lt-MIN_SLOTS c = elect-short _ _ _ _ (omega arith)

pub slice_bounds-end-items-count : goal.slice_bounds-end-items-count
slice_bounds-end-items-count c = (tables _ _ c.args.self.ready.tables).low.some

pub slice_bounds-end-items-start : goal.slice_bounds-end-items-start
slice_bounds-end-items-start c = omega (arith, (tables _ _ c.args.self.ready.tables).low.some)

pub loop-end-init : goal.loop-end-init
loop-end-init c = (rest-all _ _ (tables _ _ c.args.self.ready.tables), refl)

pub overflow_add-bands : goal.overflow_add-bands
overflow_add-bands c =
    let t = tables _ _ c.args.self.ready.tables in
    let r = c.loop-end.invariant.0 in
    omega (arith, end-within _ _ _ _ t r _ (step_of _ _ _ _ (omega arith) c.bands_before-bands.ensures), r.few, t.high.few)

pub slice_bounds-are_spread-end : goal.slice_bounds-are_spread-end
slice_bounds-are_spread-end c =
    let t = tables _ _ c.args.self.ready.tables in
    let within = end-within _ _ _ _ t c.loop-end.invariant.0 _ (step_of _ _ _ _ (omega arith) c.bands_before-bands.ensures) in
    omega (arith, within, length-take (c.bands_before-bands.result + 1) c.loop-end.rest.now)

pub are_spread-requires-clause-fit : goal.are_spread-requires-clause-fit
are_spread-requires-clause-fit c =
    inner-bands _ _ _ _ (tables _ _ c.args.self.ready.tables) c.loop-end.invariant.0 _ (step_of _ _ _ _ (omega arith) c.bands_before-bands.ensures)

pub are_spread-requires-clause-few : goal.are_spread-requires-clause-few
are_spread-requires-clause-few c =
    let t = tables _ _ c.args.self.ready.tables in
    let r = c.loop-end.invariant.0 in
    let within = end-within _ _ _ _ t r _ (step_of _ _ _ _ (omega arith) c.bands_before-bands.ensures) in
    omega (arith, within, r.few, t.high.few, length-take (c.bands_before-bands.result + 1) c.loop-end.rest.now)

pub returns-then-are_spread : goal.returns-then-are_spread
returns-then-are_spread c =
    let t = tables _ _ c.args.self.ready.tables in
    let step = step_of _ _ _ _ (omega arith) c.bands_before-bands.ensures in
    let r = c.loop-end.invariant.0 in
    spread-stop _ _ _ _ _ _ (spread-turn (columns c.args.self.x.now) _ _ (record { from = c.args.from; to = c.args.to }) _ _ _ t r step) (sym c.if-are_spread.true ∙ c.are_spread.ensures)
    ∙ c.loop-end.invariant.1
    ∙ elect-long _ _ _ _ (omega arith)

pub slice_bounds-rest-count : goal.slice_bounds-rest-count
slice_bounds-rest-count c =
    let t = tables _ _ c.args.self.ready.tables in
    let within = end-within _ _ _ _ t c.loop-end.invariant.0 _ (step_of _ _ _ _ (omega arith) c.bands_before-bands.ensures) in
    omega arith

pub slice_bounds-rest-start : goal.slice_bounds-rest-start
slice_bounds-rest-start c =
    let t = tables _ _ c.args.self.ready.tables in
    let within = end-within _ _ _ _ t c.loop-end.invariant.0 _ (step_of _ _ _ _ (omega arith) c.bands_before-bands.ensures) in
    omega arith

pub loop-end-preserved : goal.loop-end-preserved
loop-end-preserved c =
    let a = c.args.self in
    let t = tables _ _ a.ready.tables in
    let l = c.loop-end in
    let r = l.invariant.0 in
    let k = c.bands_before-bands.result in
    let env : Span = record { from = c.args.from; to = c.args.to } in
    let step = step_of _ _ _ _ (omega arith) c.bands_before-bands.ensures in
    let skip = spread-skip (columns a.x.now) a.tables.high.now a.tables.low.now env (l.end-index + 1) (is_spread (map (mean_in (columns a.x.now) env) (spans (take (k + 1) l.rest.now))))
    (spread-turn (columns a.x.now) _ _ env _ _ _ t r step) in (
      rest-behind _ _ _ _ t r _ step,
      elim c.else-bands-ge2.branch [
        | else-bands-ge2-via-then-bands-ge2+else-are_spread w ↦ skip (sym w.if-are_spread.false ∙ w.are_spread.ensures) ∙ l.invariant.1
        | else-bands-ge2-via-else-bands-ge2 w ↦ skip (inner_few (columns a.x.now) env l.rest.now k (omega arith)) ∙ l.invariant.1
      ],
    )

pub returns : goal.returns
returns c =
    sym (spread-done _ _ _ _ _ (omega arith)) ∙ c.loop-end.invariant.1 ∙ elect-long _ _ _ _ (omega arith)
