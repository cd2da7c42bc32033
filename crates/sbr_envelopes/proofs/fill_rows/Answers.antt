use Rattle.std.proofs.Common.{◌-◌, length, arith, get_or, false}
use Rattle.sbr_bands.proofs.TableLaws.{tables}
use Rattle.sbr_envelopes.proofs.Rows.{filled_none, row-room, row-stored, filled-all}
use Rattle.sbr_envelopes.proofs.Answers.{row_table}
use Rattle.sbr_envelopes.proofs.fill_rows.Goals as goal

pub loop-l-init : goal.loop-l-init
loop-l-init c = filled_none _ _ _ _ _ _

pub overflow_sub-bands : goal.overflow_sub-bands
overflow_sub-bands c = (row_table _ _ _ (get_or c.args.resolutions.now c.loop-l.l false) (tables _ _ c.args.frame.ready.tables) c.of-table.ensures).some

pub overflow_add-at : goal.overflow_add-at
overflow_add-at c =
    let room = row-room _ _ _ _ _ _ _ _ _ c.loop-l.invariant _ c.of-table.ensures (omega arith) c.requires.room in
    omega arith

pub offset_bounds-out-at : goal.offset_bounds-out-at
offset_bounds-out-at c =
    let room = row-room _ _ _ _ _ _ _ _ _ c.loop-l.invariant _ c.of-table.ensures (omega arith) c.requires.room in
    omega arith

pub slice_bounds-band_means-end : goal.slice_bounds-band_means-end
slice_bounds-band_means-end c =
    let room = row-room _ _ _ _ _ _ _ _ _ c.loop-l.invariant _ c.of-table.ensures (omega arith) c.requires.room in
    omega arith

pub band_means-requires-clause-fit : goal.band_means-requires-clause-fit
band_means-requires-clause-fit c = (row_table _ _ _ (get_or c.args.resolutions.now c.loop-l.l false) (tables _ _ c.args.frame.ready.tables) c.of-table.ensures).bands

pub band_means-requires-clause-room : goal.band_means-requires-clause-room
band_means-requires-clause-room c =
    let k = length c.of-table.result.now - 1 in
    let at = c.loop-l.at in
    let some = (row_table _ _ _ (get_or c.args.resolutions.now c.loop-l.l false) (tables _ _ c.args.frame.ready.tables) c.of-table.ensures).some in
    let room = row-room _ _ _ _ _ _ _ _ _ c.loop-l.invariant _ c.of-table.ensures (omega arith) c.requires.room in
    omega (arith, some, room)

pub loop-l-preserved : goal.loop-l-preserved
loop-l-preserved c = row-stored _ _ _ _ _ _ _ _ _ c.loop-l.invariant _ _ c.of-table.ensures c.band_means.ensures

pub returns : goal.returns
returns c = filled-all _ _ _ _ _ _ _ _ _ c.loop-l.invariant (omega arith) (omega arith)
