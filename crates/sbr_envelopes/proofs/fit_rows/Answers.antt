use Rattle.std.proofs.Common.{sym, ◌∙◌, arith}
use Rattle.sbr_qmf.specs.Qmf.{columns}
use Rattle.sbr_bands.proofs.TableLaws.{tables}
use Rattle.sbr_envelopes.proofs.Answers.{no_room, has_room}
use Rattle.sbr_envelopes.proofs.Rows.{rows_sum, rows-counted}
use Rattle.sbr_envelopes.proofs.fit_rows.Goals as goal

pub overflow_sub-frame : goal.overflow_sub-frame
overflow_sub-frame c = omega (arith, (tables _ _ c.args.frame.ready.tables).high.some)

pub overflow_sub-frame-2 : goal.overflow_sub-frame-2
overflow_sub-frame-2 c = (tables _ _ c.args.frame.ready.tables).low.some

pub rows_length-count-requires : goal.rows_length-count-requires
rows_length-count-requires c =
    let t = tables _ _ c.args.frame.ready.tables in
    (omega (arith, c.requires.borders.few), omega (arith, t.high.few), omega (arith, t.low.few))

pub returns-then-out-count-clause-answer : goal.returns-then-out-count-clause-answer
returns-then-out-count-clause-answer c =
    let counted = rows-counted (columns c.args.frame.x.now) _ _ _ _ c.requires.one_more ∙ sym c.rows_length-count.ensures in
    rw (no_room _ _ _ counted c.if-out-count.true)

pub returns-then-out-count-clause-numbers : goal.returns-then-out-count-clause-numbers
returns-then-out-count-clause-numbers c =
    let counted = rows-counted (columns c.args.frame.x.now) _ _ _ _ c.requires.one_more ∙ sym c.rows_length-count.ensures in
    rw (no_room _ _ _ counted c.if-out-count.true)

pub fill_rows-requires-clause-room : goal.fill_rows-requires-clause-room
fill_rows-requires-clause-room c = omega (arith, c.rows_length-count.ensures ∙ rows_sum c.args.resolutions.now _ _, c.if-out-count.false)

pub returns-clause-answer : goal.returns-clause-answer
returns-clause-answer c =
    let counted = rows-counted (columns c.args.frame.x.now) _ _ _ _ c.requires.one_more ∙ sym c.rows_length-count.ensures in
    rw (has_room _ _ _ counted c.if-out-count.false, counted)

pub returns-clause-numbers : goal.returns-clause-numbers
returns-clause-numbers c =
    let counted = rows-counted (columns c.args.frame.x.now) _ _ _ _ c.requires.one_more ∙ sym c.rows_length-count.ensures in
    rw (has_room _ _ _ counted c.if-out-count.false) c.fill_rows.ensures
