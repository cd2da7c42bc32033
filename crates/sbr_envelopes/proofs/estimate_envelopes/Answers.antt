use Rattle.std.proofs.Common.{sym, length, arith}
use Rattle.sbr_grid.specs.Grid.{view_of}
use Rattle.sbr_grid.specs.Times.{time_record}
use Rattle.sbr_time_grid.specs.TimeGrid.{time_grid}
use Rattle.sbr_grid.proofs.Outcomes.{passed_on, map_refused, map_answered}
use Rattle.sbr_envelopes.proofs.Answers.{frame-refused, time-refused, frame-made, time-made, made}
use Rattle.sbr_grid.proofs.Laws.{lengths}
use Rattle.sbr_envelopes.proofs.estimate_envelopes.Goals as goal

pub returns-in_err-frame-clause-answer : goal.returns-in_err-frame-clause-answer
returns-in_err-frame-clause-answer c =
    rw (passed_on c.from_residual.result _ c.from_residual.ensures.1, frame-refused c.args.num_time_slots _ _ c.args.x.now (view_of c.args.grid) (length c.args.out.now) _ (sym c.in_err-frame.ensures.tests))

pub returns-in_err-frame-clause-numbers : goal.returns-in_err-frame-clause-numbers
returns-in_err-frame-clause-numbers c =
    rw (frame-refused c.args.num_time_slots _ _ c.args.x.now (view_of c.args.grid) (length c.args.out.now) _ (sym c.in_err-frame.ensures.tests))

pub returns-in_err-time-clause-answer : goal.returns-in_err-time-clause-answer
returns-in_err-time-clause-answer c =
    let a = c.args in
    let t = map_refused time_record (time_grid a.num_time_slots (view_of a.grid)) _ c.in_err-time.ensures in
    rw (passed_on c.from_residual-in_err-time.result _ c.from_residual-in_err-time.ensures.1, time-refused a.num_time_slots _ _ a.x.now (view_of a.grid) (length a.out.now) _ _ (sym c.in_ok-frame.ensures.tests) t)

pub returns-in_err-time-clause-numbers : goal.returns-in_err-time-clause-numbers
returns-in_err-time-clause-numbers c =
    let a = c.args in
    let t = map_refused time_record (time_grid a.num_time_slots (view_of a.grid)) _ c.in_err-time.ensures in
    rw (time-refused a.num_time_slots _ _ a.x.now (view_of a.grid) (length a.out.now) _ _ (sym c.in_ok-frame.ensures.tests) t)

pub resolutions-requires : goal.resolutions-requires
resolutions-requires c =
    let t = map_answered time_record (time_grid c.args.num_time_slots (view_of c.args.grid)) _ c.in_ok-time.ensures in
    (made _ c.args.grid t.0 _ t.1.0 t.1.1).few

pub borders-requires : goal.borders-requires
borders-requires c =
    let t = map_answered time_record (time_grid c.args.num_time_slots (view_of c.args.grid)) _ c.in_ok-time.ensures in
    let m = made _ c.args.grid t.0 _ t.1.0 t.1.1 in
    omega (arith, m.few, m.count)

pub fit_rows-requires-clause-borders : goal.fit_rows-requires-clause-borders
fit_rows-requires-clause-borders c =
    let a = c.args in
    let t = map_answered time_record (time_grid a.num_time_slots (view_of a.grid)) _ c.in_ok-time.ensures in
    let m = made _ a.grid t.0 _ t.1.0 t.1.1 in
    let f = frame-made a.num_time_slots _ _ a.x.now (view_of a.grid) 0 _ (sym c.in_ok-frame.ensures.tests) in
    rw (f.1, c.borders.ensures, m.borders) m.within

pub fit_rows-requires-clause-one_more : goal.fit_rows-requires-clause-one_more
fit_rows-requires-clause-one_more c =
    let t = map_answered time_record (time_grid c.args.num_time_slots (view_of c.args.grid)) _ c.in_ok-time.ensures in
    let m = made _ c.args.grid t.0 _ t.1.0 t.1.1 in
    rw (c.borders.ensures, c.resolutions.ensures, m.borders) (omega (arith, m.long, lengths c.args.grid))

pub returns-clause-answer : goal.returns-clause-answer
returns-clause-answer c =
    let a = c.args in
    let t = map_answered time_record (time_grid a.num_time_slots (view_of a.grid)) _ c.in_ok-time.ensures in
    let m = made _ a.grid t.0 _ t.1.0 t.1.1 in
    let f = c.in_ok-frame.ensures.frame in
    rw (time-made a.num_time_slots _ _ a.x.now (view_of a.grid) (length a.out.now) _ t.0 (sym c.in_ok-frame.ensures.tests) t.1.0)
    (rw (f.0, f.1, f.2, c.resolutions.ensures, c.borders.ensures, m.borders) at c.fit_rows.ensures.answer)

pub returns-clause-numbers : goal.returns-clause-numbers
returns-clause-numbers c =
    let a = c.args in
    let t = map_answered time_record (time_grid a.num_time_slots (view_of a.grid)) _ c.in_ok-time.ensures in
    let m = made _ a.grid t.0 _ t.1.0 t.1.1 in
    let f = c.in_ok-frame.ensures.frame in
    rw (time-made a.num_time_slots _ _ a.x.now (view_of a.grid) (length a.out.now) _ t.0 (sym c.in_ok-frame.ensures.tests) t.1.0)
    (rw (f.0, f.1, f.2, c.resolutions.ensures, c.borders.ensures, m.borders) at c.fit_rows.ensures.numbers)
