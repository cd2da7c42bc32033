-- `sbr_run::send_frame` meets its contract.
use Rattle.std.specs.Prelude.{Ok, Err}
use mathlib.Core.Path.{◌≡◌, refl, ap, ◌∙◌}
use borrow.Author.Rules.{rules}
use native.Mathlib.Omega.{arith}
use mir.Syntax.{w32}
use mir.ValLaws.{to_z-of_z}
use Rattle.sbr_grid.specs.Refusals.{result_map}
use Rattle.sbr_grid.specs.Times.{time_record}
use Rattle.sbr_grid.proofs.Outcomes.{passed_on, map_refused, map_answered}
use Rattle.sbr_writer.specs.Write.{Wrote, bytes_after}
use Rattle.sbr_encoder.specs.declared.Election.{Election}
use Rattle.sbr_encoder.specs.Election.{election}
use Rattle.sbr_encoder.proofs.EveryElection.{every_election}
use Rattle.sbr_run.specs.Place.{turn_from}
use Rattle.sbr_run.proofs.TurnWays.{choice-refuses, time-refuses, write-refuses, sends, Chosen, chosen, timed}
use Rattle.sbr_run.proofs.send_frame.Goals as goal
use Rattle.sbr_run.proofs.send_frame.Goals.{In_ok-elected}

pub returns-in_err-elected : goal.returns-in_err-elected
returns-in_err-elected c =
    let a = c.args in
    let t = turn_from a.num_time_slots a.tables.high.now a.tables.low.now a.x.now a.variable_borders a.bytes.now a.place in
    let e : Err c.in_err-elected.field-0.0 ≡ result_map election t.chosen = rw (to_z-of_z w32 a.place.carried.border (search rules)) at c.in_err-elected.ensures in
    let r = choice-refuses t _ (map_refused election t.chosen _ e) in
    rw r (record { answer = passed_on _ _ c.from_residual.ensures.1; bytes = refl })

-- what was elected
made : (c : In_ok-elected)
    → let a = c.args in
    Chosen (turn_from a.num_time_slots a.tables.high.now a.tables.low.now a.x.now a.variable_borders a.bytes.now a.place) c.in_ok-elected.elected
made c =
    let a = c.args in
    let t = turn_from a.num_time_slots a.tables.high.now a.tables.low.now a.x.now a.variable_borders a.bytes.now a.place in
    let e : Ok c.in_ok-elected.elected ≡ result_map election t.chosen = rw (to_z-of_z w32 a.place.carried.border (search rules)) at c.in_ok-elected.ensures in
    chosen t _ (λ e h. (every_election _ _ _ _ _ _ e h).kept) e

pub returns-in_err-time : goal.returns-in_err-time
returns-in_err-time c =
    let g = made (goal.at.returns-in_err-time c).In_ok-elected in
    let a = c.args in
    let t = turn_from a.num_time_slots a.tables.high.now a.tables.low.now a.x.now a.variable_borders a.bytes.now a.place in
    let r = time-refuses t g.elected g.is _ (map_refused time_record _ _ (rw g.view at c.in_err-time.ensures)) in
    rw r (record { answer = passed_on _ _ c.from_residual-in_err-time.ensures.1; bytes = refl })

pub returns-in_err-position : goal.returns-in_err-position
returns-in_err-position c =
    let g = made (goal.at.returns-in_err-position c).In_ok-elected in
    let m = map_answered time_record _ _ (rw g.view at c.in_ok-time.ensures) in
    let o = map_refused (λ (w : Wrote). w.position) _ _ (rw g.view at c.in_err-position.ensures.answer) in
    let a = c.args in
    let t = turn_from a.num_time_slots a.tables.high.now a.tables.low.now a.x.now a.variable_borders a.bytes.now a.place in
    let r = write-refuses t g.elected g.is m.0 m.1.0 _ o in
    let b = rw g.view at c.write_grid.ensures.bytes in
    rw r (record { answer = passed_on _ _ c.from_residual-in_err-position.ensures.1; bytes = b ∙ ap (bytes_after c.args.bytes.now) o })

pub left_by-requires : goal.left_by-requires
left_by-requires c =
    let g = made (goal.at.left_by-requires c).In_ok-elected in
    let m = map_answered time_record _ _ (rw g.view at c.in_ok-time.ensures) in
    let t = timed c.args.num_time_slots g.elected.grid m.0 _ m.1.0 m.1.1 in
    (t.few, omega (arith, t.small))

pub returns : goal.returns
returns c =
    let g = made (goal.at.returns c).In_ok-elected in
    let m = map_answered time_record _ _ (rw g.view at c.in_ok-time.ensures) in
    let t = timed c.args.num_time_slots g.elected.grid m.0 _ m.1.0 m.1.1 in
    let o = map_answered (λ (w : Wrote). w.position) _ _ (rw g.view at c.in_ok-position.ensures.answer) in
    let a = c.args in
    let turned_at = turn_from a.num_time_slots a.tables.high.now a.tables.low.now a.x.now a.variable_borders a.bytes.now a.place in
    let r = sends turned_at g.elected g.is m.0 m.1.0 o.0 o.1.0 in
    let b = rw g.view at c.write_grid.ensures.bytes in
    let gr = ap (λ (x : Election). x.grid) g.whole in
    let tr = ap (λ (x : Election). x.transient) g.whole in
    rw r (record {
      answer = λ i. Ok (record {
        grid = gr i;
        time = m.1.1 i;
        transient = tr i;
        place = record { carried = (c.left_by.ensures ∙ t.left) i; position = o.1.1 i };
      });
      bytes = b ∙ ap (bytes_after c.args.bytes.now) o.1.0;
    })
