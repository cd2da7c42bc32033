-- `sbr_make::add_lines` meets its contract.
use Rattle.std.proofs.Common.{◌≡◌, suc, ◌+◌, min, ◌∷◌, take, drop, length, length-append, refl, sym, ap, ◌∙◌, rules, tests, of_calls}
use Rattle.std.specs.Result.{result_map_both}
use Rattle.sbr_make.specs.Making.{stream_of, most_text}
use Rattle.sbr_make.proofs.Reached.{next_line, no_line, added_at, told_at, numbered, handed_on, lines_taken, reached_none, told-next, told-not, reached-all}
use Rattle.sbr_make.proofs.add_lines.Goals as goal
use Rattle.sbr_make.proofs.add_lines.Goals.{After-map_err}

-- the line is the next one, and whether it was added is told with its number
turn : (c : After-map_err) → let k = length c.loop-i.yielded in let ls = lines_taken c.args.text.now in let l = c.in-Some.line.now in
    (drop k ls ≡ l ∷ drop (suc k) ls) × (c.map_err.result ≡ told_at (k + 1) (added_at c.loop-i.frames l (c.loop-i.at + length l)))
turn c =
    let text = c.args.text.now in
    let t = next_line c.into_iter-i-iterator.result _ _ (take (min (length text) (most_text + 1)) text) (cc) (cc) refl (λ x r q k. search (rules, tests)) (cc) c.loop-i.yielded _ _ c.loop-i.yielded_by _ c.next.ensures.steps c.in-Some.i c.in-Some.line c.in-Some.is in
    let h = numbered c.add_line.result c.map_err.result (c.in-Some.i + 1) c.map_err.ensures.cases (λ e y k. search of_calls) in
    (t.1, rw (c.add_line.ensures.answer, t.0) at h)

pub loop-i-init : goal.loop-i-init
loop-i-init c = record {
  can = search of_calls;
  finite = search of_calls;
  reached = rw c.new-frames.ensures (reached_none c.args.text.now);
}

pub returns-in_err-map_err : goal.returns-in_err-map_err
returns-in_err-map_err c =
    let t = turn (goal.at.returns-in_err-map_err c).After-map_err in
    let x = c.in_err-map_err.field-0.0 in
    ap (λ o. result_map_both (λ m. stream_of m) (λ e. e) o) (handed_on c.from_residual.result x c.from_residual.ensures.1)
    ∙ sym (told-not c.args.text.now _ _ _ c.loop-i.invariant.reached _ t.0 x (sym t.1 ∙ c.in_err-map_err.was))

pub loop-i-preserved : goal.loop-i-preserved
loop-i-preserved c =
    let t = turn (goal.at.loop-i-preserved c).After-map_err in
    record {
      can = search of_calls;
      finite = search of_calls;
      reached =
          rw length-append
          (told-next c.args.text.now _ _ _ c.loop-i.invariant.reached _ t.0 c.add_line.new.self c.in_ok-map_err.field-0
          (sym t.1 ∙ c.in_ok-map_err.was) c.add_line.ensures.frames);
    }

pub returns : goal.returns
returns c =
    let text = c.args.text.now in
    let n = no_line c.into_iter-i-iterator.result _ _ (take (min (length text) (most_text + 1)) text) (cc) (cc) refl (λ x r q k. search (rules, tests)) (cc) c.loop-i.yielded _ _ c.loop-i.yielded_by _ c.next.ensures.steps c.in-None.is in
    sym (reached-all text _ _ _ c.loop-i.invariant.reached n)
