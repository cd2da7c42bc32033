use Rattle.std.proofs.Common.{◌≡◌, sym, ap, ◌∙◌, ◌+◌, ℕ, List, map, min, take, drop, reverse, arith}
use Rattle.std.specs.List.{list_all}
use Rattle.std.specs.Prelude.{leb}
use Rattle.sbr_grid.specs.Grid.{first}
use Rattle.sbr_borders.specs.Borders.{steps_up, steps_down, leading_steps, trailing_steps, places}
use Rattle.sbr_borders.specs.Wanted.{wanted_list}
use Rattle.sbr_search.proofs.Near.{near, cut, leading_bytes, trailing_bytes}
use Rattle.sbr_search.proofs.plan_grid.Goals as goal

pub returns : goal.returns
returns c =
    let a = c.args in
    let bs : List ℕ = places (wanted_list a.w.now) (first 0 a.w.now.count a.plan.shifts) in
    let e : c.as_slice-borders.result.now ≡ bs = c.as_slice-borders.ensures.0 ∙ c.borders_of-placed.ensures.value in
    let n : near bs = sym (ap (list_all (λ b. leb b 33)) c.borders_of-placed.ensures.value) ∙ c.borders_of-placed.ensures.near in
    let k = cut a.plan.leading c.min.result c.as_slice-borders.result.now c.min.ensures in
    let front = c.split_at.ensures.front ∙ k.0 ∙ ap (take a.plan.leading) e in
    let back = c.split_at.ensures.back ∙ k.1 ∙ ap (drop a.plan.leading) e in
    let up : c.as_slice.result.now ≡ leading_steps a.frame.lead a.plan.leading bs =
    c.as_slice.ensures.0
    ∙ c.bytes-rel_0.ensures
    ∙ ap (map (λ n. min n 255)) (rw c.from.ensures at c.leading_lengths.ensures.0 ∙ ap (steps_up a.frame.lead) front)
    ∙ leading_bytes a.frame.lead a.plan.leading bs n
    in
    let down : c.as_slice-2.result.now ≡ trailing_steps (a.frame.nts + a.plan.over) a.plan.leading bs =
    c.as_slice-2.ensures.0
    ∙ c.bytes-rel_1.ensures
    ∙ ap (map (λ n. min n 255)) (rw c.from-2.ensures at c.trailing_lengths.ensures.0 ∙ ap (λ l. steps_down (a.frame.nts + a.plan.over) (reverse l)) back)
    ∙ trailing_bytes (a.frame.nts + a.plan.over) a.plan.leading bs (omega (arith, a.frame.bounds.most, a.plan.near)) n
    in
    rw (← up, ← down) c.varvar_grid.ensures
