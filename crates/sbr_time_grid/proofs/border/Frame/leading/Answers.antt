use mathlib.Core.Path.{◌∙◌}
use Prim.Native.Nat.{◌+◌}
use Rattle.std.proofs.Common.{◌≡◌}
use lib.ListN.{length, length-set}
use Rattle.sbr_grid.proofs.First.{first-length}
use Rattle.sbr_grid.specs.Grid.{view_of}
use Rattle.sbr_time_grid.specs.TimeGrid.{rel_bord_lead}
use Rattle.sbr_time_grid.proofs.Filled.{filled_one, filled_more, filled_since}
use Rattle.sbr_time_grid.proofs.Borders.{lead_first, lead_next, lead_read, sum_same}
use native.Mathlib.Omega.{arith}
use Rattle.sbr_time_grid.proofs.border.Frame.leading.Invariants.{lead}
use Rattle.sbr_time_grid.proofs.border.Frame.leading.Goals as goal

pub loop-l-init : goal.loop-l-init
loop-l-init c =
    let a = c.args in
    let e : length c.front-lengths.result.now ≡ c.n_rel_lead.result = rw (c.front-lengths.ensures 0) (first-length 0 c.n_rel_lead.result c.args.self.now.grid.rel_bord_0) in
    (lead_first _ _, c.abs_bord_lead-b.ensures.upper_bound, simp length-set (omega arith), filled_one _ a.t.now 0 _ (omega arith) (lead_first _ _), omega arith)

pub loop-l-preserved : goal.loop-l-preserved
loop-l-preserved c =
    let s = c.loop-l in
    let e = lead_next _ _ s.l s.b _ s.invariant.0 c.rel_bord_lead-b.ensures.value in (
      e,
      omega arith,
      simp length-set s.invariant.2,
      filled_more _ 0 s.l 0 (s.l + 1) _ _ (s.l + 1) _ s.invariant.3 (omega arith) e
          (omega arith) (omega arith) (λ j p q r. omega arith) (omega arith) (omega arith),
      s.invariant.4,
    )

pub returns-clause-borders : goal.returns-clause-borders
returns-clause-borders c =
    let s = c.loop-l in
    let f = c.args.self.now in
    let k = c.n_rel_lead.result in
    let rel = c.front-lengths.result.now in
    let r = c.front-lengths.ensures 0 in
    let e : length rel ≡ k = rw r (first-length 0 k f.grid.rel_bord_0) in
    let t = filled_since _ 0 s.l c.args.t.now _ 0 _ (omega arith) (omega arith) s.invariant.3 in
    λ j h. t.inside j (omega arith) (omega arith)
    ∙ (λ i. c.abs_bord_lead-b.ensures.value i + sum_same (lead f.grid.frame_class c.nint_ratio-step.result rel) (rel_bord_lead f.num_slots (view_of f.grid)) j (λ m l. rw c.nint_ratio-step.ensures.value (lead_read f.grid f.num_slots m k rel c.n_rel_lead.ensures r (omega arith))) i)

pub returns-clause-behind : goal.returns-clause-behind
returns-clause-behind c =
    let s = c.loop-l in
    let k = c.n_rel_lead.result in
    let e : length c.front-lengths.result.now ≡ k = rw (c.front-lengths.ensures 0) (first-length 0 k c.args.self.now.grid.rel_bord_0) in
    let t = filled_since _ 0 s.l c.args.t.now _ 0 _ (omega arith) (omega arith) s.invariant.3 in
    λ j h. t.above j (omega arith)
