use mathlib.Core.Path.{◌∙◌}
use Prim.Native.Nat.{◌+◌, ◌-◌}
use Rattle.std.proofs.Common.{◌≡◌}
use Rattle.sbr_time_grid.proofs.border.Frame.trailing.Invariants.{trail}
use native.Mathlib.Nat.{sub-zero}
use lib.ListN.{length, length-set}
use Rattle.sbr_grid.proofs.First.{first-length}
use Rattle.sbr_grid.specs.Grid.{view_of}
use Rattle.sbr_time_grid.specs.TimeGrid.{rel_bord_trail}
use Rattle.sbr_time_grid.proofs.Filled.{filled_one, filled_more, filled_since}
use Rattle.sbr_time_grid.proofs.Borders.{trail_first, trail_next, trail_at_lem, trail_read, sum_same}
use native.Mathlib.Omega.{arith}
use Rattle.sbr_time_grid.proofs.border.Frame.trailing.Goals as goal

pub loop-l-init : goal.loop-l-init
loop-l-init c =
    let a = c.args in
    let e : length c.front-lengths.result.now ≡ c.n_rel_trail.result = rw (c.front-lengths.ensures 0) (first-length 0 c.n_rel_trail.result c.args.self.now.grid.rel_bord_1) in
    let le = a.self.now.grid.num_env in (
      trail_first _ _,
      simp length-set (omega arith),
      rw (sub-zero) (filled_one _ a.t.now le _ (omega arith) (trail_at_lem _ _ le 0 _ _ (omega arith) (trail_first _ _))),
      omega arith,
    )

pub loop-l-preserved : goal.loop-l-preserved
loop-l-preserved c =
    let s = c.loop-l in
    let le = c.args.self.now.grid.num_env in
    let e = trail_next _ _ s.l s.b _ _ s.invariant.0 c.slots_of.ensures.value c.saturating_sub-b.ensures in (
      e,
      simp length-set s.invariant.1,
      filled_more _ (le - s.l) le (le - (s.l + 1)) le _ _ (le - 1 - s.l) _ s.invariant.2 (omega arith)
          (trail_at_lem _ _ le (s.l + 1) _ _ (omega arith) e)
          (omega arith) (omega arith) (λ j p q r. omega arith) (omega arith) (omega arith),
      s.invariant.3,
    )

pub returns-clause-borders : goal.returns-clause-borders
returns-clause-borders c =
    let s = c.loop-l in
    let f = c.args.self.now in
    let le = f.grid.num_env in
    let k = c.n_rel_trail.result in
    let rel = c.front-lengths.result.now in
    let r = c.front-lengths.ensures 0 in
    let e : length rel ≡ k = rw r (first-length 0 k f.grid.rel_bord_1) in
    let t = filled_since _ (le - s.l) le c.args.t.now _ le _ (omega arith) (omega arith) s.invariant.2 in
    λ j h i. t.inside j (omega arith) i
    ∙ (λ x. c.abs_bord_trail-b.ensures x - sum_same (trail rel) (rel_bord_trail (view_of f.grid)) (le - j) (λ m l. trail_read f.grid m k rel c.n_rel_trail.ensures r (omega arith)) x)

pub returns-clause-before : goal.returns-clause-before
returns-clause-before c =
    let s = c.loop-l in
    let le = c.args.self.now.grid.num_env in
    let k = c.n_rel_trail.result in
    let e : length c.front-lengths.result.now ≡ k = rw (c.front-lengths.ensures 0) (first-length 0 k c.args.self.now.grid.rel_bord_1) in
    let t = filled_since _ (le - s.l) le c.args.t.now _ le _ (omega arith) (omega arith) s.invariant.2 in
    λ j h. t.below j (omega arith)

pub returns-clause-behind : goal.returns-clause-behind
returns-clause-behind c =
    let s = c.loop-l in
    let le = c.args.self.now.grid.num_env in
    let t = filled_since _ (le - s.l) le c.args.t.now _ le _ (omega arith) (omega arith) s.invariant.2 in
    λ j h. t.above j h
