use Rattle.std.proofs.Common.{◌≡◌, ℕ, ◌-◌, ◌<◌, List, length, get_or}
use Rattle.sbr_time_grid.specs.TimeGrid.{slots, slot_sum}
use Rattle.sbr_time_grid.proofs.Filled.{Filled}
use Rattle.sbr_time_grid.proofs.border.Frame.trailing.Given as goal

-- the slots of the trailing lengths, as the loop has them
abbrev pub trail : List ℕ → ℕ → ℕ
trail rel l = slots (get_or rel l 0)

abbrev pub invariant-loop-l : goal.invariant-loop-l
invariant-loop-l l =
    let f : ℕ → ℕ = λ k. l.initial.b - slot_sum (trail l.lengths) k in
    (l.b ≡ f l.l) × (length l.t ≡ 6) × Filled (λ j. f (l.le - j)) (l.le - l.l) l.le l.initial.t l.t
    × (length l.lengths < l.self.grid.num_env)
