use Rattle.std.proofs.Common.{◌≡◌, ℕ, ◌+◌, ◌*◌, ◌≤◌, ◌<◌, List, length, get_or}
use Rattle.sbr_grid.specs.declared.FrameClass.{FrameClass}
use Rattle.sbr_grid.specs.Grid.{by_class}
use Rattle.sbr_time_grid.specs.TimeGrid.{slots, slot_sum}
use Rattle.sbr_time_grid.proofs.Filled.{Filled}
use Rattle.sbr_time_grid.proofs.border.Frame.leading.Given as goal

-- the slots of the leading lengths, as the loop has them
abbrev pub lead : FrameClass → ℕ → List ℕ → ℕ → ℕ
lead class step rel l = by_class class step 0 (slots (get_or rel l 0)) (slots (get_or rel l 0))

abbrev pub invariant-loop-l : goal.invariant-loop-l
invariant-loop-l l =
    let f : ℕ → ℕ = λ j. l.initial.b + slot_sum (lead l.self.grid.frame_class l.step l.lengths) j in
    (l.b ≡ f l.l) × (l.b ≤ 255 + 512 * l.l) × (length l.t ≡ 6) × Filled f 0 l.l l.initial.t l.t
    × (length l.lengths < l.self.grid.num_env)
