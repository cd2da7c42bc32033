-- What holds of every frame.
use Rattle.std.specs.Prelude.{ℕ, ◌≤◌}

-- the slot count of a frame, and its lead
pub record FrameBounds (n lead : ℕ) : Type 0 where
  pub least : 15 ≤ n
  pub most : n ≤ 16
  pub held : lead ≤ 3
