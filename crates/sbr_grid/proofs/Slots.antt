-- What a slot count is.
use mathlib.Core.Path.{◌≡◌}
use mathlib.Core.Bool.{true}
use Prim.Native.Nat.{ℕ, ◌≤◌}
use native.Mathlib.Decide.{ℕ_discrete}
use native.Mathlib.Omega.{arith}
use borrow.Author.Tests.{eqb-true, ne_eqb}
use Rattle.sbr_grid.specs.Times.{is_slot_count}

-- it is 15 or 16
pub slot_range : (n : ℕ) → is_slot_count n ≡ true → (15 ≤ n) × (n ≤ 16)
unfolding is_slot_count
slot_range n e = go (ℕ_discrete n 15)
  where
    go : Dec (n ≡ 15) → (15 ≤ n) × (n ≤ 16)
    go (yes p) = omega arith
    go (no p) = omega (arith, eqb-true n 16 (rw (ne_eqb n 15 p) at e))

pub slots_few : (n : ℕ) → is_slot_count n ≡ true → n ≤ 16
slots_few n e = (slot_range n e).1
