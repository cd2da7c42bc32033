-- The value of a finite energy above 64 is the largest number that it attains, held to the highest value: the statements, for every power and of both
-- steps. Proved in proofs/Largest.antt.
use Rattle.std.specs.Prelude.{◌≡◌, true, false, ℕ, ◌-◌, ◌*◌, ◌^◌, ◌≤◌, ◌<◌, min, ℤ, Float}
use Rattle.std.specs.Float.{fin}
use Rattle.std.specs.Float.Ieee.{up, down}
use Rattle.sbr_quantise.specs.Quantise.{value_by, quantised}

-- (a / d) ^ p is at least 2 ^ (2 q - 1); where q is 0 that exponent is taken as 0, which a fraction above 1 attains all the same
abbrev pub Attains : ℕ → ℕ → ℕ → ℕ → Type 0
Attains p a d q = 2 ^ (2 * q - 1) * d ^ p ≤ a ^ p

-- q is the largest whole number that a / d attains
pub record Largest (p a d q : ℕ) : Type 0 where
  pub attained : Attains p a d q
  pub most : (k : ℕ) → Attains p a d k → k ≤ q

-- a finite energy above 64, over 64, has such a number for the power p, and the value is that number, or top where that is less
abbrev pub IsLargest : ℕ → ℕ → (Float → ℕ) → Type 0
IsLargest p top value =
    (m : ℕ) (e : ℤ) → 64 * down e < m * up e → (q : ℕ) × (Largest p (m * up e) (64 * down e) q × (value (fin false m e) ≡ min q top))

-- for every power and highest value
abbrev pub ValueIsLargest : Type 0
ValueIsLargest = (p top : ℕ) → IsLargest p top (value_by p top)

-- so for the coarse step and for the fine one
abbrev pub StepsAreLargest : Type 0
StepsAreLargest = IsLargest 2 63 (quantised true) × IsLargest 4 127 (quantised false)
