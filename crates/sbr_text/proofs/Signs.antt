-- Signed numbers of the code.
use Prim.Native.Nat.{◌≤◌}
use native.Mathlib.Omega.{arith}
use lib.IntN.{ℤ, pos, negsuc, nat_abs}
use mir.Syntax.{w32}
use mir.Val.{SFits}

-- a number near 0 fits
pub near_fits : (z : ℤ) → nat_abs z ≤ 1000 → SFits w32 z
near_fits (pos n) h = record { sfits = omega arith }
near_fits (negsuc n) h = record { sfits = omega arith }
