-- Laws of `is_number`.
use mathlib.Core.Path.{◌≡◌, refl, ap}
use mathlib.Core.Bool.{true, false}
use Prim.Native.Nat.{ℕ, suc, ◌-◌, ◌^◌, ◌<◌}
use native.Mathlib.Omega.{arith}
use borrow.Author.Tests.{ne_eqb, eq-eqb, eqb-true}
use lib.Dec.{eqb}
use lib.IntN.{ℤ, pos, negsuc}
use mir.Syntax.{w32}
use mir.Val.{SFits, of_z}
use Rattle.sbr_grid.specs.Times.{is_number}

-- a signed number that is k, and one that is not
pub number_so : (z : ℤ) (k : ℕ) → z ≡ pos k → is_number z k ≡ true
number_so z k h = rw h (eq-eqb k k refl)

pub number_not : (z : ℤ) (k : ℕ) → (z ≡ pos k → ⊥) → is_number z k ≡ false
number_not (pos z) k h = ne_eqb z k (λ e. h (ap pos e))
number_not (negsuc z) k h = refl

-- one that passes the test is k
pub number_is : (z : ℤ) (k : ℕ) → is_number z k ≡ true → z ≡ pos k
number_is (pos z) k h = ap pos (eqb-true z k h)
number_is (negsuc z) k h = let w : ◌≡◌ {A = ℕ} 0 1 = cc in absurd (omega arith)

-- its bits are those of k, below 2 ^ 31, exactly where it is k
pub number_bits : (z : ℤ) (k : ℕ) → SFits w32 z → k < 2 ^ 31 → eqb (of_z w32 z) k ≡ is_number z k
number_bits (pos z) k f h = refl
number_bits (negsuc z) k f h = ne_eqb (2 ^ 32 - suc z) k (λ e. omega arith)
