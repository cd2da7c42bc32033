-- Powers of powers.
use Prim.Native.Nat.{ℕ, zero, suc, ◌*◌, ◌^◌}
use mathlib.Core.Path.{◌≡◌}
use native.Mathlib.Nat.{mul-zero, mul-suc, pow-zero, pow-suc}
use lib.Pow.{pow-add}

pub pow-pow : (a k n : ℕ) → (a ^ k) ^ n ≡ a ^ (k * n)
pow-pow a k zero = rw (mul-zero, pow-zero, pow-zero)
pow-pow a k (suc n) = rw (pow-suc, pow-pow a k n, mul-suc, pow-add)
