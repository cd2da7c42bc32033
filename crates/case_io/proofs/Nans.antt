-- Which patterns of a double are NaN's.
use mathlib.Core.Bool.{true}
use mathlib.Core.Path.{◌≡◌, refl, sym, ◌∙◌}
use native.Mathlib.Omega.{arith}
use Prim.Native.Nat.{ℕ, ◌<◌, ◌%◌}
use lib.Ieee.{Float, nan, inf, fin, is_nan, of_bits, binary64}
use lib.Ieee.Bits.{nan_bits_is, nan_bits_above}
use borrow.Author.Tests.{lt-ltb}

nan_alone : (x : Float) → is_nan x ≡ true → x ≡ nan
unfolding is_nan
nan_alone nan h = refl
nan_alone (inf s) h = let z : ◌≡◌ {A = ℕ} 0 1 = cc in absurd (omega arith)
nan_alone (fin s m e) h = let z : ◌≡◌ {A = ℕ} 0 1 = cc in absurd (omega arith)

-- a pattern above infinity's, less its sign, is a NaN's, of which there is one
pub large_nan : (n : ℕ) → 9218868437227405312 < n % 9223372036854775808 → of_bits binary64 n ≡ nan
large_nan n h = nan_alone (of_bits binary64 n) (sym (nan_bits_is binary64 n) ∙ nan_bits_above binary64 n ∙ lt-ltb 9218868437227405312 (n % 9223372036854775808) h)
