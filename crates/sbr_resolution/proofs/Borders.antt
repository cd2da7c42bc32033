-- Laws of the borders of envelopes: samples for each of them, and an array that is filled one envelope after another.
use mathlib.Core.Path.{◌≡◌}
use mathlib.Core.List.{List}
use Prim.Native.Nat.{ℕ, zero, suc, ◌+◌, ◌≤◌, ◌<◌}
use native.Mathlib.Decide.{dec_le}
use native.Mathlib.Numerals.{add-one}
use native.Mathlib.Omega.{arith}
use Rattle.sbr_bands.specs.Tables.{entry}

-- borders that do not fall are at most the last
pub borders_le : (t : List ℕ) (n : ℕ) → ((l : ℕ) → l < n → entry t l ≤ entry t (l + 1)) → (l : ℕ) → l ≤ n → entry t l ≤ entry t n
borders_le t zero h l p = let e : l ≡ 0 = omega arith in rw e (omega arith)
borders_le t (suc n) h l p = elim (dec_le l n) [
  | yes q ↦ omega (arith, borders_le t n (λ m r. h m (omega arith)) l q, rw (add-one n) at (h n (omega arith)))
  | no q ↦ let e : l ≡ suc n = omega arith in rw e (omega arith)
]
