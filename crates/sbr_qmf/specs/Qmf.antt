-- Samples of the analysis filter bank: src/sbr_qmf.rs; docs/ORDER.md, FM-12, FM-13, FM-18.
use Rattle.std.specs.Prelude.{◌≡◌, List, ℕ, ◌+◌, ◌*◌, ◌≤◌, ◌<◌, get_or, Float}
use Rattle.std.specs.Float.Ieee as Ieee
use Rattle.std.specs.Float.{nan, binary64}
use Rattle.sbr_qmf.specs.declared.Complex.{Complex}

-- re × re + im × im, one rounding each
abbrev pub norm_sqr : Complex → Float
norm_sqr z = Ieee.add binary64 (Ieee.mul binary64 z.re z.re) (Ieee.mul binary64 z.im z.im)

-- the sample of each column and band
abbrev pub SampleAt : Type 0
SampleAt = ℕ → ℕ → Complex

-- where a lent slice has them: 64 bands a column, a pair of doubles each
unfoldable pub columns : List Float → SampleAt
columns x c k = record { re = get_or x ((c * 64 + k) * 2) nan; im = get_or x ((c * 64 + k) * 2 + 1) nan }

-- the numbers that n + 8 slots need: columns of 64 pairs, two to a slot, from column 2 on (refusal 2)
abbrev pub samples_needed : ℕ → ℕ
samples_needed n = (2 * (n + 8) + 2) * 128

-- samples that are alike in the columns of the slots before t and in the bands from kl up to, not including, kh
abbrev pub AlikeIn : ℕ → ℕ → ℕ → SampleAt → SampleAt → Type 0
AlikeIn t kl kh x y = (c k : ℕ) → 2 ≤ c → c < 2 * t + 2 → kl ≤ k → k < kh → x c k ≡ y c k
