-- Sums and means look at the samples of their columns and bands alone: samples that are alike there give the same.
use mathlib.Core.Path.{◌≡◌, refl, ap}
use Prim.Native.Nat.{ℕ, zero, suc, ◌+◌, ◌-◌, ◌*◌, ◌≤◌, ◌<◌}
use native.Mathlib.Omega.{arith}
use lib.Ieee.{Float}
use Rattle.sbr_qmf.specs.Qmf.{SampleAt, norm_sqr, AlikeIn}
use Rattle.sbr_floats.specs.Floats.{total, mean_of}
use Rattle.sbr_energy.specs.Energy.{band_sum, slot_energy, band_mean}

-- sums of the same numbers
pub total-same : (f g : ℕ → Float) (n : ℕ) → ((i : ℕ) → i < n → f i ≡ g i) → total f n ≡ total g n
unfolding total
total-same f g zero h = refl
total-same f g (suc n) h = rw (total-same f g n (λ i l. h i (omega arith)), h n (omega arith))

module _ (t kl kh : ℕ) (x y : SampleAt) (a : AlikeIn t kl kh x y) where
  -- the bands k to m of a column
  pub band-same : (k m c : ℕ) → kl ≤ k → m ≤ kh → 2 ≤ c → c < 2 * t + 2 → band_sum x k m c ≡ band_sum y k m c
  band-same k m c h l p q =
      total-same (λ i. norm_sqr (x c (k + i))) (λ i. norm_sqr (y c (k + i))) (m - k)
      (λ i j. ap norm_sqr (a c (k + i) p q (omega arith) (omega arith)))

  -- a slot before t
  pub slot_same : (s : ℕ) → s < t → slot_energy x kl kh s ≡ slot_energy y kl kh s
  slot_same s h =
      rw (
        band-same kl kh (2 * s + 2) (omega arith) (omega arith) (omega arith) (omega arith),
        band-same kl kh (2 * s + 3) (omega arith) (omega arith) (omega arith) (omega arith),
      )

  -- the bands k to m over the slots t0 to t1
  pub mean-same : (t0 t1 k m : ℕ) → t1 ≤ t → kl ≤ k → m ≤ kh → band_mean x t0 t1 k m ≡ band_mean y t0 t1 k m
  mean-same t0 t1 k m h l p =
      ap (λ (s : Float). mean_of s ((2 * t1 + 2 - (2 * t0 + 2)) * (m - k)))
      (total-same (λ j. band_sum x k m (2 * t0 + 2 + j)) (λ j. band_sum y k m (2 * t0 + 2 + j)) (2 * t1 + 2 - (2 * t0 + 2))
      (λ j i. band-same k m (2 * t0 + 2 + j) l p (omega arith) (omega arith)))
