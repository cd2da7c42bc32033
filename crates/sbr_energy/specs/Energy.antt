-- Energies of slots and of bands, in the order of additions of the Rust's `elect_grid`, `elect_freq_res` and `estimate_envelopes`.
use Rattle.std.specs.Prelude.{List, [], ◌++◌, ◌∷◌, ℕ, zero, suc, ◌+◌, ◌-◌, ◌*◌, ◌≤◌, length, replicate, Float}
use Rattle.std.specs.Float.Ieee as Ieee
use Rattle.std.specs.Float.{binary64}
use Rattle.sbr_qmf.specs.Qmf.{SampleAt, norm_sqr}
use Rattle.sbr_floats.specs.Floats.{zero64, total, mean_of}
use Rattle.sbr_energy.specs.declared.Start.{Start}

-- the bands kl up to, not including, kh of column c, lowest first
abbrev pub band_sum : SampleAt → ℕ → ℕ → ℕ → Float
band_sum x kl kh c = total (λ i. norm_sqr (x c (kl + i))) (kh - kl)

-- w bands from a place on: there are samples for them, and their sum
pub record HasBands (x : List Float) (w : ℕ) (start : Start) : Type 0 where
  pub bands : start.band + w ≤ 64
  pub columns : (start.column + 1) * 128 ≤ length x

abbrev pub sum_from : SampleAt → ℕ → Start → Float
sum_from x w start = total (λ i. norm_sqr (x start.column (start.band + i))) w

-- band k of the first column of slot s; the same band of the column behind
abbrev pub slot_start : ℕ → ℕ → Start
slot_start s k = record { column = 2 * s + 2; band = k }

abbrev pub next_start : Start → Start
next_start start = record { column = start.column + 1; band = start.band }

-- slot s: the columns 2 s + 2 and 2 s + 3
abbrev pub slot_energy : SampleAt → ℕ → ℕ → ℕ → Float
slot_energy x kl kh s =
    Ieee.add binary64 (Ieee.add binary64 zero64 (band_sum x kl kh (2 * s + 2))) (band_sum x kl kh (2 * s + 3))

-- f 0 .. f (n - 1)
unfoldable pub list_of : (ℕ → Float) → ℕ → List Float
list_of f zero = []
list_of f (suc n) = list_of f n ++ (f n ∷ [])

-- the energies of n slots in an array of 24 places; the others are 0.0
abbrev pub slot_energies : SampleAt → ℕ → ℕ → ℕ → List Float
slot_energies x kl kh n = list_of (slot_energy x kl kh) n ++ replicate (24 - n) zero64

-- the sum of the bands kl to kh over the slots t0 to t1: the columns 2 t0 + 2 up to, not including, 2 t1 + 2, one after another
abbrev pub band_total : SampleAt → ℕ → ℕ → ℕ → ℕ → Float
band_total x t0 t1 kl kh = total (λ j. band_sum x kl kh (2 * t0 + 2 + j)) (2 * t1 + 2 - (2 * t0 + 2))

-- and their mean
abbrev pub band_mean : SampleAt → ℕ → ℕ → ℕ → ℕ → Float
band_mean x t0 t1 kl kh = mean_of (band_total x t0 t1 kl kh) ((2 * t1 + 2 - (2 * t0 + 2)) * (kh - kl))
