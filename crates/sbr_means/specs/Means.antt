-- Means of bands over the slots of an envelope, in the order of additions of the Rust's `elect_freq_res` and `estimate_envelopes`.
use Rattle.std.specs.Prelude.{List, ℕ, ◌+◌, ◌*◌, ◌≤◌, ◌<◌, length, Float}
use Rattle.sbr_qmf.specs.Qmf.{SampleAt}
use Rattle.sbr_energy.specs.Energy.{band_mean}
use Rattle.sbr_bands.specs.Tables.{entry, Span}

-- the slots from `from` to `to` have samples in every column
pub record Sampled (x : List Float) (from to : ℕ) : Type 0 where
  pub order : from ≤ to
  pub few : to ≤ 24
  pub enough : (2 * to + 2) * 128 ≤ length x

-- bands that don't end below their start, nor above 64
pub record Bands (table : List ℕ) : Type 0 where
  pub climbing : (j : ℕ) → j + 1 < length table → entry table j ≤ entry table (j + 1)
  pub by64 : (j : ℕ) → j < length table → entry table j ≤ 64

-- the mean of a band over an envelope
abbrev pub mean_in : SampleAt → Span → Span → Float
mean_in x env band = band_mean x env.from env.to band.from band.to
