-- Laws of the means of bands in their places.
use mathlib.Core.Path.{◌≡◌}
use mathlib.Core.List.{List, map}
use Prim.Native.Nat.{ℕ, ◌+◌, ◌-◌, ◌*◌, ◌≤◌, ◌<◌}
use native.Mathlib.Nat.{zero-add}
use native.Mathlib.Numerals.{add-one}
use native.Mathlib.Omega.{arith}
use lib.ListN.{length, get_or, set, take}
use lib.Seq.{take-suc, take-suc-set, take_all}
use lib.Ieee.{Float}
use Rattle.sbr_qmf.specs.Qmf.{SampleAt}
use Rattle.sbr_floats.specs.Floats.{zero64, mean_of}
use Rattle.sbr_energy.specs.Energy.{band_total}
use Rattle.sbr_bands.specs.Tables.{entry, Span, spans}
use Rattle.sbr_means.specs.Means.{mean_in}
use Rattle.sbr_means.proofs.Spans.{mapped_length, mapped_at}

-- the means of the bands of a table over the slots from `from` to `to`
abbrev pub means : SampleAt → List ℕ → ℕ → ℕ → List Float
means x table from to = map (mean_in x (record { from = from; to = to })) (spans table)

module _ (x : SampleAt) (table : List ℕ) (from to : ℕ) where
  -- as many as there are bands
  means-long : length (means x table from to) ≡ length table - 1
  means-long = mapped_length _ table 0 (length table - 1)

  -- one more of them is stored, at place j: that of w bands from band kl on
  pub mean-more : (j m q kl w : ℕ) (l : List Float) (sum v : Float)
      → (length table ≡ length l + 1) × (j < length l) × (m ≡ j + 1) × (q ≡ j + 1) → kl ≡ entry table j → kl + w ≡ entry table q
      → sum ≡ band_total x from to kl (kl + w) → v ≡ mean_of sum (2 * (to - from) * w) → take j l ≡ take j (means x table from to)
      → take m (set l j v) ≡ take m (means x table from to)
  mean-more j m q kl w l sum v h start end total mean before =
      let columns : 2 * to + 2 - (2 * from + 2) ≡ 2 * (to - from) = omega arith in
      let width : kl + w - kl ≡ w = omega arith in
      let f : Span → Float = mean_in x (record { from = from; to = to }) in
      let value : v ≡ get_or (map f (spans table)) j zero64 =
      rw (mapped_at f table 0 (length table - 1) j zero64 (omega arith), zero-add j, ← h.3, ← start, ← end, mean, total, columns, width)
      in
      rw (h.2, add-one, take-suc-set l j v h.1, take-suc (means x table from to) j zero64 (omega (arith, means-long)), before, value)

  -- all of them are stored
  pub means-all : (j : ℕ) (l : List Float) → length table ≡ length l + 1 → length l ≤ j → take j l ≡ take j (means x table from to) → l ≡ means x table from to
  means-all j l h e p = rw (take_all j l e, take_all j (means x table from to) (omega (arith, means-long))) at p
