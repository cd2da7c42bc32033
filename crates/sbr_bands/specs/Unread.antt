-- Samples that no answer depends on: those of columns 0 and 1, of bands outside the high table, and past the columns that are needed.
use Rattle.std.specs.Prelude.{◌≡◌, List, ℕ, ◌+◌, leb, length, Float}
use Rattle.sbr_qmf.specs.Qmf.{columns, samples_needed, AlikeIn}
use Rattle.sbr_bands.specs.Tables.{entry, last_entry}

-- x and y both have the numbers that n slots need or both have too few, and they are alike everywhere else
pub record Alike (n : ℕ) (high : List ℕ) (x y : List Float) : Type 0 where
  pub enough : leb (samples_needed n) (length x) ≡ leb (samples_needed n) (length y)
  pub same : AlikeIn (n + 8) (entry high 0) (last_entry high) (columns x) (columns y)
