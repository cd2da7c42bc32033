-- Resolutions of envelopes: `elect_freq_res` of src/sbr_encoder.rs.
use Rattle.std.specs.Prelude.{◌≡◌, Bool, true, false, cond, ◌&&◌, ◌||◌, List, [], ◌∷◌, map, ℕ, ◌+◌, ◌-◌, ◌*◌, ◌≤◌, ◌<◌, leb, ltb, length, get_or, Float, Ok}
use Rattle.std.specs.Float.Ieee as Ieee
use Rattle.std.specs.Float.{inf, binary64}
use Rattle.sbr_grid.specs.declared.Refusal.TheVariants.{SlotCount, Samples, Tables}
use Rattle.sbr_grid.specs.Refusals.{Outcome, unless}
use Rattle.sbr_grid.specs.Times.{is_slot_count}
use Rattle.sbr_qmf.specs.Qmf.{SampleAt, samples_needed}
use Rattle.sbr_floats.specs.Floats.{zero64, floor64, max_of, min_of, spread_is_high}
use Rattle.sbr_bands.specs.Tables.{tables_fit, Span, spans}
use Rattle.sbr_means.specs.Means.{mean_in}

-- what the tests of a call leave: tables that fit, and samples for every column up to the border t
pub record Ready (high low : List ℕ) (x : List Float) (t : ℕ) : Type 0 where
  pub tables : tables_fit high low ≡ true
  pub inside : t ≤ 24
  pub enough : (2 * t + 2) * 128 ≤ length x

-- borders, one to six, of at most five envelopes, none below the one before it, the last within the slots
pub record Bordered (t : List ℕ) (slots : ℕ) : Type 0 where
  pub some : 1 ≤ length t
  pub few : length t ≤ 6
  pub rising : (l : ℕ) → l + 1 < length t → get_or t l 0 ≤ get_or t (l + 1) 0
  pub inside : get_or t (length t - 1) 0 ≤ slots

-- the tests of a call: the slots that there are samples for
abbrev pub framed : ℕ → List ℕ → List ℕ → List Float → Outcome ℕ
framed n high low x =
    unless (is_slot_count n) SlotCount (unless (tables_fit high low) Tables (unless (leb (samples_needed n) (length x)) Samples (Ok (n + 8))))

-- the bands that lie inside another
unfoldable pub inside : Span → List Span → List Span
inside lo [] = []
inside lo (h ∷ hs) = cond (leb lo.from h.from && leb h.to lo.to) (h ∷ inside lo hs) (inside lo hs)

-- the largest from 0.0 and the smallest from infinity; a NaN is passed over
unfoldable pub largest_from : Float → List Float → Float
largest_from m [] = m
largest_from m (x ∷ xs) = largest_from (max_of m x) xs

unfoldable pub smallest_from : Float → List Float → Float
smallest_from m [] = m
smallest_from m (x ∷ xs) = smallest_from (min_of m x) xs

-- two or more means, the largest above 64 and spread from the smallest
unfoldable pub is_spread : List Float → Bool
is_spread ms =
    let largest = largest_from zero64 ms in
    let smallest = smallest_from (inf false) ms in
    ltb 1 (length ms) && Ieee.lt floor64 largest && spread_is_high (Ieee.div binary64 largest (max_of smallest floor64))

-- some low band is spread
unfoldable pub some_spread : SampleAt → List Span → Span → List Span → Bool
some_spread x high env [] = false
some_spread x high env (lo ∷ los) = is_spread (map (mean_in x env) (inside lo high)) || some_spread x high env los

-- whether an envelope of 4 slots or more is to have high resolution
unfoldable pub elect_freq_res : SampleAt → List ℕ → List ℕ → Span → Bool
elect_freq_res x high low env = leb (env.from + 4) env.to && some_spread x (spans high) env (spans low)
