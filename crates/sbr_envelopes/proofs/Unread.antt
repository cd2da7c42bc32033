-- Energies depend on the samples of the high table's bands alone, in the columns that are needed.
use Rattle.std.specs.Prelude.{Ok, Err}
use mathlib.Core.Path.{◌≡◌, refl}
use mathlib.Core.Bool.{Bool, true, false, cond}
use mathlib.Core.List.{List, [], ◌∷◌}
use Prim.Native.Nat.{ℕ, zero, suc, ◌+◌, ◌-◌, ◌≤◌}
use native.Mathlib.Omega.{arith}
use lib.Dec.{leb}
use lib.ListN.{length}
use Rattle.sbr_grid.specs.Refusals.{Outcome}
use Rattle.sbr_grid.specs.Grid.{Grid, num_env_of}
use Rattle.sbr_grid.specs.Times.{Times, is_slot_count}
use Rattle.sbr_grid.proofs.Outcomes.{unless-same}
use Rattle.sbr_time_grid.specs.TimeGrid.{time_grid}
use Rattle.sbr_time_grid.proofs.Ends.{time_ends}
use Rattle.sbr_qmf.specs.Qmf.{SampleAt, columns, samples_needed, AlikeIn}
use Rattle.sbr_bands.specs.Tables.{entry, last_entry, tables_fit, Span, spans_from}
use Rattle.sbr_bands.proofs.TableLaws.{Tables, tables, table_from, table_to}
use Rattle.sbr_means.proofs.Spans.{mapped_same}
use Rattle.sbr_resolution.proofs.Alike.{in-band, high-band}
use Rattle.sbr_resolution.proofs.Times.{border_by}
use Rattle.sbr_envelopes.specs.Envelopes.{row, rows, rows_of, energies}
use Rattle.sbr_envelopes.specs.Unread.{EnergiesUnread}

module _ (t : ℕ) (high low : List ℕ) (x y : SampleAt) (f : Tables high low) (a : AlikeIn t (entry high 0) (last_entry high) x y) where
  -- a row of either table
  row_same : (b : Bool) (env : Span) → env.to ≤ t → row x (cond b high low) env ≡ row y (cond b high low) env
  row_same true env h = mapped_same _ _ high 0 (length high - 1) (λ j l p. high-band t high x y f.high a env h j (omega arith))
  row_same false env h =
      mapped_same _ _ low 0 (length low - 1)
      (λ j l p. in-band t high x y f.high a env h _
      (omega (arith, f.first, table_from low 1 j f.low (omega arith))) (omega (arith, f.last, table_to low 1 (j + 1) f.low (omega arith))))

  -- the rows of the envelopes between borders that lie within the slots
  rows_same : (fs : List Bool) (ts : List ℕ) (i k : ℕ) → ((j : ℕ) → j ≤ i + k → entry ts j ≤ t)
      → rows x high low fs (spans_from ts i k) ≡ rows y high low fs (spans_from ts i k)
  unfolding rows spans_from
  rows_same [] ts i k h = refl
  rows_same (b ∷ fs) ts i zero h = refl
  rows_same (b ∷ fs) ts i (suc k) h =
      rw (row_same b (record { from = entry ts i; to = entry ts (i + 1) }) (h (i + 1) (omega arith)), rows_same fs ts (suc i) k (λ j l. h j (omega arith)))

-- by what the time grid comes to
timed-same : (n : ℕ) (high low : List ℕ) (x y : SampleAt) (g : Grid) (room : ℕ) (o : Outcome Times) → Tables high low → AlikeIn (n + 8) (entry high 0) (last_entry high) x y
    → time_grid n g ≡ o → rows_of x high low g room o ≡ rows_of y high low g room o
timed-same n high low x y g room (Err e) f a q = refl
timed-same n high low x y g room (Ok t) f a q =
    let k : length t.t_e - 1 ≡ num_env_of g = omega (arith, (time_ends n g t q).count) in
    rw (rows_same (n + 8) high low x y f a g.freq_res t.t_e 0 (length t.t_e - 1) (λ j h. border_by n g t q j (omega arith)))

pub energies_unread : EnergiesUnread
unfolding energies
energies_unread n high low x y g room a =
    unless-same (is_slot_count n) _ _ _ (λ s.
    unless-same (tables_fit high low) _ _ _ (λ f.
    rw a.enough
    (unless-same (leb (samples_needed n) (length y)) _ _ _ (λ l.
    timed-same n high low (columns x) (columns y) g room (time_grid n g) (tables high low f) a.same refl))))
