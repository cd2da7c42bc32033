-- Energies of envelopes: `estimate_envelopes` of src/sbr_encoder.rs.
use Rattle.std.specs.Prelude.{Bool, cond, List, [], ◌∷◌, ◌++◌, map, ℕ, ◌+◌, leb, length, drop, Float, Ok, Err}
use Rattle.sbr_grid.specs.declared.Refusal.TheVariants.{SlotCount, Samples, Tables, Room}
use Rattle.sbr_grid.specs.Refusals.{Outcome, unless}
use Rattle.sbr_grid.specs.Grid.{Grid}
use Rattle.sbr_grid.specs.Times.{Times, is_slot_count}
use Rattle.sbr_time_grid.specs.TimeGrid.{time_grid}
use Rattle.sbr_qmf.specs.Qmf.{SampleAt, columns, samples_needed}
use Rattle.sbr_bands.specs.Tables.{tables_fit, Span, spans}
use Rattle.sbr_means.specs.Means.{mean_in}

-- a mean for each band of a table, lowest first
abbrev pub row : SampleAt → List ℕ → Span → List Float
row x table env = map (mean_in x env) (spans table)

-- a row for each envelope, by the table of its resolution
unfoldable pub rows : SampleAt → List ℕ → List ℕ → List Bool → List Span → List Float
rows x high low [] envs = []
rows x high low (f ∷ fs) [] = []
rows x high low (f ∷ fs) (env ∷ envs) = row x (cond f high low) env ++ rows x high low fs envs

-- row lengths: for each envelope the bands of the table of its resolution
abbrev pub row_lengths : ℕ → ℕ → List Bool → List ℕ
row_lengths highBands lowBands fs = map (λ f. cond f highBands lowBands) fs

-- the sum of a list
abbrev pub sum_of : List ℕ → ℕ
sum_of [] = 0
sum_of (x ∷ xs) = x + sum_of xs

-- how many numbers the rows hold
unfoldable pub rows_length : List Bool → ℕ → ℕ → ℕ
rows_length fs highBands lowBands = sum_of (row_lengths highBands lowBands fs)

-- a list of numbers, those of the rows or others, where there is room for as many
abbrev pub fitted : {A : Type 0} → ℕ → List A → Outcome (List A)
fitted room es = unless (leb (length es) room) Room (Ok es)

abbrev pub rows_of : SampleAt → List ℕ → List ℕ → Grid → ℕ → Outcome Times → Outcome (List Float)
rows_of x high low g room (Ok t) = fitted room (rows x high low g.freq_res (spans t.t_e))
rows_of x high low g room (Err e) = Err e

unfoldable pub energies : ℕ → List ℕ → List ℕ → List Float → Grid → ℕ → Outcome (List Float)
energies n high low x g room =
    unless (is_slot_count n) SlotCount
    (unless (tables_fit high low) Tables
    (unless (leb (samples_needed n) (length x)) Samples
    (rows_of (columns x) high low g room (time_grid n g))))

-- the numbers after it: those past the rows, and all after a refusal, as they were
abbrev pub numbers_after : {A : Type 0} → List A → Outcome (List A) → List A
numbers_after out (Ok es) = es ++ drop (length es) out
numbers_after out (Err e) = out
