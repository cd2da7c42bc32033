-- The ways out of `fit_rows` and of `estimate_envelopes`, one law for each.
use Rattle.std.specs.Prelude.{Ok, Err}
use mathlib.Core.Path.{◌≡◌, refl, ◌∙◌}
use mathlib.Core.Bool.{Bool, true, false, cond}
use mathlib.Core.List.{List}
use Prim.Native.Nat.{ℕ, ◌+◌, ◌≤◌, ◌<◌}
use native.Mathlib.Omega.{arith}
use borrow.Author.Tests.{le-leb, lt-leb}
use lib.Dec.{leb}
use lib.ListN.{length}
use lib.Ieee.{Float}
use Rattle.sbr_grid.specs.declared.Refusal.{Refusal}
use Rattle.sbr_grid.specs.declared.Refusal.TheVariants.{SlotCount, Samples, Tables as NoTables, Room}
use Rattle.sbr_grid.specs.Refusals.{Outcome, unless}
use Rattle.sbr_grid.specs.declared.SbrGrid.{SbrGrid}
use Rattle.sbr_grid.specs.declared.TimeGrid.{TimeGrid}
use Rattle.sbr_grid.specs.Grid.{Grid, first, view_of}
use Rattle.sbr_grid.specs.Times.{Times, time_record, is_slot_count}
use Rattle.sbr_time_grid.specs.TimeGrid.{time_grid}
use Rattle.sbr_qmf.specs.Qmf.{columns, samples_needed}
use Rattle.sbr_bands.specs.Tables.{tables_fit, spans}
use Rattle.sbr_bands.proofs.TableLaws.{Table, Tables}
use Rattle.sbr_means.specs.Means.{Bands}
use Rattle.sbr_resolution.specs.Resolution.{Bordered, framed}
use Rattle.sbr_resolution.proofs.Times.{recorded, recorded_count, bordered}
use Rattle.sbr_envelopes.specs.Envelopes.{rows, fitted, rows_of, energies}

-- the rows, as many numbers as were counted, have no room
pub no_room : (es : List Float) (room count : ℕ) → length es ≡ count → room < count → fitted room es ≡ Err Room
no_room es room count n h = rw (n, lt-leb count room h)

-- they have room
pub has_room : (es : List Float) (room count : ℕ) → length es ≡ count → count ≤ room → fitted room es ≡ Ok es
has_room es room count n h = rw (n, le-leb count room h)

-- a table of either resolution
pub record RowTable (t : List ℕ) : Type 0 where
  pub some : 1 ≤ length t
  pub few : length t ≤ 65
  pub bands : Bands t

of_table : (t : List ℕ) (n : ℕ) → 1 ≤ n → Table t n → RowTable t
of_table t n h b = record {
  some = omega (arith, b.some);
  few = b.few;
  bands = record { climbing = λ j l. omega (arith, b.step j l); by64 = b.by64 };
}

pub row_table : (high low table : List ℕ) (b : Bool) → Tables high low → table ≡ cond b high low → RowTable table
row_table high low table true t e = rw e (of_table high 2 (omega arith) t.high)
row_table high low table false t e = rw e (of_table low 1 (omega arith) t.low)

-- where one of three tests is not passed what follows does not matter
refused : {A B : Type 0} (a b c : Bool) (d e f g : Refusal) (o : Outcome A) (k : B) → unless a d (unless b e (unless c f (Ok k))) ≡ Err g
    → unless a d (unless b e (unless c f o)) ≡ Err g
refused true true true d e f g o k h = cc
refused true true false d e f g o k h = cc
refused true false c d e f g o k h = cc
refused false b c d e f g o k h = cc

-- where all are passed what follows stands
pub passed : {A B : Type 0} (a b c : Bool) (d e f : Refusal) (o : Outcome A) (k m : B) → unless a d (unless b e (unless c f (Ok k))) ≡ Ok m
    → (unless a d (unless b e (unless c f o)) ≡ o) × (m ≡ k)
passed true true true d e f o k m h = (refl, cc)
passed true true false d e f o k m h = cc
passed true false c d e f o k m h = cc
passed false b c d e f o k m h = cc

module _ (n : ℕ) (high low : List ℕ) (x : List Float) (g : Grid) (room : ℕ) where
  -- the frame is refused
  pub frame-refused : (e : Refusal) → framed n high low x ≡ Err e → energies n high low x g room ≡ Err e
  unfolding energies
  frame-refused e h = refused (is_slot_count n) (tables_fit high low) (leb (samples_needed n) (length x)) SlotCount NoTables Samples e (rows_of (columns x) high low g room (time_grid n g)) (n + 8) h

  -- there is a frame
  pub frame-made : (m : ℕ) → framed n high low x ≡ Ok m → (energies n high low x g room ≡ rows_of (columns x) high low g room (time_grid n g)) × (m ≡ n + 8)
  unfolding energies
  frame-made m h = passed (is_slot_count n) (tables_fit high low) (leb (samples_needed n) (length x)) SlotCount NoTables Samples (rows_of (columns x) high low g room (time_grid n g)) (n + 8) m h

  -- it has no time grid
  pub time-refused : (m : ℕ) (e : Refusal) → framed n high low x ≡ Ok m → time_grid n g ≡ Err e → energies n high low x g room ≡ Err e
  time-refused m e h t = (frame-made m h).0 ∙ rw t

  -- it has one
  pub time-made : (m : ℕ) (t : Times) → framed n high low x ≡ Ok m → time_grid n g ≡ Ok t → energies n high low x g room ≡ fitted room (rows (columns x) high low g.freq_res (spans t.t_e))
  time-made m t h e = (frame-made m h).0 ∙ rw e

-- a record of envelopes and its time grid
pub record Made (n : ℕ) (grid : SbrGrid) (t : Times) (r : TimeGrid) : Type 0 where
  pub few : grid.num_env ≤ 5
  pub count : r.num_env ≡ grid.num_env
  pub borders : first 0 (r.num_env + 1) r.t_e ≡ t.t_e
  pub long : length t.t_e ≡ grid.num_env + 1
  pub within : Bordered t.t_e (n + 8)

pub made : (n : ℕ) (grid : SbrGrid) (t : Times) (r : TimeGrid) → time_grid n (view_of grid) ≡ Ok t → r ≡ time_record t → Made n grid t r
made n grid t r e f =
    let s = recorded n (view_of grid) t r e f in
    let k = recorded_count n grid t r e f in
    record {
      few = omega (arith, s.few, k);
      count = k;
      borders = s.borders;
      long = omega (arith, s.count, k);
      within = bordered n (view_of grid) t e;
    }
