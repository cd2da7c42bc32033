-- What an answered time grid gives the envelopes: how many there are, and borders that rise within the samples.
use Rattle.std.specs.Prelude.{Ok}
use mathlib.Core.Path.{◌≡◌, sym}
use mathlib.Core.Bool.{and-eq-true_iff}
use mathlib.Core.List.{List}
use Prim.Native.Nat.{ℕ, ◌+◌, ◌-◌, ◌≤◌, ◌<◌}
use native.Mathlib.Omega.{arith}
use lib.ListN.{length, get_or}
use Rattle.sbr_grid.specs.declared.SbrGrid.{SbrGrid}
use Rattle.sbr_grid.specs.Grid.{first, Grid, num_env_of, view_of}
use Rattle.sbr_grid.proofs.Laws.{lengths}
use Rattle.sbr_grid.proofs.First.{first-first, first-get_or}
use Rattle.sbr_grid.specs.declared.TimeGrid.{TimeGrid}
use Rattle.sbr_grid.specs.Times.{Times, time_record}
use Rattle.sbr_time_grid.specs.TimeGrid.{t_e_of, time_grid}
use Rattle.sbr_time_grid.proofs.Borders.{at_border}
use Rattle.sbr_grid.proofs.Slots.{slots_few}
use Rattle.sbr_time_grid.proofs.Ends.{time_passes, time_ends}
use Rattle.sbr_bands.specs.Tables.{entry}
use Rattle.sbr_time_grid.proofs.Rises.{rises_step}
use Rattle.sbr_resolution.specs.Resolution.{Bordered}
use Rattle.sbr_resolution.proofs.Borders.{borders_le}

-- k envelopes between the borders ts of a time grid t
pub record Timed (n k : ℕ) (t : Times) (ts : List ℕ) : Type 0 where
  pub few : k ≤ 5
  pub count : length t.t_e ≡ k + 1
  pub slots : n ≤ 16
  pub rising : (l : ℕ) → l < k → get_or ts l 0 ≤ get_or ts (l + 1) 0
  pub end : get_or ts k 0 ≤ n + 3
  pub borders : first 0 (k + 1) ts ≡ t.t_e

-- the envelopes of an answered time grid
pub timed : (n : ℕ) (g : Grid) (t : Times) → time_grid n g ≡ Ok t → Timed n (num_env_of g) t (first 0 6 t.t_e)
timed n g t e =
    let p = time_passes n g t e in
    let q = time_ends n g t e in
    let r = simp and-eq-true_iff at p.tests in
    let at : (l : ℕ) → l ≤ num_env_of g → get_or (first 0 6 t.t_e) l 0 ≡ t_e_of n g l =
    λ l h. rw p.value (at_border (t_e_of n g) 6 (num_env_of g) l (omega (arith, q.few)) h)
    in
    record {
      few = q.few;
      count = q.count;
      slots = slots_few n p.slots;
      rising = λ l h. omega (arith, at l (omega arith), at (l + 1) (omega arith), rises_step (t_e_of n g) (num_env_of g) l r.0.1 h);
      end = rw (first-get_or 0 6 (num_env_of g) t.t_e (omega (arith, q.few))) q.end;
      borders = rw q.count at (first-first 0 6 t.t_e (omega (arith, q.few, q.count)));
    }

-- the same of its record
pub recorded : (n : ℕ) (g : Grid) (t : Times) (r : TimeGrid) → time_grid n g ≡ Ok t → r ≡ time_record t → Timed n r.num_env t r.t_e
recorded n g t r e f =
    let s = timed n g t e in
    let k : length t.t_e - 1 ≡ num_env_of g = omega (arith, s.count) in
    rw (f, k) s

-- its borders lie within the 8 slots behind the frame
pub bordered : (n : ℕ) (g : Grid) (t : Times) → time_grid n g ≡ Ok t → Bordered t.t_e (n + 8)
bordered n g t e =
    let s = timed n g t e in
    let at : (l : ℕ) → l ≤ num_env_of g → get_or t.t_e l 0 ≡ get_or (first 0 6 t.t_e) l 0 = λ l h. sym (first-get_or 0 6 l t.t_e (omega (arith, s.few))) in
    let last : length t.t_e - 1 ≡ num_env_of g = omega (arith, s.count) in
    record {
      some = omega (arith, s.count);
      few = omega (arith, s.count, s.few);
      rising = λ l h. omega (arith, at l (omega (arith, s.count)), at (l + 1) (omega (arith, s.count)), s.rising l (omega (arith, s.count)));
      inside = rw last (omega (arith, at (num_env_of g) (omega arith), s.end));
    }

-- it has as many envelopes as the grid's record
pub recorded_count : (n : ℕ) (grid : SbrGrid) (t : Times) (r : TimeGrid) → time_grid n (view_of grid) ≡ Ok t → r ≡ time_record t → r.num_env ≡ grid.num_env
recorded_count n grid t r e f = omega (arith, (timed n (view_of grid) t e).count, (recorded n (view_of grid) t r e f).count, lengths grid)

-- each border of an answered time grid lies within the slots that energies are taken for
pub border_by : (n : ℕ) (g : Grid) (t : Times) → time_grid n g ≡ Ok t → (j : ℕ) → j ≤ num_env_of g → entry t.t_e j ≤ n + 8
border_by n g t e j h =
    let s = timed n g t e in
    omega (arith, borders_le (first 0 6 t.t_e) (num_env_of g) s.rising j h, s.end, first-get_or 0 6 j t.t_e (omega (arith, s.few)))
