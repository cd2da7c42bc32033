-- The test of a record, as the program makes it.
use Rattle.std.specs.Prelude.{Ok, Err}
use Rattle.std.specs.Ordering.{int_eq}
use Rattle.std.specs.Cmp.Lexicographic.{pointwise}
use mathlib.Core.Path.{◌≡◌, refl, sym, ap, ◌∙◌}
use mathlib.Core.Bool.{false, ◌&&◌}
use mathlib.Core.List.{List}
use Prim.Native.Nat.{ℕ, ◌+◌, ◌-◌, ◌≤◌}
use native.Mathlib.Omega.{arith}
use lib.Dec.{eqb}
use lib.IntN.{ℤ}
use lib.ListN.{length}
use Rattle.sbr_grid.specs.declared.Refusal.{Refusal}
use Rattle.sbr_grid.specs.declared.TimeGrid.{TimeGrid}
use Rattle.sbr_grid.specs.Refusals.{Outcome, result_map}
use Rattle.sbr_grid.specs.Grid.{first, Grid}
use Rattle.sbr_grid.specs.Times.{Times, time_record}
use Rattle.sbr_grid.proofs.First.{first-first}
use Rattle.sbr_time_grid.specs.TimeGrid.{time_grid}
use Rattle.sbr_time_grid.proofs.Ends.{time_ends}
use Rattle.sbr_named.specs.Shapes.{has_times}

-- the places in use of a time grid that is handed out
pub record Places (time : TimeGrid) (t : Times) : Type 0 where
  pub few : time.num_env ≤ 5
  pub borders : first 0 (time.num_env + 1) time.t_e ≡ t.t_e
  pub mark : time.l_a ≡ t.l_a

-- the next law, by what the time grid comes to
places_by : (n : ℕ) (g : Grid) (time : TimeGrid) (o : Outcome Times) → time_grid n g ≡ o → ◌≡◌ {A = Outcome TimeGrid} (Ok time) (result_map time_record o)
    → (t : Times) × (o ≡ Ok t) × Places time t
places_by n g time (Ok t) e h =
    let z : time ≡ time_record t = cc in
    let p = time_ends n g t e in
    let q : length t.t_e - 1 + 1 ≡ length t.t_e = omega (arith, p.count) in
    (t, refl, rw z (record { few = omega (arith, p.count, p.few); borders = rw q (first-first 0 6 t.t_e (omega (arith, p.count, p.few))); mark = refl }))
places_by n g time (Err r) e h = cc

-- a time grid that is handed out is one of the record
pub places : (n : ℕ) (g : Grid) (time : TimeGrid) → ◌≡◌ {A = Outcome TimeGrid} (Ok time) (result_map time_record (time_grid n g))
    → (t : Times) × (time_grid n g ≡ Ok t) × Places time t
places n g time h = places_by n g time (time_grid n g) refl h

-- the next law for a time grid that is known
same_by : (time : TimeGrid) (t : Times) (bs : List ℕ) (mark : ℤ) → Places time t
    → (pointwise eqb (first 0 (time.num_env + 1) time.t_e) bs && int_eq time.l_a mark) ≡ (pointwise eqb t.t_e bs && int_eq t.l_a mark)
same_by time t bs mark p = rw (p.borders, p.mark)

-- and has the borders and the mark where its places in use do
pub has_timed : (n : ℕ) (g : Grid) (time : TimeGrid) (bs : List ℕ) (mark : ℤ) → ◌≡◌ {A = Outcome TimeGrid} (Ok time) (result_map time_record (time_grid n g))
    → (pointwise eqb (first 0 (time.num_env + 1) time.t_e) bs && int_eq time.l_a mark) ≡ has_times bs mark (time_grid n g)
unfolding has_times
has_timed n g time bs mark h =
    let p = places n g time h in
    same_by time p.0 bs mark p.2 ∙ sym (ap (has_times bs mark) p.1)

-- where none is, it has not
pub has_timeless : (bs : List ℕ) (mark : ℤ) (o : Outcome Times) (r : Refusal) → ◌≡◌ {A = Outcome TimeGrid} (Err r) (result_map time_record o) → false ≡ has_times bs mark o
unfolding has_times
has_timeless bs mark (Ok t) r h = cc
has_timeless bs mark (Err e) r h = refl
