-- What an answer of `time_grid` tells: the tests that it passed, and the first and the last border.
use Rattle.std.specs.Prelude.{Ok}
use mathlib.Core.Path.{◌≡◌, refl}
use mathlib.Core.Bool.{true, ◌&&◌, and-eq-true_iff}
use Prim.Native.Nat.{ℕ, ◌+◌, ◌≤◌, ◌<◌}
use native.Mathlib.Nat.{zero-add}
use native.Mathlib.Omega.{arith}
use borrow.Author.Tests.{leb-true, eq-eqb, ne_eqb}
use lib.Dec.{leb}
use lib.ListN.{length, get_or}
use Rattle.sbr_grid.specs.declared.FrameClass.{FrameClass}
use Rattle.sbr_grid.specs.declared.FrameClass.TheVariants.{FixFix, FixVar, VarFix, VarVar}
use Rattle.sbr_grid.specs.Grid.{by_class, Grid, num_env_of}
use Rattle.sbr_grid.specs.Times.{Times, is_slot_count}
use Rattle.sbr_grid.proofs.Outcomes.{unless_answered}
use Rattle.sbr_time_grid.specs.TimeGrid.{abs_bord_lead, abs_bord_trail, borders_fit, t_e_of, times, accepts, time_grid, EndsNear}
use Rattle.sbr_time_grid.proofs.Laws.{Counts, counts}
use Rattle.sbr_time_grid.proofs.Borders.{length-list_from, get_or-list_from}

-- the tests that a record passes
pub record Passed (n : ℕ) (g : Grid) (t : Times) : Type 0 where
  pub slots : is_slot_count n ≡ true
  pub tests : accepts n g ≡ true
  pub value : t ≡ times n g

-- a record that has a time grid passes the tests, and its time grid is made of its borders
pub time_passes : (n : ℕ) (g : Grid) (t : Times) → time_grid n g ≡ Ok t → Passed n g t
unfolding time_grid
time_passes n g t e =
    let s = unless_answered (is_slot_count n) _ _ e in
    let p = unless_answered (accepts n g) _ _ s.1 in
    record { slots = s.0; tests = p.0; value = cc p.1 }

-- where the border bytes in use are at most 3, the first border is too, and the last is at most 3 past the last slot and not before it
low : (k : FrameClass) (n a b : ℕ) → by_class k true (leb b 3) (leb a 3) (leb a 3 && leb b 3) ≡ true
    → let last = by_class k n (n + b) n (n + b) in (by_class k 0 0 a a ≤ 3) × (last ≤ n + 3) × (n ≤ last)
low FixFix n a b e = omega arith
low FixVar n a b e = omega (arith, leb-true b 3 e)
low VarFix n a b e = omega (arith, leb-true a 3 e)
low VarVar n a b e = let p = simp and-eq-true_iff at e in omega (arith, leb-true a 3 p.0, leb-true b 3 p.1)

-- the first and the last border of a time grid, and how many there are
pub record Ends (n : ℕ) (g : Grid) (t : Times) : Type 0 where
  pub start : get_or t.t_e 0 0 ≤ 3
  pub end : get_or t.t_e (num_env_of g) 0 ≤ n + 3
  pub from : n ≤ get_or t.t_e (num_env_of g) 0
  pub count : length t.t_e ≡ num_env_of g + 1
  pub few : num_env_of g ≤ 5
  pub some : 0 < num_env_of g

-- the next law for the borders of a record that passes
ends : (n : ℕ) (g : Grid) → Counts g → borders_fit g ≡ true → Ends n g (times n g)
unfolding t_e_of abs_bord_lead abs_bord_trail borders_fit
ends n g c b =
    let l = low g.frame_class n g.var_bord_0 g.var_bord_1 b in
    let last : get_or (times n g).t_e (num_env_of g) 0 ≡ by_class g.frame_class n (n + g.var_bord_1) n (n + g.var_bord_1) =
    rw (
      get_or-list_from (t_e_of n g) 0 (num_env_of g + 1) (num_env_of g) (omega arith),
      zero-add,
      ne_eqb (num_env_of g) 0 (omega arith),
      eq-eqb (num_env_of g) (num_env_of g) refl,
    ) in
    record {
      start = rw (get_or-list_from (t_e_of n g) 0 (num_env_of g + 1) 0 (omega arith)) l.0;
      end = rw last l.1;
      from = rw last l.2;
      count = length-list_from (t_e_of n g) 0 (num_env_of g + 1);
      few = c.few;
      some = c.some;
    }

-- an answer has its ends within these bounds
pub time_ends : (n : ℕ) (g : Grid) (t : Times) → time_grid n g ≡ Ok t → Ends n g t
time_ends n g t e =
    let p = time_passes n g t e in
    let q = simp and-eq-true_iff at p.tests in
    rw p.value (ends n g (counts g q.0.0.0) q.0.0.1)

pub ends_near : EndsNear
ends_near n g t e = (time_ends n g t e).end
