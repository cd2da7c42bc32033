-- What every record keeps to: its counts, its borders and its mark are such as a frame can have.
use mathlib.Core.Path.{◌≡◌, refl, ap}
use mathlib.Core.Bool.{Bool, true}
use mathlib.Core.List.{List, [], ◌∷◌, map}
use Prim.Native.Nat.{ℕ, suc, ◌+◌, ◌≤◌, ◌<◌}
use native.Mathlib.Omega.{arith}
use borrow.Author.Tests.{le-leb}
use lib.IntN.{ℤ, pos}
use lib.ListN.{length, get_or, length-map}
use Rattle.sbr_grid.specs.Grid.{Grid, num_env_of}
use Rattle.sbr_grid.proofs.Slots.{slots_few}
use Rattle.sbr_time_grid.specs.TimeGrid.{t_e_of}
use Rattle.sbr_time_grid.proofs.Rises.{rises_gap}
use Rattle.sbr_time_grid.proofs.Ends.{time_ends}
use Rattle.std.specs.List.{list_all}
use Rattle.sbr_named.specs.Named.{HasNamed, CountsNamed}
use Rattle.sbr_named.specs.Code.{is_border, is_mark}
use Rattle.sbr_named.proofs.Passed.{timed}
use Rattle.sbr_named.proofs.Shapes.{listed}
use Rattle.sbr_named.proofs.Exists.{mark-of, mark-told}
use Rattle.sbr_named.proofs.Chosen.{of-signed}

-- borders of at most 19 each
all_borders : (bs : List ℕ) → ((i : ℕ) → i < length bs → get_or bs i 0 ≤ 19) → list_all is_border (map pos bs) ≡ true
all_borders [] h = refl
all_borders (b ∷ bs) h = rw (le-leb 0 b (omega arith), le-leb b 19 (h 0 (omega arith)), all_borders bs (λ i l. h (suc i) (omega arith)))

-- what is named has one border more than resolutions, 1 to 5 of those, borders from 0 to 19 and a mark from -1 to 5
pub record Limits (zs : List ℤ) (res : List Bool) (mark : ℤ) : Type 0 where
  pub count : length zs ≡ length res + 1
  pub some : 0 < length res
  pub few : length res ≤ 5
  pub borders : list_all is_border zs ≡ true
  pub marked : is_mark mark ≡ true

-- where any record has it
pub limits : (n : ℕ) (zs : List ℤ) (res : List Bool) (mark : ℤ) (g : Grid) → HasNamed n zs res mark g → Limits zs res mark
limits n zs res mark g h =
    let t = h.time in
    let p = timed n g t h.derived in
    let e = time_ends n g t h.derived in
    let s = (of-signed n zs res mark g h).1 in
    let l : num_env_of g ≡ length res = ap length h.same_flags in
    let low : (i : ℕ) → i < length t.t_e → get_or t.t_e i 0 ≤ 19 = λ i a.
    let at : (j : ℕ) → j ≤ num_env_of g → get_or t.t_e j 0 ≡ t_e_of n g j =
    λ j b. rw p.value (listed (t_e_of n g) (num_env_of g + 1) j (omega arith))
    in
    omega (arith, at i (omega arith), at (num_env_of g) (omega arith), rises_gap (t_e_of n g) (num_env_of g) i (num_env_of g) p.up (omega (arith, e.count)) (omega arith), e.end, slots_few n p.slots)
    in
    record {
      count = omega (arith, e.count, length-map t.t_e pos, ap length h.same_borders);
      some = omega (arith, e.some);
      few = omega (arith, e.few);
      borders = rw (← h.same_borders) (all_borders t.t_e low);
      marked = rw (mark-of n _ res mark g s) (mark-told n _ res mark g s).within;
    }

-- so its counts are those of the statement
pub counts_named : CountsNamed
counts_named n zs res mark g h =
    let l = limits n zs res mark g h in
    record { two = omega arith; six = omega arith; resolutions = l.count }
