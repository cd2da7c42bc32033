-- What C is given of the record for named borders.
use Rattle.std.specs.Prelude.{Ok, Err}
use mathlib.Core.Path.{◌≡◌}
use mathlib.Core.Bool.{Bool, true, false}
use mathlib.Core.List.{List, [], ◌++◌, map}
use Prim.Native.Nat.{ℕ, ◌≤◌, ◌<◌}
use native.Mathlib.Omega.{arith}
use borrow.Author.Tests.{le-leb}
use lib.Dec.{leb, eqb}
use lib.IntN.{ℤ}
use lib.ListN.{length, take, length-map}
use Rattle.sbr_grid.specs.declared.Refusal.TheVariants.{NoGrid}
use Rattle.sbr_grid.specs.Refusals.{result_map}
use Rattle.sbr_grid.specs.declared.SbrGrid.{SbrGrid}
use Rattle.sbr_grid.specs.Grid.{first, Grid, record_of}
use Rattle.sbr_grid.specs.Times.{is_slot_count}
use Rattle.sbr_grid.proofs.First.{first_all, first_taken}
use Rattle.sbr_grid.proofs.Outcomes.{map_answered}
use Rattle.sbr_writer.specs.Syntax.{grid_bits}
use Rattle.sbr_writer.specs.Write.{every}
use Rattle.sbr_parse.proofs.Inverse.{sent}
use Rattle.sbr_named.specs.Shapes.{named_grid}
use Rattle.sbr_named.proofs.Chosen.{named_is_first, no_grid_exactly}
use Rattle.sbr_named.proofs.Limits.{limits}
use Rattle.c_values.specs.Handed.{flagged}
use Rattle.c_values.specs.Given.{Few}
use Rattle.c_read.proofs.Readings.{few_of}

-- a range of flags has as many as it says, so the test is that of its bytes
pub flagged_all : (fs : List ℕ) → flagged (length fs) fs ≡ every (λ b. leb b 1) fs
unfolding flagged
flagged_all fs = rw (le-leb (length fs) (length fs) (omega arith), first_all 0 fs)

-- the flags that are lent are those of the range
pub flags_lent : (fs : List ℕ) (flags : List Bool) → length fs ≤ 5 → flags ≡ first false 5 (map (λ b. eqb b 1) (first 0 (length fs) fs))
    → take (length fs) flags ≡ map (λ b. eqb b 1) fs
flags_lent fs flags l e =
    rw (e, first_all 0 fs, first_taken false (length fs) 5 (map (λ b. eqb b 1) fs) l, ← length-map fs (λ b. eqb b 1))
    (first_all false (map (λ b. eqb b 1) fs))

-- more resolutions than a record has are refused by 10
pub named_long : (n : ℕ) (zs : List ℤ) (res : List Bool) (mark : ℤ) → is_slot_count n ≡ true → 5 < length res → named_grid n zs res mark ≡ Err NoGrid
named_long n zs res mark e l =
    (no_grid_exactly n zs res mark).no_grid.1 (e, λ g h. let k = (limits n zs res mark g h).few in omega arith)

-- so are more flags than that
pub flags_long : (n : ℕ) (zs : List ℤ) (fs : List ℕ) (mark : ℤ) → is_slot_count n ≡ true → 5 < length fs
    → named_grid n zs (map (λ b. eqb b 1) fs) mark ≡ Err NoGrid
flags_long n zs fs mark e l = named_long n zs (map (λ b. eqb b 1) fs) mark e (omega (arith, length-map fs (λ b. eqb b 1)))

-- a record that is answered has small counts
few_named : (n : ℕ) (zs : List ℤ) (res : List Bool) (mark : ℤ) (g : Grid) → named_grid n zs res mark ≡ Ok g → Few (record_of g)
few_named n zs res mark g h =
    let f = named_is_first n zs res mark g h in
    few_of g f.has.fits (sent (grid_bits g ++ []) g [] (f.read [])).2.clear

-- so has the one that a program answers
pub named_few : (n : ℕ) (zs : List ℤ) (res : List Bool) (mark : ℤ) (r : SbrGrid) → Ok r ≡ result_map record_of (named_grid n zs res mark) → Few r
named_few n zs res mark r e = let a = map_answered record_of _ r e in rw a.1.1 (few_named n zs res mark a.0 a.1.0)
