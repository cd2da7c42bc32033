-- What the flag beside the carried border is: the statements. Proved in proofs/Flag.antt.
use Rattle.std.specs.Prelude.{◌≡◌, Bool, true, false, List, ℕ, eqb, ℤ, pos, Ok, Err}
use Rattle.sbr_grid.specs.declared.FrameClass.{FrameClass}
use Rattle.sbr_grid.specs.declared.FrameClass.TheVariants.{VarFix}
use Rattle.sbr_grid.specs.Refusals.{Outcome}
use Rattle.sbr_grid.specs.Grid.{by_class, num_env_of}
use Rattle.sbr_reader.specs.declared.Carried.{Carried}
use Rattle.sbr_reader.specs.Read.{Accepted, read_grid, starting}

-- FIXVAR and VARVAR with bs_pointer 1, no FIXFIX and no VARFIX
abbrev pub points_at_end : FrameClass → ℕ → Bool
points_at_end c p = by_class c false (eqb p 1) false (eqb p 1)

-- a frame leaves the flag set exactly where its mark is its envelope count; those are the frames of that class and pointer, whatever the count
pub record FlagOf (f : Accepted) : Type 0 where
  pub set : f.time.l_a ≡ pos (num_env_of f.grid) → f.ends_on_attack ≡ true
  pub only : f.ends_on_attack ≡ true → f.time.l_a ≡ pos (num_env_of f.grid)
  pub pointer : f.ends_on_attack ≡ points_at_end f.grid.frame_class f.grid.pointer
  pub varfix : f.grid.frame_class ≡ VarFix → f.time.l_a ≡ pos (num_env_of f.grid) → ⊥

-- of every frame that can be read
abbrev pub FlagExactly : Type 0
FlagExactly = (l : List ℕ) (p n : ℕ) (c : Carried) (f : Accepted) → read_grid l p n c ≡ Ok f → FlagOf f

-- a reading whose frame, if there is one, begins on an attack where a is set
abbrev pub begun : Bool → Outcome Accepted → Outcome Accepted
begun a (Ok f) = Ok (record {
  grid = f.grid;
  time = f.time;
  begins_on_attack = a;
  position = f.position;
  border = f.border;
  ends_on_attack = f.ends_on_attack;
})
begun a (Err e) = Err e

-- the flag that is handed in is told of the frame, and nothing else depends on it
abbrev pub FlagOnlyTold : Type 0
FlagOnlyTold =
    (l : List ℕ) (p n : ℕ) (b : ℤ) (a : Bool)
    → read_grid l p n (record { border = b; attack = a }) ≡ begun a (read_grid l p n (starting b))
