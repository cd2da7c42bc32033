-- What holds of every elected record, whatever the samples: the statements. Proved in proofs/EveryElection.antt.
use Rattle.std.specs.Prelude.{◌≡◌, Bool, true, List, ◌++◌, ℕ, ℤ, pos, Float, Ok}
use Rattle.sbr_grid.specs.Grid.{Grid, num_env_of, view_of, record_of}
use Rattle.sbr_grid.specs.Times.{Times}
use Rattle.sbr_time_grid.specs.TimeGrid.{time_grid}
use Rattle.sbr_writer.specs.Syntax.{grid_bits}
use Rattle.sbr_writer.specs.Write.{writable}
use Rattle.sbr_parse.specs.Syntax.{sbr_grid}
use Rattle.sbr_onsets.specs.Onsets.{lead_for}
use Rattle.sbr_choice.specs.Chosen.{Sound}
use Rattle.sbr_encoder.specs.Election.{Elected, elect}

-- it is sound, the writer refuses it for room only, a reader of its bits gives the same record, and a host that hands on the record handed out
-- for it hands on this grid
pub record Electable (n lead : ℕ) (g : Grid) : Type 0 where
  pub sound : Sound n lead g
  pub fits : writable g ≡ true
  pub reads : (rest : List Bool) → sbr_grid (grid_bits g ++ rest) ≡ Ok (g, rest)
  pub kept : view_of (record_of g) ≡ g

abbrev pub EveryElection : Type 0
EveryElection =
    (n : ℕ) (high low : List ℕ) (x : List Float) (previous : ℤ) (variable : Bool) (e : Elected)
    → elect n high low x previous variable ≡ Ok e → Electable n (lead_for n previous) e.grid

-- the mark of its time grid is not its envelope count: no attack is marked at the very end of the frame
abbrev pub NotAtEnd : ℕ → Grid → Type 0
NotAtEnd n g = (t : Times) → time_grid n g ≡ Ok t → t.l_a ≡ pos (num_env_of g) → ⊥

abbrev pub NeverAtEnd : Type 0
NeverAtEnd =
    (n : ℕ) (high low : List ℕ) (x : List Float) (previous : ℤ) (variable : Bool) (e : Elected)
    → elect n high low x previous variable ≡ Ok e → NotAtEnd n e.grid
