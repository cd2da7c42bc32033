-- What holds of every grid that is chosen for onsets, and the marked cases: the statements. Proved in proofs/Every.antt and proofs/Cases.antt.
use Rattle.std.specs.Prelude.{◌≡◌, Bool, true, false, List, [], ◌∷◌, map, ℕ, ◌+◌, ◌≤◌, ℤ, pos, negsuc, get_or, Ok, Err}
use Rattle.sbr_grid.specs.Refusals.{Outcome}
use Rattle.sbr_grid.specs.Grid.{Grid, num_env_of}
use Rattle.sbr_grid.specs.Times.{Times}
use Rattle.sbr_time_grid.specs.TimeGrid.{time_grid}
use Rattle.sbr_build.specs.Cases.{Case}
use Rattle.sbr_choice.specs.Choice.{chosen_grid}

-- a grid with a time grid, from the lead to 0 to 3 slots past the frame, whose mark is not the envelope count
pub record Sound (n lead : ℕ) (g : Grid) : Type 0 where
  pub time : Times
  pub derived : time_grid n g ≡ Ok time
  pub starts : get_or time.t_e 0 0 ≡ lead
  pub ends_from : n ≤ get_or time.t_e (num_env_of g) 0
  pub ends_by : get_or time.t_e (num_env_of g) 0 ≤ n + 3
  pub unlike : time.l_a ≡ pos (num_env_of g) → ⊥

-- every chosen grid is so: no frame takes the Rust's fallback
abbrev pub ChosenIsSound : Type 0
ChosenIsSound = (variable even : Bool) (n lead : ℕ) (os : List ℕ) → Case n lead os → Sound n lead (chosen_grid variable even os lead n)

-- ---- the marked cases: docs/ORDER.md, MC-3 to MC-14

pub record Borders : Type 0 where
  pub borders : List ℕ
  pub mark : ℤ

pub record Marked : Type 0 where
  pub slots : ℕ
  pub lead : ℕ
  pub onsets : List ℕ
  pub variable : Bool
  pub even : Bool
  pub wanted : Borders

abbrev pub line : ℕ → ℕ → List ℕ → Bool → Bool → List ℕ → ℤ → Marked
line n lead os variable even bs m = record {
  slots = n;
  lead = lead;
  onsets = os;
  variable = variable;
  even = even;
  wanted = record { borders = bs; mark = m };
}

-- lines a to l; the last one for any onsets
abbrev pub marked : ℕ → List ℕ → List Marked
marked s os =
    line 16 0 [] true true (0 ∷ 16 ∷ []) (negsuc 0)
    ∷ line 16 1 [] true true (1 ∷ 16 ∷ []) (negsuc 0)
    ∷ line 16 0 (10 ∷ []) true true (0 ∷ 10 ∷ 12 ∷ 16 ∷ []) (pos 1)
    ∷ line 16 0 (15 ∷ []) true true (0 ∷ 14 ∷ 16 ∷ 18 ∷ []) (pos 1)
    ∷ line 15 0 (4 ∷ []) true true (0 ∷ 3 ∷ 5 ∷ 13 ∷ 15 ∷ []) (pos 1)
    ∷ line 15 0 (10 ∷ []) true true (0 ∷ 11 ∷ 13 ∷ 15 ∷ []) (pos 1)
    ∷ line 16 3 (4 ∷ []) true true (3 ∷ 5 ∷ 7 ∷ 16 ∷ []) (pos 2)
    ∷ line 16 1 (15 ∷ []) true true (1 ∷ 9 ∷ 15 ∷ 17 ∷ 18 ∷ []) (pos 2)
    ∷ line 16 0 (4 ∷ 8 ∷ []) true true (0 ∷ 4 ∷ 6 ∷ 8 ∷ 10 ∷ 16 ∷ []) (pos 1)
    ∷ line 16 0 (4 ∷ 8 ∷ 12 ∷ []) true true (0 ∷ 4 ∷ 6 ∷ 8 ∷ 12 ∷ 16 ∷ []) (pos 1)
    ∷ line 16 0 (10 ∷ 14 ∷ []) true true (0 ∷ 8 ∷ 10 ∷ 12 ∷ 14 ∷ 16 ∷ []) (pos 2)
    ∷ line 16 2 (s ∷ os) false true (2 ∷ 4 ∷ 8 ∷ 12 ∷ 16 ∷ []) (negsuc 0)
    ∷ []

abbrev pub shown : Outcome Times → Outcome Borders
shown (Ok t) = Ok (record { borders = t.t_e; mark = t.l_a })
shown (Err e) = Err e

-- borders and mark of the chosen grid
abbrev pub found : Marked → Outcome Borders
found m = shown (time_grid m.slots (chosen_grid m.variable m.even m.onsets m.lead m.slots))

abbrev pub MarkedCases : Type 0
MarkedCases = (s : ℕ) (os : List ℕ) → map found (marked s os) ≡ map (λ m. Ok m.wanted) (marked s os)
