-- A grid for borders that are named: docs/ORDER.md, R4. What is asked of its record, with no word on how it is found. That the call (`named_grid`,
-- Shapes.antt) is so for every input is proved in proofs/Chosen.antt and proofs/Limits.antt.
use Rattle.std.specs.Prelude.{◌≡◌, Bool, true, false, List, [], ◌∷◌, ◌++◌, map, ◌⊎◌, ◌↔◌, ℕ, ◌+◌, ◌≤◌, ◌<◌, ℤ, pos, length, Ok, Err}
use Rattle.sbr_grid.specs.declared.Refusal.{Refusal}
use Rattle.sbr_grid.specs.declared.Refusal.TheVariants.{SlotCount, NoGrid}
use Rattle.sbr_grid.specs.Grid.{class_code, Grid, view_of, record_of}
use Rattle.sbr_grid.specs.Times.{Times, is_slot_count}
use Rattle.sbr_time_grid.specs.TimeGrid.{time_grid}
use Rattle.sbr_writer.specs.Syntax.{grid_bits}
use Rattle.sbr_writer.specs.Write.{writable}
use Rattle.sbr_parse.specs.Syntax.{sbr_grid}
use Rattle.sbr_parse.specs.Inverse.{cleared}
use Rattle.sbr_named.specs.Shapes.{named_grid}

-- ---- records with named borders

-- a record has what is named: the writer takes it, and its time grid at n slots has exactly these borders and this mark, with these resolutions. Noise
-- borders are free, and so is what its class does not send
pub record HasNamed (n : ℕ) (borders : List ℤ) (res : List Bool) (mark : ℤ) (g : Grid) : Type 0 where
  pub fits : writable g ≡ true
  pub time : Times
  pub derived : time_grid n g ≡ Ok time
  pub same_borders : map pos time.t_e ≡ borders
  pub same_mark : time.l_a ≡ mark
  pub same_flags : g.freq_res ≡ res

-- a record is the one that the reader gives for its bits, whatever bits follow
abbrev pub AsRead : Grid → Type 0
AsRead g = (rest : List Bool) → sbr_grid (grid_bits g ++ rest) ≡ Ok (g, rest)

-- ---- their order

-- what decides among several: written bits, class code, leading lengths, pointer
abbrev pub key : Grid → List ℕ
key g = length (grid_bits g) ∷ class_code g.frame_class ∷ length g.rel_bord_0 ∷ g.pointer ∷ []

-- the first place at which two keys differ decides
abbrev pub Before : List ℕ → List ℕ → Type 0
Before [] ys = ⊥
Before (x ∷ xs) [] = ⊥
Before (x ∷ xs) (y ∷ ys) = (x < y) ⊎ ((x ≡ y) × Before xs ys)

-- ---- the statements

-- a record that has what is named, is the reader's, and comes before every other: any record with what is named comes after it, or is it once what its
-- class does not send is cleared; and the record handed out for it has it as its view
pub record FirstNamed (n : ℕ) (borders : List ℤ) (res : List Bool) (mark : ℤ) (g : Grid) : Type 0 where
  pub has : HasNamed n borders res mark g
  pub read : AsRead g
  pub before_others : (h : Grid) → HasNamed n borders res mark h → (cleared h ≡ g) ⊎ Before (key g) (key h)
  pub kept : view_of (record_of g) ≡ g

-- every answer is that record
abbrev pub NamedIsFirst : Type 0
NamedIsFirst =
    (n : ℕ) (borders : List ℤ) (res : List Bool) (mark : ℤ) (g : Grid) → named_grid n borders res mark ≡ Ok g
    → FirstNamed n borders res mark g

-- a call is refused by 1 exactly where the slot count is neither 15 nor 16, by 10 exactly where it is one of them and no record whatsoever has what is
-- named, and by nothing else
pub record NamedRefusals (n : ℕ) (borders : List ℤ) (res : List Bool) (mark : ℤ) : Type 0 where
  pub slot_count : (named_grid n borders res mark ≡ Err SlotCount) ↔ (is_slot_count n ≡ false)
  pub no_grid : (named_grid n borders res mark ≡ Err NoGrid)
      ↔ ((is_slot_count n ≡ true) × ((g : Grid) → HasNamed n borders res mark g → ⊥))
  pub no_other : (e : Refusal) → named_grid n borders res mark ≡ Err e → (e ≡ SlotCount) ⊎ (e ≡ NoGrid)

abbrev pub NoGridExactly : Type 0
NoGridExactly = (n : ℕ) (borders : List ℤ) (res : List Bool) (mark : ℤ) → NamedRefusals n borders res mark

-- outside two to six borders, or unless the resolutions are one fewer, no record has them
pub record NamedCounts (borders : List ℤ) (res : List Bool) : Type 0 where
  pub two : 2 ≤ length borders
  pub six : length borders ≤ 6
  pub resolutions : length borders ≡ length res + 1

abbrev pub CountsNamed : Type 0
CountsNamed =
    (n : ℕ) (borders : List ℤ) (res : List Bool) (mark : ℤ) (g : Grid) → HasNamed n borders res mark g → NamedCounts borders res

-- of a writable record with a time grid, clearing what the class does not send changes nothing: time grid and bits are the same, and the record is the
-- reader's
pub record SameCleared (n : ℕ) (g : Grid) : Type 0 where
  pub fits : writable (cleared g) ≡ true
  pub time : time_grid n (cleared g) ≡ time_grid n g
  pub bits : grid_bits (cleared g) ≡ grid_bits g
  pub read : AsRead (cleared g)

abbrev pub ClearingKeeps : Type 0
ClearingKeeps = (n : ℕ) (g : Grid) (t : Times) → writable g ≡ true → time_grid n g ≡ Ok t → SameCleared n g
