-- What C is given: 0, or the number of a refusal; and a record and a time grid in single numbers and fixed arrays.
use Rattle.std.specs.Prelude.{◌≡◌, false, List, [], ◌∷◌, map, ℕ, ◌≤◌, ℤ, length, Ok, Err}
use Rattle.bits.specs.Bits.{bit_n}
use Rattle.sbr_grid.specs.declared.SbrGrid.{SbrGrid}
use Rattle.sbr_grid.specs.Refusals.{Outcome, number_of, value_or, result_map}
use Rattle.sbr_grid.specs.Grid.{class_code, first, Grid}
use Rattle.sbr_grid.specs.Times.{Times}

-- the number of what a call comes to: 0, or that of its refusal
abbrev pub code_of : {A : Type 0} → Outcome A → ℕ
code_of (Ok a) = 0
code_of (Err e) = number_of e

-- what a call that comes to o leaves: its answer r, and its outputs, which are as before where it is refused
pub record Leaves {A B : Type 0} (o : Outcome A) (f : A → B) (before : B) (r : Outcome (Unit {0})) (after : B) : Type 0 where
  pub answer : r ≡ result_map (λ a. tt) o
  pub outputs : after ≡ value_or f before o

-- the same by the number r of the answer
pub record Gives {A B : Type 0} (o : Outcome A) (f : A → B) (before : B) (r : ℕ) (after : B) : Type 0 where
  pub code : r ≡ code_of o
  pub outputs : after ≡ value_or f before o

-- class, envelopes, noise floors, border bytes, counts of the lists, pointer, amplitude override
abbrev pub numbers_of : Grid → List ℕ
numbers_of g =
    class_code g.frame_class ∷ length g.freq_res ∷ g.num_noise ∷ g.var_bord_0 ∷ g.var_bord_1 ∷ length g.rel_bord_0
    ∷ length g.rel_bord_1 ∷ g.pointer ∷ bit_n g.amp_override ∷ []

-- a record: its numbers, its flags as bytes (1 for high), its lists; places past a count are 0
abbrev pub RecordGiven : Type 0
RecordGiven = List ℕ × List ℕ × List ℕ × List ℕ

abbrev pub record_out : Grid → RecordGiven
record_out g = (numbers_of g, map bit_n (first false 5 g.freq_res), first 0 4 g.rel_bord_0, first 0 4 g.rel_bord_1)

-- a time grid: its borders, its noise borders, its mark
abbrev pub TimesGiven : Type 0
TimesGiven = List ℕ × List ℕ × ℤ

abbrev pub time_out : Times → TimesGiven
time_out t = (first 0 6 t.t_e, first 0 3 t.t_q, t.l_a)

-- the counts of a record are those of a frame
pub record Few (g : SbrGrid) : Type 0 where
  pub env : g.num_env ≤ 5
  pub noise : g.num_noise ≤ 2
  pub rel0 : g.num_rel_0 ≤ 4
  pub rel1 : g.num_rel_1 ≤ 4
