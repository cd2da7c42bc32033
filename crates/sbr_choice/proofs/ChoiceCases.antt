-- The builders tried in order.
use mathlib.Core.Path.{◌≡◌, refl, sym, ◌∙◌}
use mathlib.Core.Bool.{Bool, true, false, cond}
use mathlib.Core.List.{List, [], ◌∷◌}
use Rattle.std.specs.Prelude.{Option, Some, None}
use Rattle.std.specs.Option.{option_map}
use Prim.Native.Nat.{ℕ, zero, suc, ◌≤◌, ◌<◌}
use native.Mathlib.Omega.{arith}
use Rattle.std.proofs.Common.{inl, inr}
use Rattle.std.proofs.lemmas.Bool.{cases_lt}
use borrow.Author.Tests.{le-leb, lt-leb, eq-eqb, ne_eqb}
use lib.Dec.{eqb}
use lib.ListN.{get_or}
use Rattle.sbr_grid.specs.declared.SbrGrid.{SbrGrid}
use Rattle.sbr_grid.specs.Grid.{first, Grid, record_of}
use Rattle.sbr_grid.proofs.First.{first-length}
use Rattle.sbr_build.specs.declared.Onsets.{Onsets}
use Rattle.sbr_attack.specs.Attack.{double_attack_grid}
use Rattle.sbr_search.specs.Search.{multi_onset_grid}
use Rattle.sbr_build.specs.Cases.{onset_list}
use Rattle.sbr_choice.specs.Choice.{solver, double_first, attack_grid, plain_grid, chosen_grid}

-- ---- the search and the double grid of an array

-- with k onsets or more the search is made, and with fewer it is not
pub solver_many : (k lead n : ℕ) (o : Onsets) → k ≤ o.count → solver k (onset_list o) lead n ≡ multi_onset_grid (onset_list o) lead n
solver_many k lead n o h = rw (first-length 0 o.count o.slot, le-leb k o.count h)

pub solver_few : (k lead n : ℕ) (o : Onsets) → o.count < k → solver k (onset_list o) lead n ≡ None
solver_few k lead n o h = rw (first-length 0 o.count o.slot, lt-leb k o.count h)

-- the search of the onsets where they are k
abbrev solved : ℕ → ℕ → ℕ → Onsets → Option Grid
solved k lead n o = cond (eqb o.count k) (multi_onset_grid (onset_list o) lead n) None

-- where they are k the search is made, and where they are not it is not
solved_there : (k lead n : ℕ) (o : Onsets) → o.count ≡ k → solved k lead n o ≡ multi_onset_grid (onset_list o) lead n
solved_there k lead n o e = rw (eq-eqb o.count k e)

solved_not : (k lead n : ℕ) (o : Onsets) → (o.count ≡ k → ⊥) → solved k lead n o ≡ None
solved_not k lead n o e = rw (ne_eqb o.count k e)

-- of at most three onsets the search for three is the first one
pub solved_three : (lead n : ℕ) (o : Onsets) → o.count ≤ 3 → solver 3 (onset_list o) lead n ≡ solved 3 lead n o
solved_three lead n o h = elim (cases_lt o.count 3) [
  | inl low ↦ solver_few 3 lead n o low ∙ sym (solved_not 3 lead n o (omega arith))
  | inr high ↦ solver_many 3 lead n o high ∙ sym (solved_there 3 lead n o (omega arith))
]

-- where that answers none, the search for two is the second one
pub solved_two : (lead n : ℕ) (o : Onsets) → o.count ≤ 3 → solver 3 (onset_list o) lead n ≡ None → solver 2 (onset_list o) lead n ≡ solved 2 lead n o
solved_two lead n o h e = elim (cases_lt o.count 3) [
  | inl low ↦ elim (cases_lt o.count 2) [
    | inl less ↦ solver_few 2 lead n o less ∙ sym (solved_not 2 lead n o (omega arith))
    | inr two ↦ solver_many 2 lead n o two ∙ sym (solved_there 2 lead n o (omega arith))
  ]
  | inr high ↦ solver_many 2 lead n o (omega arith) ∙ sym (solver_many 3 lead n o high) ∙ e ∙ sym (solved_not 2 lead n o (omega arith))
]

-- with two onsets or more the double grid is that of the first two
double_in : (lead n i : ℕ) (xs : List ℕ) → 2 ≤ i → double_first (first 0 i xs) lead n ≡ double_attack_grid (get_or xs 0 0) (get_or xs 1 0) lead n
double_in lead n zero xs h = absurd (omega arith)
double_in lead n (suc zero) xs h = absurd (omega arith)
double_in lead n (suc (suc i)) [] h = refl
double_in lead n (suc (suc i)) (x ∷ []) h = refl
double_in lead n (suc (suc i)) (x ∷ y ∷ xs) h = refl

-- the same of an array
pub double_many : (lead n : ℕ) (o : Onsets) → 2 ≤ o.count → double_first (onset_list o) lead n ≡ double_attack_grid (get_or o.slot 0 0) (get_or o.slot 1 0) lead n
double_many lead n o h = double_in lead n o.count o.slot h

-- ---- what the builders answer

-- where there is a grid, the definition has it
pub found : (m : Option Grid) (r : Option SbrGrid) (s : SbrGrid) → r ≡ option_map record_of m → r ≡ Some s → (g : Grid) × (m ≡ Some g) × (s ≡ record_of g)
found None r s e f = let z : ◌≡◌ {A = ℕ} 0 1 = cc in absurd (omega arith)
found (Some g) r s e f = (g, refl, cc)

-- where there is none, the definition has none
pub passed : (m : Option Grid) (r : Option SbrGrid) → r ≡ option_map record_of m → r ≡ None → m ≡ None
passed None r e f = refl
passed (Some g) r e f = let z : ◌≡◌ {A = ℕ} 0 1 = cc in absurd (omega arith)

-- where the search for three answers none, or is not made
pub no_three : (lead n : ℕ) (o : Onsets) (r : Option SbrGrid) → o.count ≤ 3 → r ≡ option_map record_of (solved 3 lead n o) → r ≡ None
    → solver 3 (onset_list o) lead n ≡ None
no_three lead n o r h e f = solved_three lead n o h ∙ passed (solved 3 lead n o) r e f

-- ---- the choice

-- without onsets the plain grid is chosen
pub chosen_none : (v e : Bool) (lead n : ℕ) (o : Onsets) → o.count ≡ 0 → chosen_grid v e (onset_list o) lead n ≡ plain_grid (cond e 1 2) true lead n
unfolding chosen_grid
chosen_none v e lead n o h = rw h

-- with onsets the switch decides
some_in : (v e : Bool) (lead n i : ℕ) (xs : List ℕ) → (i ≡ 0 → ⊥)
    → chosen_grid v e (first 0 i xs) lead n ≡ cond v (attack_grid (get_or xs 0 0) (first 0 i xs) lead n) (plain_grid 4 false lead n)
unfolding chosen_grid
some_in v e lead n zero xs h = absurd (h refl)
some_in v e lead n (suc i) [] h = refl
some_in v e lead n (suc i) (x ∷ xs) h = refl

-- the same of an array
pub chosen_some : (v e : Bool) (lead n : ℕ) (o : Onsets) → (o.count ≡ 0 → ⊥)
    → chosen_grid v e (onset_list o) lead n ≡ cond v (attack_grid (get_or o.slot 0 0) (onset_list o) lead n) (plain_grid 4 false lead n)
chosen_some v e lead n o h = some_in v e lead n o.count o.slot h
