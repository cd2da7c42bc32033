-- There is at most one way for onsets to be a case, as a field of a struct must have.
use Rattle.std.specs.Prelude.{true, List, [], ◌∷◌, ℕ, zero, suc, ◌+◌}
use Rattle.std.specs.Coded.{Coded-set, coded_bool, Unit-prop, le_prop}
use Rattle.sbr_grid.specs.Times.{is_slot_count}
use Rattle.sbr_build.specs.Cases.{OnsetsFrom, Case}

OnsetsFrom-prop : (k lo n : ℕ) (os : List ℕ) → IsProp (OnsetsFrom k lo n os)
OnsetsFrom-prop zero lo n [] = Unit-prop
OnsetsFrom-prop zero lo n (s ∷ os) = λ x. absurd x
OnsetsFrom-prop (suc k) lo n [] = Unit-prop
OnsetsFrom-prop (suc k) lo n (s ∷ os) =
    λ a b i. (le_prop a.0 b.0 i, le_prop a.1 b.1 i, OnsetsFrom-prop k (s + 4) n os a.2 b.2 i)

pub Case-prop : (n lead : ℕ) (os : List ℕ) → IsProp (Case n lead os)
Case-prop n lead os a b =
    λ i. record {
      slots = Coded-set coded_bool (is_slot_count n) true a.slots b.slots i;
      clamped = le_prop a.clamped b.clamped i;
      onsets = OnsetsFrom-prop 3 4 n os a.onsets b.onsets i;
    }
