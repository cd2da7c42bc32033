-- Onsets as the builders take them, and what a frame may hand to the builders: as many onsets as the scan finds at most, four slots or more apart.
use Rattle.std.specs.Prelude.{◌≡◌, true, List, [], ◌∷◌, ℕ, zero, suc, ◌+◌, ◌≤◌, ◌<◌, length}
use Rattle.sbr_grid.specs.Grid.{first}
use Rattle.sbr_grid.specs.Times.{is_slot_count}
use Rattle.sbr_build.specs.declared.Onsets.{Onsets}

-- the onsets of an array with a count
abbrev pub onset_list : Onsets → List ℕ
onset_list o = first 0 o.count o.slot

-- the array and the count of onsets: places past the count are zero
unfoldable pub onsets_record : List ℕ → Onsets
onsets_record os = record { count = length os; slot = first 0 3 os }

-- at most k onsets from slot lo on and before n, each 4 or more after the one before
abbrev pub OnsetsFrom : ℕ → ℕ → ℕ → List ℕ → Type 0
OnsetsFrom zero lo n [] = Unit {0}
OnsetsFrom zero lo n (s ∷ os) = ⊥
OnsetsFrom (suc k) lo n [] = Unit {0}
OnsetsFrom (suc k) lo n (s ∷ os) = (lo ≤ s) × (s < n) × OnsetsFrom k (s + 4) n os

-- what a frame may hand to the builders
pub record Case (n lead : ℕ) (os : List ℕ) : Type 0 where
  pub slots : is_slot_count n ≡ true
  pub clamped : lead ≤ 3
  pub onsets : OnsetsFrom 3 4 n os
