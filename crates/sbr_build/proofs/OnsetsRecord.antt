-- Laws of `onsets_record`: an array of onsets with its count.
use mathlib.Core.Path.{◌≡◌, ap, ◌∙◌}
use mathlib.Core.List.{List, [], ◌∷◌}
use Prim.Native.Nat.{ℕ, zero, suc, ◌+◌, ◌≤◌}
use native.Mathlib.Omega.{arith}
use lib.ListN.{length}
use Rattle.sbr_grid.specs.Grid.{first}
use Rattle.sbr_grid.proofs.First.{first-length, first-first}
use Rattle.sbr_build.specs.declared.Onsets.{Onsets}
use Rattle.sbr_build.specs.Cases.{onset_list, onsets_record, OnsetsFrom}

-- at most k onsets
pub onsets_few : (k lo n : ℕ) (os : List ℕ) → OnsetsFrom k lo n os → length os ≤ k
onsets_few zero lo n [] h = omega arith
onsets_few zero lo n (s ∷ os) h = absurd h
onsets_few (suc k) lo n [] h = omega arith
onsets_few (suc k) lo n (s ∷ os) h = omega (arith, onsets_few k (s + 4) n os h.2)

-- the next law of the record itself
list_of : (os : List ℕ) → length os ≤ 3 → onset_list (onsets_record os) ≡ os
unfolding onsets_record
list_of os h = first-first 0 3 os h

-- the onsets of what holds a list are that list
pub onsets_list : {r : Onsets} {os : List ℕ} → r ≡ onsets_record os → length os ≤ 3 → onset_list r ≡ os
onsets_list {r} {os} e h = ap onset_list e ∙ list_of os h

-- an array that is zero past the count holds the list of its first places
pub onsets_made : (count : ℕ) (slot os : List ℕ) → slot ≡ first 0 3 (first 0 count slot) → first 0 count slot ≡ os
    → ◌≡◌ {A = Onsets} (record { count = count; slot = slot }) (onsets_record os)
unfolding onsets_record
onsets_made count slot os p e =
    let k : count ≡ length os = omega (arith, first-length 0 count slot, ap length e) in
    let q : slot ≡ first 0 3 os = p ∙ ap (first 0 3) e in
    λ i. record { count = k i; slot = q i }
