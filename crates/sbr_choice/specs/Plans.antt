-- What a plan of the border search is, without the search (docs/ORDER.md, BS), and the statement that the search answers the
-- first of all plans. Proved in proofs/Best.antt.
use Rattle.std.specs.Prelude.{◌≡◌, true, List, [], ◌∷◌, ℕ, ◌+◌, ◌*◌, ◌≤◌, ◌<◌, Ok, Option, Some, None}
use Rattle.sbr_grid.specs.Times.{Times}
use Rattle.sbr_time_grid.specs.TimeGrid.{time_grid}
use Rattle.sbr_build.specs.Cases.{Case}
use Rattle.sbr_borders.specs.declared.WantedBorder.{WantedBorder}
use Rattle.sbr_borders.specs.Borders.{shift_count, places, prices, rises_from, last_or, reaches}
use Rattle.sbr_search.specs.Search.{Plan, Best, search, bare, isolated, plan_grid, multi_onset_grid}

-- one of its shifts for each wanted border
abbrev pub Shifts : List WantedBorder → List ℕ → Type 0
Shifts [] [] = Unit {0}
Shifts [] (i ∷ is) = ⊥
Shifts (w ∷ ws) [] = ⊥
Shifts (w ∷ ws) (i ∷ is) = (i < shift_count w) × Shifts ws is

-- borders that rise from the lead and stay below the end, each reached by the lengths of its side
pub record IsPlan (n lead : ℕ) (ws : List WantedBorder) (p : Plan) : Type 0 where
  pub shifted : Shifts ws p.shifts
  pub near : p.over ≤ 3
  pub rising : rises_from lead (places ws p.shifts) ≡ true
  pub below : last_or lead (places ws p.shifts) < n + p.over
  pub reached : reaches lead (n + p.over) p.leading (places ws p.shifts) ≡ true

abbrev pub cost : List WantedBorder → Plan → ℕ
cost ws p = prices ws p.shifts + p.over

-- the place of the shifts in the order in which they are tried
unfoldable pub shift_order : List WantedBorder → List ℕ → ℕ
shift_order [] is = 0
shift_order (w ∷ ws) [] = 0
shift_order (w ∷ ws) (i ∷ is) = i + shift_count w * shift_order ws is

-- least cost first, then the earlier shifts, the earlier end, fewer leading lengths: at most 24 turns, 4 ends and 4 counts
abbrev pub rank : List WantedBorder → Plan → ℕ
rank ws p = ((cost ws p * 24 + shift_order ws p.shifts) * 4 + p.over) * 4 + p.leading

-- b is a plan with its cost, and none comes before it
pub record Least (n lead : ℕ) (ws : List WantedBorder) (b : Best) : Type 0 where
  pub plan : IsPlan n lead ws b.plan
  pub total : b.total ≡ cost ws b.plan
  pub least : (q : Plan) → IsPlan n lead ws q → rank ws b.plan ≤ rank ws q

abbrev pub Answers : ℕ → ℕ → List WantedBorder → Option Best → Type 0
Answers n lead ws None = (q : Plan) → IsPlan n lead ws q → ⊥
Answers n lead ws (Some b) = Least n lead ws b

-- every plan's grid has a time grid: the Rust tests that and we need not
abbrev pub PlansHaveTimes : ℕ → ℕ → List WantedBorder → Type 0
PlansHaveTimes n lead ws =
    (q : Plan) → IsPlan n lead ws q → (t : Times) × (time_grid n (plan_grid n lead ws q) ≡ Ok t)

-- both kinds of search answer the least plan of their kind, or none exactly where there is none
pub record Searched (n lead : ℕ) (os : List ℕ) : Type 0 where
  pub isolating : Answers n lead (isolated os) (search n lead (isolated os))
  pub plain : Answers n lead (bare os) (search n lead (bare os))
  pub isolating_times : PlansHaveTimes n lead (isolated os)
  pub plain_times : PlansHaveTimes n lead (bare os)

abbrev pub SearchIsLeast : Type 0
SearchIsLeast = (n lead : ℕ) (os : List ℕ) → Case n lead os → Searched n lead os

-- no plan of either kind
pub record Neither (n lead : ℕ) (os : List ℕ) : Type 0 where
  pub isolating : (q : Plan) → IsPlan n lead (isolated os) q → ⊥
  pub plain : (q : Plan) → IsPlan n lead (bare os) q → ⊥

-- "none" comes exactly when neither kind has a plan
abbrev pub NoneExactly : Type 0
NoneExactly =
    (n lead s : ℕ) (rest : List ℕ) → let os = s ∷ rest in Case n lead os
    → ((multi_onset_grid os lead n ≡ None → Neither n lead os) × (Neither n lead os → multi_onset_grid os lead n ≡ None))
