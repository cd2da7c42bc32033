-- The border search in the Rust's order: `varvar_from_borders` and `multi_onset_grid` of src/sbr_encoder.rs, docs/ORDER.md, BS.
use Rattle.std.specs.Prelude.{Bool, true, false, cond, ◌&&◌, List, [], ◌∷◌, map, ℕ, zero, suc, ◌+◌, ltb, Option, Some, None}
use Rattle.sbr_grid.specs.Grid.{Grid}
use Rattle.sbr_borders.specs.declared.WantedBorder.{WantedBorder}
use Rattle.sbr_build.specs.Build.{varvar_grid}
use Rattle.sbr_borders.specs.Borders.{places, prices, next_shifts, rises_from, last_or, leading_steps, trailing_steps, fit, onset_at}

-- ---- the search

-- a plan: the shifts, the slots that the end lies past the slot count, how many borders are reached by leading lengths
pub record Plan : Type 0 where
  pub shifts : List ℕ
  pub over : ℕ
  pub leading : ℕ

pub record Best : Type 0 where
  pub total : ℕ
  pub plan : Plan

abbrev pub beats : ℕ → Option Best → Bool
beats total None = true
beats total (Some b) = ltb total b.total

abbrev pub keep_plan : List ℕ → ℕ → ℕ → Option Best → Option ℕ → Option Best
keep_plan is over total best None = best
keep_plan is over total best (Some k) = Some (record { total = total; plan = record { shifts = is; over = over; leading = k } })

-- the ends n + over, n + over + 1, .., j of them, for shifts of cost c that put the borders at bs
unfoldable pub try_ends : ℕ → ℕ → ℕ → ℕ → List ℕ → List ℕ → ℕ → Option Best → Option Best
try_ends zero over n lead is bs c best = best
try_ends (suc j) over n lead is bs c best =
    try_ends j (suc over) n lead is bs c
    (cond (ltb (last_or lead bs) (n + over) && beats (c + over) best)
    (keep_plan is over (c + over) best (fit lead (n + over) bs)) best)

unfoldable pub try_shifts : ℕ → ℕ → List WantedBorder → List ℕ → Option Best → Option Best
try_shifts n lead ws is best =
    let bs = places ws is in
    cond (rises_from lead bs) (try_ends 4 0 n lead is bs (prices ws is) best) best

-- the shifts from is on, j of them
unfoldable pub try_from : ℕ → ℕ → ℕ → List WantedBorder → Option (List ℕ) → Option Best → Option Best
try_from zero n lead ws is best = best
try_from (suc j) n lead ws None best = best
try_from (suc j) n lead ws (Some is) best = try_from j n lead ws (next_shifts ws is) (try_shifts n lead ws is best)

-- two shifts for each border and three for the isolating one: 24 at most
unfoldable pub search : ℕ → ℕ → List WantedBorder → Option Best
search n lead ws = try_from 24 n lead ws (Some (map (λ w. 0) ws)) None

-- ---- the two kinds

abbrev pub bare : List ℕ → List WantedBorder
bare os = map onset_at os

-- one border 2 slots after the first onset, second in order
abbrev pub isolated : List ℕ → List WantedBorder
isolated [] = []
isolated (s ∷ os) = onset_at s ∷ record { slot = s + 2; onset = false } ∷ bare os

-- the first onset's envelope is marked
abbrev pub plan_grid : ℕ → ℕ → List WantedBorder → Plan → Grid
plan_grid n lead ws p =
    let bs = places ws p.shifts in
    varvar_grid lead p.over (leading_steps lead p.leading bs) (trailing_steps (n + p.over) p.leading bs) 1

abbrev pub planned : ℕ → ℕ → List WantedBorder → Option Best → Option Grid
planned n lead ws None = None
planned n lead ws (Some b) = Some (plan_grid n lead ws b.plan)

-- the search without the isolating border wins if its cost + 2 is below the other's, or the other has no plan
abbrev pub plain_wins : Option Best → Option Best → Bool
plain_wins i None = false
plain_wins None (Some p) = true
plain_wins (Some i) (Some p) = ltb (p.total + 2) i.total

unfoldable pub multi_onset_grid : List ℕ → ℕ → ℕ → Option Grid
multi_onset_grid [] lead n = None
multi_onset_grid (s ∷ rest) lead n =
    let os = s ∷ rest in
    let i = search n lead (isolated os) in
    let p = search n lead (bare os) in
    cond (plain_wins i p) (planned n lead (bare os) p) (planned n lead (isolated os) i)
