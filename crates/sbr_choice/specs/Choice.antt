-- The grid of a frame whose onsets are known: the choice in `elect_grid` of src/sbr_encoder.rs, its builders tried in order.
use Rattle.std.specs.Prelude.{Bool, true, false, cond, List, [], ◌∷◌, ℕ, leb, eqb, length, Option, Some, None}
use Rattle.sbr_grid.specs.Grid.{Grid}
use Rattle.sbr_build.specs.Build.{fixfix_grid, varfix_plain}
use Rattle.sbr_attack.specs.Attack.{late_attack_varvar, double_attack_grid, variable_grid}
use Rattle.sbr_search.specs.Search.{multi_onset_grid}

-- a grid, or the next kind where there is none
abbrev pub or_grid : Option Grid → Grid → Grid
or_grid None d = d
or_grid (Some g) d = g

-- the search, for k onsets or more
abbrev pub solver : ℕ → List ℕ → ℕ → ℕ → Option Grid
solver k os lead n = cond (leb k (length os)) (multi_onset_grid os lead n) None

-- the double grid of the first two onsets
abbrev pub double_first : List ℕ → ℕ → ℕ → Option Grid
double_first [] lead n = None
double_first (s ∷ []) lead n = None
double_first (s ∷ s2 ∷ os) lead n = double_attack_grid s s2 lead n

-- variable borders: s is the first onset of os
unfoldable pub attack_grid : ℕ → List ℕ → ℕ → ℕ → Grid
attack_grid s os lead n =
    or_grid (solver 3 os lead n)
    (or_grid (double_first os lead n) (or_grid (solver 2 os lead n) (or_grid (late_attack_varvar s lead n) (variable_grid s lead n))))

-- no variable borders but the lead
unfoldable pub plain_grid : ℕ → Bool → ℕ → ℕ → Grid
plain_grid k high lead n = cond (eqb lead 0) (fixfix_grid k high) (varfix_plain lead k n)

-- variable is the switch `variable_borders`, even that the two halves are alike
unfoldable pub chosen_grid : Bool → Bool → List ℕ → ℕ → ℕ → Grid
chosen_grid variable even [] lead n = plain_grid (cond even 1 2) true lead n
chosen_grid variable even (s ∷ os) lead n = cond variable (attack_grid s (s ∷ os) lead n) (plain_grid 4 false lead n)

-- what the Rust sends in place of a grid without time grid
abbrev pub fallback_grid : List ℕ → Grid
fallback_grid [] = fixfix_grid 1 true
fallback_grid (s ∷ os) = fixfix_grid 4 false
