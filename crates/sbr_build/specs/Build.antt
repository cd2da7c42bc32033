-- Grids of even envelopes, and the forms of all builders: src/sbr_encoder.rs, under its names. n is the slot count, lead the first border.
-- Lengths and borders are whole numbers from 0 on; no builder reaches a negative one.
use Rattle.std.specs.Prelude.{Bool, false, cond, List, [], ◌∷◌, map, ℕ, zero, suc, ◌+◌, ◌-◌, ◌/◌, ◌%◌, max, min, leb, eqb, length, replicate}
use Rattle.sbr_grid.specs.declared.FrameClass.{FrameClass}
use Rattle.sbr_grid.specs.declared.FrameClass.TheVariants.{FixFix, VarFix, VarVar}
use Rattle.sbr_grid.specs.Grid.{by_class, noise_of, Grid, made}

-- raw_rel: the stored form of a length, halved toward zero
abbrev pub raw : ℕ → ℕ
raw l = (l - 2) / 2

-- k envelopes at one resolution. The amplitude override is set for a single FixFix envelope only.
abbrev pub grid_of : FrameClass → ℕ → Bool → ℕ → ℕ → List ℕ → List ℕ → ℕ → Grid
grid_of class k high lead over rel0 rel1 p =
    made class (noise_of k) (replicate k high) lead over (map raw rel0) (map raw rel1) p
    (by_class class (eqb k 1) false false false)

unfoldable pub fixfix_grid : ℕ → Bool → Grid
fixfix_grid k high = grid_of FixFix k high 0 0 [] [] 0

-- VarVar at low resolution from lead to over slots past the frame; envelope l_a_of is marked
unfoldable pub varvar_grid : ℕ → ℕ → List ℕ → List ℕ → ℕ → Grid
varvar_grid lead over rel0 rel1 l_a_of =
    let k = length rel0 + length rel1 + 1 in
    grid_of VarVar k false lead over rel0 rel1 (k + 1 - l_a_of)

-- the slots left over k envelopes, held to 2 to 8 and made even downward
abbrev pub even_share : ℕ → ℕ → ℕ
even_share left k = let share = max 2 (min 8 (left / k)) in share - share % 2

-- the lengths that k envelopes write down of the slots left; none that would reach the end
unfoldable pub shares : ℕ → ℕ → List ℕ
shares zero left = []
shares (suc zero) left = []
shares (suc (suc k)) left =
    let even = even_share left (suc (suc k)) in
    cond (leb left even) [] (even ∷ shares (suc k) (left - even))

unfoldable pub varfix_plain : ℕ → ℕ → ℕ → Grid
varfix_plain lead k n =
    let rel = shares k (n - lead) in
    let l = length rel + 1 in
    grid_of VarFix l (leb l 2) lead 0 rel [] 0
