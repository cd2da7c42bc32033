-- Grids that put a border on one or two onsets: the builders of src/sbr_encoder.rs under their names. n is the slot count, lead the first
-- border, s an onset.
use Rattle.std.specs.Prelude.{Bool, false, cond, ◌&&◌, List, [], ◌∷◌, ◌++◌, reverse, ℕ, zero, suc, ◌+◌, ◌-◌, ◌%◌, max, min, leb, ltb, eqb, length, Option, Some, None}
use Rattle.sbr_grid.specs.declared.FrameClass.TheVariants.{FixVar, VarFix}
use Rattle.sbr_grid.specs.Grid.{Grid}
use Rattle.sbr_build.specs.Build.{grid_of, varvar_grid}

-- lengths of 8 first, the rest last; at most k of them
unfoldable pub segments_by : ℕ → ℕ → List ℕ
segments_by zero left = []
segments_by (suc k) left = cond (eqb left 0) [] (min left 8 ∷ segments_by k (left - 8))

abbrev pub even_segments : ℕ → List ℕ
even_segments left = segments_by left left

-- the onset moved down to the lead's parity, two slots after the lead at least
abbrev pub aligned_attack : ℕ → ℕ → ℕ
aligned_attack s lead = max (s - (s + lead) % 2) (lead + 2)

-- one late onset after a variable lead: lengths up to the onset, 2 for its envelope, an end one slot after that
unfoldable pub late_attack_varvar : ℕ → ℕ → ℕ → Option Grid
late_attack_varvar s lead n =
    let sp = aligned_attack s lead in
    let segs = even_segments (sp - lead) in
    cond (ltb 0 lead && leb n (sp + 2) && leb (sp + 3) (n + 3) && leb (length segs + 1) 3)
    (Some (varvar_grid lead (sp + 3 - n) (segs ++ (2 ∷ [])) [] (length segs))) None

-- the slots after the second onset's envelope: to the end of the frame, 2 at least, made even upward
abbrev pub tail_of : ℕ → ℕ → ℕ
tail_of s2 n = let tail = max (n - (s2 + 2)) 2 in tail + tail % 2

-- two onsets, each with an envelope of 2 slots: one length before the first and a tail after the second, or two lengths before the
-- first and an end right after the second
unfoldable pub double_attack_grid : ℕ → ℕ → ℕ → ℕ → Option Grid
double_attack_grid s1 s2 lead n =
    let tail = tail_of s2 n in
    let sp1 = aligned_attack s1 lead in
    let segs = even_segments (sp1 - lead) in
    cond (leb tail 8 && leb (s2 + 2 + tail) (n + 3))
    (cond (leb (sp1 - lead) 8 && leb (sp1 + 3) s2)
    (Some (varvar_grid lead (s2 + 2 + tail - n) ((sp1 - lead) ∷ 2 ∷ []) (tail ∷ 2 ∷ []) 1))
    (cond (leb n (s2 + 2) && leb (sp1 + 3) s2 && eqb (length segs) 2)
    (Some (varvar_grid lead (s2 + 2 - n) (segs ++ (2 ∷ [])) (2 ∷ []) 2)) None))
    None

-- the lengths from the onset to the end, and from the lead to the onset
unfoldable pub fixvar_segs : ℕ → List ℕ
fixvar_segs rest = cond (leb rest 2) (rest ∷ []) (cond (leb rest 10) (2 ∷ (rest - 2) ∷ []) (2 ∷ 8 ∷ (rest - 10) ∷ []))

unfoldable pub varfix_segs : ℕ → List ℕ
varfix_segs span = cond (leb span 8) (span ∷ []) (8 ∷ (span - 8) ∷ [])

-- the mark of the VarFix grid of k lengths, the last of them the onset's envelope or not
abbrev pub varfix_mark : ℕ → Bool → ℕ
varfix_mark k short = max (min (k - 1 + cond short 1 0) k) 1

-- one onset: FixVar from 0, VarFix from a lead
unfoldable pub fixvar_grid : ℕ → ℕ → Grid
fixvar_grid s n =
    let sp = s - s % 2 in
    let t = max n (sp + 4) in
    let segs = fixvar_segs (t - sp) in
    let k = length segs + 1 in
    grid_of FixVar k false 0 (t - n) [] (reverse segs) (k + 1 - 1)

unfoldable pub varfix_grid : ℕ → ℕ → ℕ → Grid
varfix_grid s lead n =
    let sp = aligned_attack s lead in
    let short = ltb (sp + 2) n in
    let rel = varfix_segs (sp - lead) ++ cond short (2 ∷ []) [] in
    grid_of VarFix (length rel + 1) false lead 0 rel [] (varfix_mark (length rel) short + 1)

unfoldable pub variable_grid : ℕ → ℕ → ℕ → Grid
variable_grid s lead n = cond (eqb lead 0) (fixvar_grid s n) (varfix_grid s lead n)
