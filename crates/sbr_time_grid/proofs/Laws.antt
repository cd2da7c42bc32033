-- Laws of the classes and of the counts.
use mathlib.Core.Path.{◌≡◌}
use mathlib.Core.Bool.{true, cond, ◌&&◌, and-eq-true_iff}
use lib.Dec.{leb, ltb, eqb}
use Prim.Native.Nat.{◌+◌, ◌-◌, ◌/◌, ◌≤◌, ◌<◌}
use native.Mathlib.Omega.{arith}
use borrow.Author.Tests.{leb-true, eqb-true}
use lib.ListN.{length}
use Rattle.sbr_grid.specs.declared.FrameClass.{FrameClass}
use Rattle.sbr_grid.specs.declared.FrameClass.TheVariants.{FixFix, FixVar, VarFix, VarVar}
use Rattle.sbr_grid.specs.declared.SbrGrid.{SbrGrid}
use Rattle.sbr_grid.specs.Grid.{by_class, Grid, num_env_of, view_of}
use Rattle.sbr_grid.proofs.Laws.{lengths}
use Rattle.sbr_time_grid.proofs.Marks.{noise_meet}
use Rattle.sbr_time_grid.specs.TimeGrid.{n_rel_lead, n_rel_trail, counts_fit, by_pointer, middle_border, noise_fits, mark_of, l_a_of}

-- what holds of the entry of each class holds of that of the class at hand
pub each_class : {A : Type 0} (P : A → Type 0) (k : FrameClass) (a b c d : A) → P a → P b → P c → P d → P (by_class k a b c d)
each_class P FixFix a b c d p q r s = p
each_class P FixVar a b c d p q r s = q
each_class P VarFix a b c d p q r s = r
each_class P VarVar a b c d p q r s = s

-- at most four leading lengths are in use
pub lead_few : (g : Grid) → num_env_of g ≤ 5 → length g.rel_bord_0 ≤ 4 → n_rel_lead g ≤ 4
unfolding n_rel_lead
lead_few g h k = each_class (λ n. n ≤ 4) g.frame_class _ _ _ _ (omega arith) (omega arith) k k

-- the same of the trailing lengths
pub trail_few : (g : Grid) → length g.rel_bord_1 ≤ 4 → n_rel_trail g ≤ 4
unfolding n_rel_trail
trail_few g h = each_class (λ n. n ≤ 4) g.frame_class _ _ _ _ (omega arith) h (omega arith) h

-- the trailing lengths in use are in the record
pub trail_used : (g : Grid) → n_rel_trail g ≤ length g.rel_bord_1
unfolding n_rel_trail
trail_used g = each_class (λ n. n ≤ length g.rel_bord_1) g.frame_class _ _ _ _ (omega arith) (omega arith) (omega arith) (omega arith)

-- what the test of the counts tells
pub record Counts (g : Grid) : Type 0 where
  pub some : 0 < num_env_of g
  pub few : num_env_of g ≤ 5
  pub few0 : length g.rel_bord_0 ≤ 4
  pub few1 : length g.rel_bord_1 ≤ 4
  pub all : n_rel_lead g + n_rel_trail g + 1 ≡ num_env_of g

-- a record that passes the test of the counts has them
pub counts : (g : Grid) → counts_fit g ≡ true → Counts g
unfolding counts_fit
counts g h = let p = simp and-eq-true_iff at h in omega (arith, leb-true, eqb-true, p)

-- the same of a record
pub record Fit (g : SbrGrid) : Type 0 where
  pub some : 0 < g.num_env
  pub few : g.num_env ≤ 5
  pub all : n_rel_lead (view_of g) + n_rel_trail (view_of g) + 1 ≡ g.num_env

-- the same of the record that a program holds
pub fit : (g : SbrGrid) → counts_fit (view_of g) ≡ true → Fit g
fit g h = omega (arith, counts (view_of g) h, lengths g)

-- the counts of the lengths in use are at most 4
pub used_few : (g : SbrGrid) → (leb 1 g.num_env && leb g.num_env 5 && leb g.num_rel_0 4 && leb g.num_rel_1 4) ≡ true
    → (n_rel_lead (view_of g) ≤ 4) × (n_rel_trail (view_of g) ≤ 4)
used_few g h =
    let p = simp and-eq-true_iff at h in
    let few : (g.num_env ≤ 5) × (g.num_rel_0 ≤ 4) × (g.num_rel_1 ≤ 4) = omega (arith, leb-true, p) in
    let l = lengths g in
    (lead_few (view_of g) (omega arith) (omega arith), trail_few (view_of g) (omega arith))

-- the test of the counts, by those of the record
pub counts_by : (g : SbrGrid) → counts_fit (view_of g) ≡ ((leb 1 g.num_env && leb g.num_env 5 && leb g.num_rel_0 4 && leb g.num_rel_1 4)
    && eqb (n_rel_lead (view_of g) + n_rel_trail (view_of g) + 1) g.num_env)
unfolding counts_fit
counts_by g = rw ((lengths g).env, (lengths g).rel0, (lengths g).rel1)

-- the test of the noise count, by those of the record
pub noise_by : (g : SbrGrid) → noise_fits (view_of g) ≡ cond (leb g.num_env 1) (eqb g.num_noise 1)
    (eqb g.num_noise 2 && leb 1 (middle_border (view_of g)) && ltb (middle_border (view_of g)) g.num_env)
unfolding noise_fits
noise_by g = rw (lengths g).env

-- the counts of the lengths in use, by the record
pub lead_by : (g : SbrGrid) → n_rel_lead (view_of g) ≡ by_class g.frame_class (g.num_env - 1) 0 g.num_rel_0 g.num_rel_0
unfolding n_rel_lead
lead_by g = rw ((lengths g).env, (lengths g).rel0)

pub trail_by : (g : SbrGrid) → n_rel_trail (view_of g) ≡ by_class g.frame_class 0 g.num_rel_1 0 g.num_rel_1
unfolding n_rel_trail
trail_by g = rw (lengths g).rel1

-- the border at which the noise floors meet, by the record
pub middle_by : (g : SbrGrid) → let l = g.num_env in let p = g.pointer in
    middle_border (view_of g) ≡ by_class g.frame_class (l / 2) (by_pointer p (l - 1) (l - 1) (l + 1 - p)) (by_pointer p 1 (l - 1) (p - 1)) (by_pointer p (l - 1) (l - 1) (l + 1 - p))
unfolding middle_border
middle_by g = rw (lengths g).env

-- the mark, by the record
pub mark_by : (g : SbrGrid) → l_a_of (view_of g) ≡ mark_of g.frame_class g.num_env g.pointer
unfolding l_a_of
mark_by g = rw (lengths g).env

-- two noise floors meet before the last border
pub noise_inside : (g : SbrGrid) → noise_fits (view_of g) ≡ true → 1 < g.num_env → middle_border (view_of g) < g.num_env
noise_inside g e h = let l = lengths g in omega (arith, noise_meet (view_of g) e (omega arith))
