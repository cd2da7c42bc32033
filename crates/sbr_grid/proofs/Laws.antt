-- Laws of the classes and of the view of a record.
use mathlib.Core.Path.{◌≡◌, refl}
use mathlib.Core.Bool.{false}
use Prim.Native.Nat.{◌≤◌, ◌<◌}
use native.Mathlib.Omega.{arith}
use lib.ListN.{length}
use Rattle.sbr_grid.specs.declared.FrameClass.{FrameClass}
use Rattle.sbr_grid.specs.declared.FrameClass.TheVariants.{FixFix, FixVar, VarFix, VarVar}
use Rattle.sbr_grid.specs.declared.SbrGrid.{SbrGrid}
use Rattle.sbr_grid.proofs.First.{first-length, first-first}
use Rattle.sbr_grid.specs.Grid.{class_code, class_of, Grid, num_env_of, view_of, record_of}

-- a class has a number below 4, which has that class
pub class_of_code : (c : FrameClass) → class_of (class_code c) ≡ c
class_of_code FixFix = refl
class_of_code FixVar = refl
class_of_code VarFix = refl
class_of_code VarVar = refl

pub code_lt : (c : FrameClass) → class_code c < 4
code_lt FixFix = omega arith
code_lt FixVar = omega arith
code_lt VarFix = omega arith
code_lt VarVar = omega arith

-- the view of the record of a view, where the lists are within the record
pub view_record : (g : Grid) → length g.freq_res ≤ 5 → length g.rel_bord_0 ≤ 4 → length g.rel_bord_1 ≤ 4 → view_of (record_of g) ≡ g
view_record g a b c = rw (first-first false 5 g.freq_res a, first-first 0 4 g.rel_bord_0 b, first-first 0 4 g.rel_bord_1 c)

-- the lists of a view are as long as the counts of the record
pub record Lengths (g : SbrGrid) : Type 0 where
  pub env : num_env_of (view_of g) ≡ g.num_env
  pub rel0 : length (view_of g).rel_bord_0 ≡ g.num_rel_0
  pub rel1 : length (view_of g).rel_bord_1 ≡ g.num_rel_1

pub lengths : (g : SbrGrid) → Lengths g
lengths g = record { env = first-length _ _ _; rel0 = first-length _ _ _; rel1 = first-length _ _ _ }
