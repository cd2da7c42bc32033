-- The grid record: its classes, the view that has only the places in use, and the record of a view.
-- From ISO/IEC 14496-3 Table 4.69 and docs/ORDER.md, RC.
use Rattle.std.specs.Prelude.{◌≡◌, Bool, false, cond, List, [], ◌∷◌, ℕ, zero, suc, ◌+◌, ◌-◌, ◌^◌, ◌≤◌, ◌<◌, leb, ltb, length, Ok}
use Rattle.std.specs.Int.Count.{count_leading_zeros}
use Rattle.sbr_grid.specs.declared.Refusal.TheVariants.{Record}
use Rattle.sbr_grid.specs.Refusals.{Outcome, unless}
use Rattle.sbr_grid.specs.declared.FrameClass.{FrameClass}
use Rattle.sbr_grid.specs.declared.FrameClass.TheVariants.{FixFix, FixVar, VarFix, VarVar}
use Rattle.sbr_grid.specs.declared.SbrGrid.{SbrGrid}

-- a row of the standard's tables: the entries of FIXFIX, FIXVAR, VARFIX, VARVAR
abbrev pub by_class : {A : Type 0} → FrameClass → A → A → A → A → A
by_class FixFix a b c d = a
by_class FixVar a b c d = b
by_class VarFix a b c d = c
by_class VarVar a b c d = d

-- the number of a class (bs_frame_class), and the class of a number
abbrev pub class_code : FrameClass → ℕ
class_code c = by_class c 0 1 2 3

abbrev pub class_of : ℕ → FrameClass
class_of zero = FixFix
class_of (suc zero) = FixVar
class_of (suc (suc zero)) = VarFix
class_of (suc (suc (suc n))) = VarVar

-- the class of a number; none has a number above 3
abbrev pub class_with_code : ℕ → Outcome FrameClass
class_with_code n = unless (leb n 3) Record (Ok (class_of n))

-- the least width from k on, among d more, in which n + 1 values can be told apart
unfoldable pub width_from : ℕ → ℕ → ℕ → ℕ
width_from zero k n = k
width_from (suc d) k n = cond (leb (n + 1) (2 ^ k)) k (width_from d (suc k) n)

-- ptr_bits = ceil(log2(bs_num_env + 1)): Table 4.69, Note 2
abbrev pub ptr_bits : ℕ → ℕ
ptr_bits n = width_from n 0 n

-- what that means of a width r, and that it holds of every count: proved in proofs/Widths.antt
pub record CeilLog (n r : ℕ) : Type 0 where
  pub holds : n + 1 ≤ 2 ^ r
  pub least : (k : ℕ) → n + 1 ≤ 2 ^ k → r ≤ k

abbrev pub PointerWidth : Type 0
PointerWidth = (n : ℕ) → CeilLog n (ptr_bits n)

-- of as many binary digits as hold a count, its leading zeros leave the width; proved there too
abbrev pub LeadingWidth : Type 0
LeadingWidth = (digits n : ℕ) → n < 2 ^ digits → digits - count_leading_zeros digits n ≡ ptr_bits n

-- the widths that grids have: 1 bit for one envelope, 2 for two and three, 3 for four and five; proved there too
abbrev pub GridWidths : Type 0
GridWidths = (n : ℕ) → 1 ≤ n → n ≤ 5 → ptr_bits n ≡ cond (leb n 1) 1 (cond (leb n 3) 2 3)

-- L_Q, the noise floors of n envelopes
abbrev pub noise_of : ℕ → ℕ
noise_of n = cond (ltb 1 n) 2 1

-- the first n of xs; d where xs has no more
abbrev pub first : {A : Type 0} → A → ℕ → List A → List A
first d zero xs = []
first d (suc n) [] = d ∷ first d n []
first d (suc n) (x ∷ xs) = x ∷ first d n xs

-- a record by the places that are in use: each list as long as its count says
pub record Grid : Type 0 where
  pub frame_class : FrameClass
  pub num_noise : ℕ
  pub freq_res : List Bool
  pub var_bord_0 : ℕ
  pub var_bord_1 : ℕ
  pub rel_bord_0 : List ℕ
  pub rel_bord_1 : List ℕ
  pub pointer : ℕ
  pub amp_override : Bool

-- bs_num_env
abbrev pub num_env_of : Grid → ℕ
num_env_of g = length g.freq_res

-- a grid by its class, noise count, resolutions, border bytes, lists of lengths, pointer and override
abbrev pub made : FrameClass → ℕ → List Bool → ℕ → ℕ → List ℕ → List ℕ → ℕ → Bool → Grid
made class noise res b0 b1 rel0 rel1 p override = record {
  frame_class = class;
  num_noise = noise;
  freq_res = res;
  var_bord_0 = b0;
  var_bord_1 = b1;
  rel_bord_0 = rel0;
  rel_bord_1 = rel1;
  pointer = p;
  amp_override = override;
}

-- the view of a record
abbrev pub view_of : SbrGrid → Grid
view_of g =
    made g.frame_class g.num_noise (first false g.num_env g.freq_res) g.var_bord_0 g.var_bord_1
    (first 0 g.num_rel_0 g.rel_bord_0) (first 0 g.num_rel_1 g.rel_bord_1) g.pointer g.amp_res_override

-- the record of a view: places past a count are zero
abbrev pub record_of : Grid → SbrGrid
record_of g = record {
  frame_class = g.frame_class;
  num_env = length g.freq_res;
  num_noise = g.num_noise;
  freq_res = first false 5 g.freq_res;
  var_bord_0 = g.var_bord_0;
  var_bord_1 = g.var_bord_1;
  rel_bord_0 = first 0 4 g.rel_bord_0;
  num_rel_0 = length g.rel_bord_0;
  rel_bord_1 = first 0 4 g.rel_bord_1;
  num_rel_1 = length g.rel_bord_1;
  pointer = g.pointer;
  amp_res_override = g.amp_override;
}

-- the record of which nothing is set
abbrev pub empty : SbrGrid
empty = record_of (made FixFix 0 [] 0 0 [] [] 0 false)
