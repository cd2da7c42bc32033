-- All bits of a record: its class, what stands before its flags, and these.
use mathlib.Core.Path.{◌≡◌, refl, sym, ap, ◌∙◌}
use mathlib.Core.Bool.{true}
use mathlib.Core.List.{List, ◌++◌, append_assoc}
use Prim.Native.Nat.{ℕ, ◌+◌, ◌≤◌}
use native.Mathlib.Omega.{arith}
use lib.ListN.{length, length-append}
use Rattle.bits.specs.Bits.{bits_of}
use Rattle.bits.specs.declared.Window.{Window}
use Rattle.sbr_grid.specs.declared.FrameClass.{FrameClass}
use Rattle.sbr_grid.specs.declared.FrameClass.TheVariants.{FixFix, FixVar, VarFix, VarVar}
use Rattle.sbr_grid.specs.Grid.{class_code, first, Grid, num_env_of, view_of}
use Rattle.sbr_writer.specs.Syntax.{twos, body_bits, grid_bits}
use Rattle.sbr_writer.specs.Write.{small, fields_fit_of, class_fits, writable}
use Rattle.sbr_writer.specs.Code.{Behind, window_for, before_flags, sent_flags}
use Rattle.sbr_writer.proofs.Gather.{chain, length-twos}
use Rattle.sbr_grid.specs.declared.SbrGrid.{SbrGrid}
use Rattle.sbr_grid.proofs.First.{first-length}
use Rattle.sbr_grid.proofs.Widths.{pointer_width}
use Rattle.bits.proofs.Numbers.{length-bits_of}
use Rattle.std.proofs.lemmas.Bool.{and_parts}
use Rattle.sbr_writer.proofs.Writable.{told, one_told, two_told, fields_told, fix-var_view, var-fix_view, var-var_view}

-- what a class sends before its flags and as its flags is what it sends
pub body_parts : (k : FrameClass) (g : Grid) → class_fits k g ≡ true → before_flags k g ++ sent_flags k g.freq_res ≡ body_bits k g
unfolding twos before_flags sent_flags body_bits class_fits
body_parts FixFix g h = refl
body_parts FixVar g h = let t = one_told (length g.rel_bord_1) (num_env_of g) h in rw (← t.0) (simp append_assoc)
body_parts VarFix g h = let t = one_told (length g.rel_bord_0) (num_env_of g) h in rw (← t.0) (simp append_assoc)
body_parts VarVar g h = simp append_assoc

-- class and body make the whole
pub whole : (g : Grid) (code : ℕ) (w v r : Window) → code ≡ class_code g.frame_class → class_fits g.frame_class g ≡ true
    → Behind (record { value = 0; width = 0 }) (bits_of 2 code) w → Behind w (before_flags g.frame_class g) v
    → Behind v (sent_flags g.frame_class g.freq_res) r → r ≡ window_for (grid_bits g)
unfolding grid_bits
whole g code w v r e f a b c = (chain a (chain b c)).is ∙ ap window_for (rw (← e, body_parts g.frame_class g f))

-- ---- what the tests of a record say of its sides

-- the one side of a record: its border byte and the n lengths in rel
pub record OneSide (g : SbrGrid) (bord n : ℕ) (rel : List ℕ) : Type 0 where
  pub border : bord ≤ 3
  pub few : n ≤ 3
  pub count : length rel ≡ n
  pub small : small rel ≡ true
  pub pointed : g.pointer ≤ n + 1

pub fixvar_told : (g : SbrGrid) → writable (view_of g) ≡ true → g.frame_class ≡ FixVar → OneSide g g.var_bord_1 g.num_rel_1 (first 0 g.num_rel_1 g.rel_bord_1)
fixvar_told g h e =
    let b = and_parts _ _ h in
    let t = told g b.0 in
    let k : class_fits FixVar (view_of g) ≡ true = ap (λ k. class_fits k (view_of g)) (sym e) ∙ b.1 in
    let c = one_told g.num_rel_1 g.num_env (sym (fix-var_view g) ∙ k) in
    record { border = t.numbers.bord_1; few = omega (arith, c.0, c.1); count = first-length _ _ _; small = t.small1; pointed = omega (arith, c.0, t.pointed) }

pub varfix_told : (g : SbrGrid) → writable (view_of g) ≡ true → g.frame_class ≡ VarFix → OneSide g g.var_bord_0 g.num_rel_0 (first 0 g.num_rel_0 g.rel_bord_0)
varfix_told g h e =
    let b = and_parts _ _ h in
    let t = told g b.0 in
    let k : class_fits VarFix (view_of g) ≡ true = ap (λ k. class_fits k (view_of g)) (sym e) ∙ b.1 in
    let c = one_told g.num_rel_0 g.num_env (sym (var-fix_view g) ∙ k) in
    record { border = t.numbers.bord_0; few = omega (arith, c.0, c.1); count = first-length _ _ _; small = t.small0; pointed = omega (arith, c.0, t.pointed) }

-- both sides of a record
pub record TwoSides (g : SbrGrid) (rel0 rel1 : List ℕ) : Type 0 where
  pub bord_0 : g.var_bord_0 ≤ 3
  pub bord_1 : g.var_bord_1 ≤ 3
  pub few_0 : g.num_rel_0 ≤ 3
  pub few_1 : g.num_rel_1 ≤ 3
  pub total : g.num_rel_0 + g.num_rel_1 + 1 ≡ g.num_env
  pub most : g.num_env ≤ 5
  pub count_0 : length rel0 ≡ g.num_rel_0
  pub count_1 : length rel1 ≡ g.num_rel_1
  pub small_0 : small rel0 ≡ true
  pub small_1 : small rel1 ≡ true
  pub pointed : g.pointer ≤ g.num_env

pub varvar_told : (g : SbrGrid) → fields_fit_of (view_of g) ≡ true → class_fits VarVar (view_of g) ≡ true
    → TwoSides g (first 0 g.num_rel_0 g.rel_bord_0) (first 0 g.num_rel_1 g.rel_bord_1)
varvar_told g h k =
    let t = told g h in
    let c = two_told g.num_rel_0 g.num_rel_1 g.num_env (sym (var-var_view g) ∙ k) in
    record {
      bord_0 = t.numbers.bord_0;
      bord_1 = t.numbers.bord_1;
      few_0 = c.1;
      few_1 = c.2;
      total = c.0;
      most = t.numbers.most;
      count_0 = first-length _ _ _;
      count_1 = first-length _ _ _;
      small_0 = t.small0;
      small_1 = t.small1;
      pointed = t.pointed;
    }

-- with the flags, at most 24 bits follow the class
pub length_counts : (k : FrameClass) (g : Grid) → fields_fit_of g ≡ true → class_fits k g ≡ true → length (before_flags k g) + num_env_of g ≤ 24
unfolding twos before_flags class_fits
length_counts FixFix g a b = simp (length-append, length-bits_of) (omega (arith, (fields_told g a).most))
length_counts FixVar g a b =
    let t = one_told (length g.rel_bord_1) (num_env_of g) b in
    simp (length-append, length-bits_of, length-twos) (omega (arith, t.0, t.1, (pointer_width (length g.rel_bord_1 + 1)).least 3 (omega (arith, t.0, t.1))))
length_counts VarFix g a b =
    let t = one_told (length g.rel_bord_0) (num_env_of g) b in
    simp (length-append, length-bits_of, length-twos) (omega (arith, t.0, t.1, (pointer_width (length g.rel_bord_0 + 1)).least 3 (omega (arith, t.0, t.1))))
length_counts VarVar g a b =
    let t = two_told (length g.rel_bord_0) (length g.rel_bord_1) (num_env_of g) b in
    let m = (fields_told g a).most in
    simp (length-append, length-bits_of, length-twos) (omega (arith, t.0, m, (pointer_width (num_env_of g)).least 3 (omega (arith, m))))
