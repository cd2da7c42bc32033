-- What the tests of `writable` say, and the loops that make them.
use mathlib.Core.Path.{◌≡◌, ◌∙◌}
use Rattle.std.proofs.Math.Bool.{and_assoc}
use Rattle.std.proofs.lemmas.Bool.{and_parts}
use mathlib.Core.Bool.{Bool, true, false, ◌&&◌, ◌||◌}
use mathlib.Core.List.{List}
use Prim.Native.Nat.{ℕ, zero, suc, ◌+◌, ◌≤◌}
use native.Mathlib.Omega.{arith}
use borrow.Author.Tests.{leb-true, eqb-true, le-leb}
use lib.Dec.{leb, eqb}
use lib.ListN.{length, get_or, length-append, length-reverse}
use Rattle.sbr_grid.specs.declared.FrameClass.{FrameClass}
use Rattle.sbr_grid.specs.declared.FrameClass.TheVariants.{FixFix, FixVar, VarFix, VarVar}
use Rattle.sbr_grid.specs.declared.SbrGrid.{SbrGrid}
use Rattle.sbr_grid.specs.Grid.{first, view_of, record_of, num_env_of, Grid}
use Rattle.sbr_grid.proofs.First.{first-length, first-get_or}
use Rattle.sbr_grid.proofs.Laws.{lengths, view_record}
use Rattle.bits.proofs.Numbers.{length-bits_of}
use Rattle.sbr_grid.proofs.Widths.{pointer_width}
use Rattle.sbr_writer.specs.Syntax.{body_bits, grid_bits}
use Rattle.sbr_writer.specs.Write.{small, all_are, class_fits, numbers_fit, lists_fit, fields_fit_of, writable}
use Rattle.sbr_writer.proofs.Gather.{length-twos}

-- what fields_fit_of tests
pub record Fields (g : Grid) : Type 0 where
  pub some : 1 ≤ num_env_of g
  pub most : num_env_of g ≤ 5
  pub bord_0 : g.var_bord_0 ≤ 3
  pub bord_1 : g.var_bord_1 ≤ 3
  pub rel0 : length g.rel_bord_0 ≤ 4
  pub rel1 : length g.rel_bord_1 ≤ 4
  pub small0 : small g.rel_bord_0 ≡ true
  pub small1 : small g.rel_bord_1 ≡ true
  pub pointed : g.pointer ≤ num_env_of g

-- they hold where the test does, and the test where they do
pub fields_told : (g : Grid) → fields_fit_of g ≡ true → Fields g
unfolding fields_fit_of
fields_told g h =
    let a = and_parts _ _ h in
    let b = and_parts _ _ a.0 in
    let c = and_parts _ _ b.0 in
    let d = and_parts _ _ c.0 in
    let e = and_parts _ _ d.0 in
    let i = and_parts _ _ e.0 in
    let j = and_parts _ _ i.0 in
    let k = and_parts _ _ j.0 in
    record {
      some = leb-true _ _ k.0;
      most = leb-true _ _ k.1;
      bord_0 = leb-true _ _ j.1;
      bord_1 = leb-true _ _ i.1;
      rel0 = leb-true _ _ e.1;
      rel1 = leb-true _ _ d.1;
      small0 = c.1;
      small1 = b.1;
      pointed = leb-true _ _ a.1;
    }

pub fields_fit : (g : Grid) → Fields g → fields_fit_of g ≡ true
unfolding fields_fit_of
fields_fit g f =
    rw (
      le-leb _ _ f.some,
      le-leb _ _ f.most,
      le-leb _ _ f.bord_0,
      le-leb _ _ f.bord_1,
      le-leb _ _ f.rel0,
      le-leb _ _ f.rel1,
      f.small0,
      f.small1,
      le-leb _ _ f.pointed,
    )

-- a writable record is the view of the record that is handed out for it
pub writable_view : (g : Grid) → writable g ≡ true → view_of (record_of g) ≡ g
writable_view g h = let f = fields_told g (and_parts _ _ h).0 in view_record g f.most f.rel0 f.rel1

-- the tests in the record's own numbers
pub fields_view : (g : SbrGrid) → fields_fit_of (view_of g) ≡ (
    leb 1 g.num_env && leb g.num_env 5 && leb g.var_bord_0 3 && leb g.var_bord_1 3 && leb g.num_rel_0 4
    && leb g.num_rel_1 4 && small (first 0 g.num_rel_0 g.rel_bord_0) && small (first 0 g.num_rel_1 g.rel_bord_1)
    && leb g.pointer g.num_env
    )
unfolding fields_fit_of
fields_view g =
    rw (
      first-length false g.num_env g.freq_res,
      first-length 0 g.num_rel_0 g.rel_bord_0,
      first-length 0 g.num_rel_1 g.rel_bord_1,
    )

-- they are those of its numbers, then those of its lists
pub fields_parts : (g : SbrGrid) → fields_fit_of (view_of g) ≡ (numbers_fit g && lists_fit g)
fields_parts g =
    let a = small (first 0 g.num_rel_0 g.rel_bord_0) in
    let b = small (first 0 g.num_rel_1 g.rel_bord_1) in
    fields_view g
    ∙ rw (and_assoc (numbers_fit g) a b) (and_assoc (numbers_fit g) (a && b) (leb g.pointer g.num_env))

-- what the tests of the record's numbers say
pub record Numbers (g : SbrGrid) : Type 0 where
  pub some : 1 ≤ g.num_env
  pub most : g.num_env ≤ 5
  pub bord_0 : g.var_bord_0 ≤ 3
  pub bord_1 : g.var_bord_1 ≤ 3
  pub rel0 : g.num_rel_0 ≤ 4
  pub rel1 : g.num_rel_1 ≤ 4

-- the same with the lists, from the tests of the view
pub record Told (g : SbrGrid) : Type 0 where
  pub numbers : Numbers g
  pub small0 : small (first 0 g.num_rel_0 g.rel_bord_0) ≡ true
  pub small1 : small (first 0 g.num_rel_1 g.rel_bord_1) ≡ true
  pub pointed : g.pointer ≤ g.num_env

pub told : (g : SbrGrid) → fields_fit_of (view_of g) ≡ true → Told g
told g e =
    let f = fields_told (view_of g) e in
    let l = lengths g in
    record {
      numbers = record {
        some = omega (arith, f.some, l.env);
        most = omega (arith, f.most, l.env);
        bord_0 = f.bord_0;
        bord_1 = f.bord_1;
        rel0 = omega (arith, f.rel0, l.rel0);
        rel1 = omega (arith, f.rel1, l.rel1);
      };
      small0 = f.small0;
      small1 = f.small1;
      pointed = omega (arith, f.pointed, l.env);
    }

-- the counts that each class can send, in the record's own numbers
pub fixfix_view : (g : SbrGrid) → class_fits FixFix (view_of g) ≡ (
    (eqb g.num_env 1 || eqb g.num_env 2 || eqb g.num_env 4)
    && all_are (get_or (first false g.num_env g.freq_res) 0 false) (first false g.num_env g.freq_res)
    )
unfolding class_fits
fixfix_view g = rw (first-length false g.num_env g.freq_res)

pub fix-var_view : (g : SbrGrid) → class_fits FixVar (view_of g) ≡ (eqb (g.num_rel_1 + 1) g.num_env && leb g.num_env 4)
unfolding class_fits
fix-var_view g = rw (first-length false g.num_env g.freq_res, first-length 0 g.num_rel_1 g.rel_bord_1)

pub var-fix_view : (g : SbrGrid) → class_fits VarFix (view_of g) ≡ (eqb (g.num_rel_0 + 1) g.num_env && leb g.num_env 4)
unfolding class_fits
var-fix_view g = rw (first-length false g.num_env g.freq_res, first-length 0 g.num_rel_0 g.rel_bord_0)

pub var-var_view : (g : SbrGrid) → class_fits VarVar (view_of g) ≡ (
    eqb (g.num_rel_0 + g.num_rel_1 + 1) g.num_env && leb g.num_rel_0 3 && leb g.num_rel_1 3
    )
unfolding class_fits
var-var_view g =
    rw (
      first-length false g.num_env g.freq_res,
      first-length 0 g.num_rel_0 g.rel_bord_0,
      first-length 0 g.num_rel_1 g.rel_bord_1,
    )

-- with a count that FixFix sends there is a first flag
pub first_flag : (n : ℕ) (fl : List Bool) → (eqb n 1 || eqb n 2 || eqb n 4) ≡ true → get_or (first false n fl) 0 false ≡ get_or fl 0 false
first_flag zero fl e = let z : ◌≡◌ {A = Bool} false true = e in cc
first_flag (suc n) fl e = first-get_or false (suc n) 0 fl (omega arith)

-- what the tests of the counts say
pub one_told : (k n : ℕ) → (eqb (k + 1) n && leb n 4) ≡ true → (k + 1 ≡ n) × (n ≤ 4)
one_told k n e = let h = and_parts (eqb (k + 1) n) (leb n 4) e in (eqb-true (k + 1) n h.0, leb-true n 4 h.1)

pub two_told : (j k n : ℕ) → (eqb (j + k + 1) n && leb j 3 && leb k 3) ≡ true → (j + k + 1 ≡ n) × (j ≤ 3) × (k ≤ 3)
two_told j k n e =
    let h = and_parts _ (leb k 3) e in
    let i = and_parts (eqb (j + k + 1) n) (leb j 3) h.0 in
    (eqb-true (j + k + 1) n i.0, leb-true j 3 i.1, leb-true k 3 h.1)

-- a record that can be written has at most 26 bits
length_body : (k : FrameClass) (g : Grid) → fields_fit_of g ≡ true → class_fits k g ≡ true → length (body_bits k g) ≤ 24
unfolding body_bits class_fits
length_body FixFix g a b = simp (length-append, length-bits_of) (omega arith)
length_body FixVar g a b =
    let t = one_told (length g.rel_bord_1) (num_env_of g) b in
    simp (length-append, length-bits_of, length-twos, length-reverse) (omega (arith, t.0, t.1, (pointer_width (num_env_of g)).least 3 (omega (arith, t.1))))
length_body VarFix g a b =
    let t = one_told (length g.rel_bord_0) (num_env_of g) b in
    simp (length-append, length-bits_of, length-twos) (omega (arith, t.0, t.1, (pointer_width (num_env_of g)).least 3 (omega (arith, t.1))))
length_body VarVar g a b =
    let t = two_told (length g.rel_bord_0) (length g.rel_bord_1) (num_env_of g) b in
    let m = (fields_told g a).most in
    simp (length-append, length-bits_of, length-twos) (omega (arith, t.0, m, (pointer_width (num_env_of g)).least 3 (omega (arith, m))))

pub length_grid : (g : Grid) → writable g ≡ true → length (grid_bits g) ≤ 26
unfolding grid_bits
length_grid g e =
    let t = and_parts _ _ e in
    simp (length-append, length-bits_of) (omega (arith, length_body g.frame_class g t.0 t.1))
