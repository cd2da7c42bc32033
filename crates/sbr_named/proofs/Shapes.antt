-- A record is, but for its pointer and what its class does not send, the record of its shape at its own borders.
use Rattle.std.specs.Prelude.{Ok}
use mathlib.Core.Path.{◌≡◌, refl, sym, ap, ◌∙◌}
use mathlib.Core.Bool.{Bool, true}
use mathlib.Core.List.{List}
use Prim.Native.Nat.{ℕ, zero, suc, ◌+◌, ◌-◌, ◌≤◌, ◌<◌}
use native.Mathlib.Nat.{zero-add}
use native.Mathlib.Omega.{arith}
use lib.ListN.{length, get_or}
use lib.Seq.{ext_get_or}
use Rattle.sbr_grid.specs.declared.FrameClass.{FrameClass}
use Rattle.sbr_grid.specs.declared.FrameClass.TheVariants.{FixFix, FixVar, VarFix, VarVar}
use Rattle.sbr_grid.specs.Grid.{by_class, class_of, Grid, num_env_of}
use Rattle.sbr_grid.specs.Times.{Times}
use Rattle.sbr_time_grid.specs.TimeGrid.{slots, abs_bord_lead, abs_bord_trail, n_rel_lead, n_rel_trail, rel_bord_lead, rel_bord_trail, slot_sum, list_from, t_e_of, rises, time_grid}
use Rattle.sbr_time_grid.proofs.Laws.{Counts}
use Rattle.sbr_time_grid.proofs.Rises.{rises_gap}
use Rattle.sbr_time_grid.proofs.Borders.{sum_none, sum_more, border_lead, border_trail, length-list_from, get_or-list_from}
use Rattle.sbr_writer.specs.Write.{class_fits, writable}
use Rattle.sbr_writer.proofs.Writable.{one_told, two_told}
use Rattle.sbr_parse.specs.Syntax.{received}
use Rattle.sbr_parse.specs.Inverse.{cleared}
use Rattle.sbr_named.specs.Shapes.{leading, trailing, shape_at, shaped}
use Rattle.sbr_named.proofs.Passed.{fit_class, timed}
use Rattle.sbr_named.proofs.Alike.{repointed, in_class}

-- ---- the shape of a record

-- its class, and in VARVAR its leading lengths
abbrev pub shape_of : Grid → ℕ
shape_of g = by_class g.frame_class 0 1 2 (suc (suc (suc (length g.rel_bord_0))))

-- the next law, by the class
class_by : (c : FrameClass) (j : ℕ) → class_of (by_class c 0 1 2 (suc (suc (suc j)))) ≡ c
class_by FixFix j = refl
class_by FixVar j = refl
class_by VarFix j = refl
class_by VarVar j = refl

-- the class of a record's shape is the record's
pub shape_class : (g : Grid) → class_of (shape_of g) ≡ g.frame_class
shape_class g = class_by g.frame_class (length g.rel_bord_0)

-- the next law, by the class
few_by : (c : FrameClass) (g : Grid) → class_fits c g ≡ true → by_class c 0 1 2 (suc (suc (suc (length g.rel_bord_0)))) < 7
unfolding class_fits
few_by FixFix g e = omega arith
few_by FixVar g e = omega arith
few_by VarFix g e = omega arith
few_by VarVar g e = omega (arith, two_told (length g.rel_bord_0) (length g.rel_bord_1) (num_env_of g) e)

-- a writable record has one of seven shapes
pub shape_few : (g : Grid) → writable g ≡ true → shape_of g < 7
shape_few g w = few_by g.frame_class g (fit_class g w)

-- a record with another pointer, and with what its class does not send cleared, has the record's shape
pub repointed_shape : (q : ℕ) (g : Grid) (c : FrameClass) → shape_of (repointed q (in_class c g)) ≡ shape_of (in_class c g)
repointed_shape q g FixFix = refl
repointed_shape q g FixVar = refl
repointed_shape q g VarFix = refl
repointed_shape q g VarVar = refl

-- ---- the borders of a record, read back

-- the number at a place of a list
pub listed : (f : ℕ → ℕ) (k i : ℕ) → i < k → get_or (list_from f 0 k) i 0 ≡ f i
listed f k i h = get_or-list_from f 0 k i h ∙ rw zero-add

-- the borders of a record
abbrev borders_of : ℕ → Grid → List ℕ
borders_of n g = list_from (t_e_of n g) 0 (num_env_of g + 1)

module _ (n : ℕ) (g : Grid) (c : Counts g) where
  -- each of them
  at : (i : ℕ) → i ≤ num_env_of g → get_or (borders_of n g) i 0 ≡ t_e_of n g i
  at i h = listed (t_e_of n g) (num_env_of g + 1) i (omega arith)

  -- the first
  first-is : get_or (borders_of n g) 0 0 ≡ abs_bord_lead g
  first-is = at 0 (omega arith) ∙ border_lead n g 0 (omega arith) (omega arith) ∙ omega (arith, sum_none (rel_bord_lead n g))

  -- one of the trailing side, i from the last
  back_is : (i : ℕ) → n_rel_lead g < num_env_of g - i → get_or (borders_of n g) (num_env_of g - i) 0 ≡ abs_bord_trail n g - slot_sum (rel_bord_trail g) i
  back_is i h =
      let z : num_env_of g - (num_env_of g - i) ≡ i = omega arith in
      at (num_env_of g - i) (omega arith) ∙ border_trail n g (num_env_of g - i) h (omega arith) ∙ rw z

  -- the last
  last-is : get_or (borders_of n g) (num_env_of g) 0 ≡ abs_bord_trail n g
  last-is =
      let z : num_env_of g - 0 ≡ num_env_of g = omega arith in
      rw z at (back_is 0 (omega arith)) ∙ omega (arith, sum_none (rel_bord_trail g))

  -- the leading lengths, where they are stored
  leading-is : (rel : List ℕ) → length rel ≡ n_rel_lead g → ((i : ℕ) → rel_bord_lead n g i ≡ slots (get_or rel i 0)) → leading (borders_of n g) (n_rel_lead g) ≡ rel
  unfolding leading
  leading-is rel l h =
      ext_get_or 0 _ rel (length-list_from _ 0 (n_rel_lead g) ∙ sym l)
      (λ i a.
      let b : i < n_rel_lead g = rw length-list_from at a in
      listed _ (n_rel_lead g) i b ∙ rw (
        at i (omega arith),
        at (i + 1) (omega arith),
        border_lead n g i (omega arith) (omega arith),
        border_lead n g (i + 1) (omega arith) (omega arith),
        sum_more (rel_bord_lead n g) i,
        h i,
      )
      (omega arith))

  -- the trailing lengths; no border but the first is 0, so no difference is cut off
  trailing-is : rises (t_e_of n g) (num_env_of g) ≡ true → length g.rel_bord_1 ≡ n_rel_trail g → trailing (borders_of n g) (num_env_of g) (n_rel_trail g) ≡ g.rel_bord_1
  unfolding trailing
  trailing-is up l =
      ext_get_or 0 _ g.rel_bord_1 (length-list_from _ 0 (n_rel_trail g) ∙ sym l)
      (λ i a.
      let b : i < n_rel_trail g = rw length-list_from at a in
      let m = num_env_of g - (i + 1) in
      let r : 0 < t_e_of n g m = omega (arith, rises_gap (t_e_of n g) (num_env_of g) 0 m up (omega arith) (omega arith)) in
      listed _ (n_rel_trail g) i b
      ∙ omega (arith, at m (omega arith), back_is (i + 1) (omega arith), back_is i (omega arith), sum_more (rel_bord_trail g) i))

-- ---- the record of a shape

-- records of the same fields
same_fields : (c : FrameClass) (res : List Bool) {b0 b1 d0 d1 : ℕ} {rel0 rel1 sel0 sel1 : List ℕ} (p : ℕ) → b0 ≡ d0 → b1 ≡ d1 → rel0 ≡ sel0 → rel1 ≡ sel1
    → received c res b0 b1 rel0 rel1 p ≡ received c res d0 d1 sel0 sel1 p
same_fields c res p e f x y = rw (e, f, x, y)

-- the next law, by the class
shaped_by : (n q : ℕ) (r : Grid) (c : FrameClass) → let g = in_class c r in
    Counts g → rises (t_e_of n g) (num_env_of g) ≡ true → class_fits c g ≡ true → shaped n (borders_of n g) g.freq_res (shape_at (shape_of g)) q ≡ repointed q g
unfolding leading trailing list_from abs_bord_lead abs_bord_trail n_rel_lead n_rel_trail rel_bord_lead class_fits
shaped_by n q r FixFix k up f = refl
shaped_by n q r FixVar k up f =
    let g = in_class FixVar r in
    let t = one_told (length r.rel_bord_1) (num_env_of r) f in
    let e : num_env_of r - 1 ≡ length r.rel_bord_1 = omega arith in
    same_fields FixVar r.freq_res q refl (omega (arith, last-is n g k)) refl
    (ap (trailing (borders_of n g) (num_env_of r)) e ∙ trailing-is n g k up refl)
shaped_by n q r VarFix k up f =
    let g = in_class VarFix r in
    let t = one_told (length r.rel_bord_0) (num_env_of r) f in
    let e : num_env_of r - 1 ≡ length r.rel_bord_0 = omega arith in
    same_fields VarFix r.freq_res q (first-is n g k) refl
    (ap (leading (borders_of n g)) e ∙ leading-is n g k r.rel_bord_0 refl (λ i. refl)) refl
shaped_by n q r VarVar k up f =
    let g = in_class VarVar r in
    let j = length r.rel_bord_0 in
    let t = two_told j (length r.rel_bord_1) (num_env_of r) f in
    let e : suc (suc (suc j)) - 3 ≡ j = omega arith in
    let d : num_env_of r - 1 - (suc (suc (suc j)) - 3) ≡ length r.rel_bord_1 = omega arith in
    same_fields VarVar r.freq_res q (first-is n g k) (omega (arith, last-is n g k))
    (ap (leading (borders_of n g)) e ∙ leading-is n g k r.rel_bord_0 refl (λ i. refl))
    (ap (trailing (borders_of n g) (num_env_of r)) d ∙ trailing-is n g k up refl)

-- the record of a writable record's shape, at the borders of its time grid, is that record but for the pointer and what is not sent
pub shaped_is : (n q : ℕ) (g : Grid) (t : Times) → writable g ≡ true → time_grid n g ≡ Ok t
    → shaped n t.t_e g.freq_res (shape_at (shape_of g)) q ≡ repointed q g
shaped_is n q g t w e =
    let p = timed n g t e in
    rw p.value
    (shaped_by n q g g.frame_class p.counted p.up (fit_class g w))

-- the record of shape k has that shape
pub shaped_shape : (n : ℕ) (bs : List ℕ) (res : List Bool) (p k : ℕ) → shape_of (shaped n bs res (shape_at k) p) ≡ k
unfolding leading
shaped_shape n bs res p zero = refl
shaped_shape n bs res p (suc zero) = refl
shaped_shape n bs res p (suc (suc zero)) = refl
shaped_shape n bs res p (suc (suc (suc k))) = rw length-list_from (omega arith)

-- and is cleared
pub shaped_clear : (n : ℕ) (bs : List ℕ) (res : List Bool) (p k : ℕ) → cleared (shaped n bs res (shape_at k) p) ≡ shaped n bs res (shape_at k) p
unfolding leading trailing list_from
shaped_clear n bs res p zero = refl
shaped_clear n bs res p (suc zero) = refl
shaped_clear n bs res p (suc (suc zero)) = refl
shaped_clear n bs res p (suc (suc (suc k))) = refl
