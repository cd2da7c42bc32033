-- Every chosen grid is written, and read back as it is: one computed test.
use mathlib.Core.Path.{◌≡◌, refl, ap, sym, ◌∙◌}
use mathlib.Core.Bool.{Bool, true, false, cond, not, ◌&&◌}
use mathlib.Core.List.{List, [], ◌∷◌}
use Prim.Native.Nat.{ℕ}
use lib.Dec.{T, eqb, eqb→eq}
use lib.Ieee.Fits.{and_l, and_r}
use Rattle.sbr_grid.specs.declared.FrameClass.{FrameClass}
use Rattle.sbr_grid.specs.Grid.{class_code, class_of, Grid}
use Rattle.sbr_grid.proofs.Laws.{class_of_code}
use Rattle.sbr_writer.specs.Write.{every, writable, fields_fit_of, class_fits}
use Rattle.sbr_parse.specs.Inverse.{cleared}
use Rattle.sbr_build.specs.Cases.{Case}
use Rattle.sbr_choice.specs.Choice.{chosen_grid}
use Rattle.sbr_choice.proofs.Computed.{chosen_of}
use Rattle.sbr_choice.proofs.Every.{is_true, all_cases, at_case}
use Rattle.sbr_encoder.proofs.Resolution.{Kept}

-- ---- equality of grids as a test

alike : Bool → Bool → Bool
alike a b = cond a b (not b)

same_flags : List Bool → List Bool → Bool
unfolding alike
same_flags [] [] = true
same_flags [] (b ∷ bs) = false
same_flags (a ∷ as') [] = false
same_flags (a ∷ as') (b ∷ bs) = alike a b && same_flags as' bs

same_list_lem : List ℕ → List ℕ → Bool
same_list_lem [] [] = true
same_list_lem [] (b ∷ bs) = false
same_list_lem (a ∷ as') [] = false
same_list_lem (a ∷ as') (b ∷ bs) = eqb a b && same_list_lem as' bs

-- the grid a with each field of b beside it
same : Grid → Grid → Bool
unfolding alike same_flags same_list_lem
same a b =
    eqb (class_code a.frame_class) (class_code b.frame_class) && (eqb a.num_noise b.num_noise && (same_flags a.freq_res b.freq_res
    && (eqb a.var_bord_0 b.var_bord_0 && (eqb a.var_bord_1 b.var_bord_1 && (same_list_lem a.rel_bord_0 b.rel_bord_0
    && (same_list_lem a.rel_bord_1 b.rel_bord_1 && (eqb a.pointer b.pointer && alike a.amp_override b.amp_override)))))))

alike_eq : (a b : Bool) → T (alike a b) → a ≡ b
unfolding alike
alike_eq true true t = refl
alike_eq true false t = absurd t
alike_eq false true t = absurd t
alike_eq false false t = refl

flags_eq : (xs ys : List Bool) → T (same_flags xs ys) → xs ≡ ys
unfolding same_flags
flags_eq [] [] t = refl
flags_eq [] (y ∷ ys) t = absurd t
flags_eq (x ∷ xs) [] t = absurd t
flags_eq (x ∷ xs) (y ∷ ys) t = rw (alike_eq x y (and_l (alike x y) (same_flags xs ys) t), flags_eq xs ys (and_r (alike x y) (same_flags xs ys) t)) refl

list_eq : (xs ys : List ℕ) → T (same_list_lem xs ys) → xs ≡ ys
unfolding same_list_lem
list_eq [] [] t = refl
list_eq [] (y ∷ ys) t = absurd t
list_eq (x ∷ xs) [] t = absurd t
list_eq (x ∷ xs) (y ∷ ys) t = rw (eqb→eq x y (and_l (eqb x y) (same_list_lem xs ys) t), list_eq xs ys (and_r (eqb x y) (same_list_lem xs ys) t)) refl

class_eq : (a b : FrameClass) → T (eqb (class_code a) (class_code b)) → a ≡ b
class_eq a b t = sym (class_of_code a) ∙ ap class_of (eqb→eq (class_code a) (class_code b) t) ∙ class_of_code b

same_eq : (a b : Grid) → T (same a b) → a ≡ b
unfolding same
same_eq a b t =
    let b8 = alike a.amp_override b.amp_override in
    let b7 = eqb a.pointer b.pointer in
    let b6 = same_list_lem a.rel_bord_1 b.rel_bord_1 in
    let b5 = same_list_lem a.rel_bord_0 b.rel_bord_0 in
    let b4 = eqb a.var_bord_1 b.var_bord_1 in
    let b3 = eqb a.var_bord_0 b.var_bord_0 in
    let b2 = same_flags a.freq_res b.freq_res in
    let b1 = eqb a.num_noise b.num_noise in
    let b0 = eqb (class_code a.frame_class) (class_code b.frame_class) in
    let t1 = and_r b0 (b1 && (b2 && (b3 && (b4 && (b5 && (b6 && (b7 && b8))))))) t in
    let t2 = and_r b1 (b2 && (b3 && (b4 && (b5 && (b6 && (b7 && b8)))))) t1 in
    let t3 = and_r b2 (b3 && (b4 && (b5 && (b6 && (b7 && b8))))) t2 in
    let t4 = and_r b3 (b4 && (b5 && (b6 && (b7 && b8)))) t3 in
    let t5 = and_r b4 (b5 && (b6 && (b7 && b8))) t4 in
    let t6 = and_r b5 (b6 && (b7 && b8)) t5 in
    let t7 = and_r b6 (b7 && b8) t6 in
    let c = class_eq a.frame_class b.frame_class (and_l b0 (b1 && (b2 && (b3 && (b4 && (b5 && (b6 && (b7 && b8))))))) t) in
    let n = eqb→eq a.num_noise b.num_noise (and_l b1 (b2 && (b3 && (b4 && (b5 && (b6 && (b7 && b8)))))) t1) in
    let f = flags_eq a.freq_res b.freq_res (and_l b2 (b3 && (b4 && (b5 && (b6 && (b7 && b8))))) t2) in
    let v = eqb→eq a.var_bord_0 b.var_bord_0 (and_l b3 (b4 && (b5 && (b6 && (b7 && b8)))) t3) in
    let w = eqb→eq a.var_bord_1 b.var_bord_1 (and_l b4 (b5 && (b6 && (b7 && b8))) t4) in
    let r = list_eq a.rel_bord_0 b.rel_bord_0 (and_l b5 (b6 && (b7 && b8)) t5) in
    let s = list_eq a.rel_bord_1 b.rel_bord_1 (and_l b6 (b7 && b8) t6) in
    let p = eqb→eq a.pointer b.pointer (and_l b7 b8 t7) in
    let o = alike_eq a.amp_override b.amp_override (and_r b7 b8 t7) in
    λ i. record {
      frame_class = c i;
      num_noise = n i;
      freq_res = f i;
      var_bord_0 = v i;
      var_bord_1 = w i;
      rel_bord_0 = r i;
      rel_bord_1 = s i;
      pointer = p i;
      amp_override = o i;
    }

-- ---- the test

good : Bool → Bool → ℕ → ℕ → List ℕ → Bool
unfolding chosen_of same every fields_fit_of class_fits
good variable even n lead os = let g = chosen_of variable even os lead n in writable g && same (cleared g) g

all_good : T (all_cases good)
unfolding good
all_good = tt

pub chosen_kept : (variable even : Bool) (n lead : ℕ) (os : List ℕ) → Case n lead os → Kept (chosen_grid variable even os lead n)
unfolding good
chosen_kept variable even n lead os c =
    let g = chosen_grid variable even os lead n in
    let t = at_case good all_good variable even n lead os c in
    record { fits = is_true (writable g) (and_l (writable g) (same (cleared g) g) t); clear = same_eq (cleared g) g (and_r (writable g) (same (cleared g) g) t) }
