-- The record of a shape, as the program makes it.
use mathlib.Core.Path.{◌≡◌, refl, sym}
use mathlib.Core.Bool.{Bool, true, false, ◌&&◌}
use mathlib.Core.List.{List}
use Prim.Native.Nat.{ℕ, ◌+◌, ◌-◌, ◌≤◌, ◌<◌}
use native.Mathlib.Omega.{arith}
use lib.Dec.{eqb}
use lib.IntN.{ℤ, pos, negsuc}
use lib.ListN.{length, get_or, get_or-eq_default}
use Rattle.sbr_grid.specs.declared.FrameClass.{FrameClass}
use Rattle.sbr_grid.specs.declared.FrameClass.TheVariants.{FixFix, FixVar, VarFix, VarVar}
use Rattle.sbr_grid.specs.Grid.{by_class, class_of, noise_of, first, view_of, record_of}
use Rattle.sbr_grid.proofs.Laws.{view_record}
use Rattle.sbr_time_grid.specs.TimeGrid.{list_from}
use Rattle.sbr_time_grid.proofs.Laws.{each_class}
use Rattle.sbr_time_grid.proofs.Borders.{length-list_from}
use Rattle.sbr_named.specs.declared.shape.Shape.{Shape}
use Rattle.sbr_named.specs.declared.shape.Side.{Side}
use Rattle.sbr_named.specs.declared.shape.Side.TheVariants.{Leading, Trailing}
use Rattle.sbr_named.specs.Shapes.{stored_length, leading, trailing, shape_at, lead_count, trail_count, pointer_for, candidate}
use Rattle.sbr_named.specs.Code.{side_lengths}
use Rattle.sbr_named.proofs.Shapes.{listed}

-- ---- lists by their places

-- past the end of a list stands 0
pub listed_past : (f : ℕ → ℕ) (k i : ℕ) → k ≤ i → get_or (list_from f 0 k) i 0 ≡ 0
listed_past f k i h = get_or-eq_default (list_from f 0 k) 0 {n = i} (omega (arith, length-list_from f 0 k))

-- a place of the lengths of a side is the length of that envelope
pub lead_place : (bs : List ℕ) (l k i : ℕ) → i < k → stored_length (get_or bs i 0) (get_or bs (i + 1) 0) ≡ get_or (side_lengths Leading bs l k) i 0
unfolding leading
lead_place bs l k i h = sym (listed _ k i h)

pub trail_place : (bs : List ℕ) (l k i : ℕ) → i < k → stored_length (get_or bs (l - (i + 1)) 0) (get_or bs (l - i) 0) ≡ get_or (side_lengths Trailing bs l k) i 0
unfolding trailing
trail_place bs l k i h = sym (listed _ k i h)

-- and 0 behind them
pub side_past : (s : Side) (bs : List ℕ) (l k i : ℕ) → k ≤ i → 0 ≡ get_or (side_lengths s bs l k) i 0
unfolding leading trailing
side_past Leading bs l k i h = sym (listed_past _ k i h)
side_past Trailing bs l k i h = sym (listed_past _ k i h)

-- there are as many leading lengths as are asked for
length-leading : (t : List ℕ) (j : ℕ) → length (leading t j) ≡ j
unfolding leading
length-leading t j = length-list_from _ 0 j

-- and as many trailing ones
length-trailing : (t : List ℕ) (le j : ℕ) → length (trailing t le j) ≡ j
unfolding trailing
length-trailing t le j = length-list_from _ 0 j

-- ---- counts

-- a record has at most four leading lengths
pub lead_few : (c : FrameClass) (le k : ℕ) → le ≤ 5 → k < 7 → by_class c 0 0 (le - 1) (k - 3) ≤ 4
lead_few c le k a b = each_class (λ x. x ≤ 4) c 0 0 (le - 1) (k - 3) (omega arith) (omega arith) (omega arith) (omega arith)

-- and fewer trailing lengths than envelopes
pub trail_few : (c : FrameClass) (le j : ℕ) → 0 < le → by_class c 0 (le - 1) 0 (le - 1 - j) < le
trail_few c le j a = each_class (λ x. x < le) c 0 (le - 1) 0 (le - 1 - j) (omega arith) (omega arith) (omega arith) (omega arith)

-- FIXFIX sends no pointer, and the one for its mark is 0
sends : (c : FrameClass) (l : ℕ) (z : ℤ) → let p = pointer_for c l z in by_class c 0 p p p ≡ p
unfolding pointer_for
sends FixFix l (pos m) = refl
sends FixFix l (negsuc m) = refl
sends FixVar l z = refl
sends VarFix l z = refl
sends VarVar l z = refl

-- ---- the record

-- the record of a candidate, made of its parts
pub candidate-record : (n : ℕ) (bs : List ℕ) (res : List Bool) (mark : ℤ) (s : Shape) (a b : ℕ) → let c = s.class in let l = length res in
    a ≡ lead_count l s → b ≡ trail_count l s →
    record {
      frame_class = c;
      num_env = l;
      num_noise = noise_of l;
      freq_res = first false 5 res;
      var_bord_0 = by_class c 0 0 (get_or bs 0 0) (get_or bs 0 0);
      var_bord_1 = by_class c 0 (get_or bs l 0 - n) 0 (get_or bs l 0 - n);
      rel_bord_0 = first 0 4 (leading bs a);
      num_rel_0 = a;
      rel_bord_1 = first 0 4 (trailing bs l b);
      num_rel_1 = b;
      pointer = pointer_for c l mark;
      amp_res_override = by_class c true false false false && eqb l 1;
    } ≡ record_of (candidate n bs res mark s)
candidate-record n bs res mark s a b e d =
    rw (← e, ← d, length-leading bs a, length-trailing bs (length res) b, sends s.class (length res) mark)

-- its view is the candidate
pub candidate-view : (n : ℕ) (bs : List ℕ) (res : List Bool) (mark : ℤ) (k : ℕ) → k < 7 → 0 < length res → length res ≤ 5
    → view_of (record_of (candidate n bs res mark (shape_at k))) ≡ candidate n bs res mark (shape_at k)
candidate-view n bs res mark k h some few =
    let l = length res in
    let fewer = trail_few (class_of k) l (k - 3) some in
    view_record (candidate n bs res mark (shape_at k)) few
    (rw (length-leading bs (lead_count l (shape_at k))) (lead_few (class_of k) l k few h))
    (rw (length-trailing bs l (trail_count l (shape_at k))) (omega arith))
