-- Every frame that reading accepts can be written again.
use Rattle.std.specs.Prelude.{Ok}
use Rattle.std.proofs.lemmas.Bool.{and_parts}
use mathlib.Core.Path.{◌≡◌, refl, ap}
use mathlib.Core.Bool.{Bool, ◌&&◌}
use mathlib.Core.List.{List}
use Prim.Native.Nat.{ℕ, zero, suc, ◌+◌, ◌-◌, ◌^◌, ◌≤◌, ◌<◌}
use native.Mathlib.Omega.{arith}
use native.Mathlib.Decide.{dec_le}
use borrow.Author.Tests.{le-leb, lt-leb, leb-true, ltb-true}
use lib.Dec.{leb, ltb, eqb}
use lib.ListN.{length, length-append}
use Rattle.bits.specs.Room.{bits_from}
use Rattle.sbr_grid.specs.declared.FrameClass.{FrameClass}
use Rattle.sbr_grid.specs.declared.FrameClass.TheVariants.{FixFix, FixVar, VarFix, VarVar}
use Rattle.sbr_grid.specs.Grid.{width_from, ptr_bits, Grid, num_env_of}
use Rattle.sbr_grid.specs.Times.{Times, is_slot_count}
use Rattle.sbr_grid.proofs.Outcomes.{unless_answered}
use Rattle.sbr_time_grid.specs.TimeGrid.{by_pointer, t_e_of, rises, middle_border, counts_fit, borders_fit, noise_fits, accepts, time_grid}
use Rattle.sbr_writer.specs.Syntax.{grid_bits}
use Rattle.sbr_reader.specs.Inverse.{FrameWrites}
use Rattle.sbr_writer.proofs.Writable.{writable_view}
use Rattle.sbr_parse.proofs.Inverse.{Sent, sent, writes_back}
use Rattle.sbr_reader.proofs.Told.{told_frame}

-- a middle border inside the frame is that of a pointer of at most the envelope count
pointer_from : (p l : ℕ) → 1 < l → 1 ≤ by_pointer p (l - 1) (l - 1) (l + 1 - p) → p ≤ l
pointer_from zero l h k = omega arith
pointer_from (suc zero) l h k = omega arith
pointer_from (suc (suc p)) l h k = omega arith

pointer_to : (p l : ℕ) → 1 < l → by_pointer p 1 (l - 1) (p - 1) < l → p ≤ l
pointer_to zero l h k = omega arith
pointer_to (suc zero) l h k = omega arith
pointer_to (suc (suc p)) l h k = omega arith

inside : (c : FrameClass) (g : Grid) → g.frame_class ≡ c → (c ≡ FixFix → ⊥) → 1 < num_env_of g
    → 1 ≤ middle_border g → middle_border g < num_env_of g → g.pointer ≤ num_env_of g
unfolding middle_border
inside FixFix g e f l a b = absurd (f refl)
inside FixVar g e f l a b = pointer_from g.pointer (num_env_of g) l (rw e at a)
inside VarFix g e f l a b = pointer_to g.pointer (num_env_of g) l (rw e at b)
inside VarVar g e f l a b = pointer_from g.pointer (num_env_of g) l (rw e at a)

-- a frame of two or more envelopes that has a time grid has a pointer of at most its envelope count
pub time_pointer : (n : ℕ) (g : Grid) (t : Times) → time_grid n g ≡ Ok t → 1 < num_env_of g → (g.frame_class ≡ FixFix → ⊥)
    → g.pointer ≤ num_env_of g
unfolding time_grid noise_fits
time_pointer n g t h l f =
    let a = unless_answered (accepts n g) _ _ (unless_answered (is_slot_count n) _ _ h).1 in
    let b = and_parts (counts_fit g && borders_fit g && rises (t_e_of n g) (num_env_of g)) (noise_fits g) a.0 in
    let m = middle_border g in
    let c = and_parts (eqb g.num_noise 2 && leb 1 m) (ltb m (num_env_of g)) (rw (lt-leb (num_env_of g) 1 l) at b.1) in
    let d = and_parts (eqb g.num_noise 2) (leb 1 m) c.0 in
    inside g.frame_class g refl f l (leb-true _ _ d.1) (ltb-true _ _ c.1)

-- whether a class is FixFix
fixed : (c : FrameClass) → Dec (c ≡ FixFix)
fixed FixFix = yes refl
fixed FixVar = no (λ e. let z : ◌≡◌ {A = ℕ} 0 1 = cc in omega arith)
fixed VarFix = no (λ e. let z : ◌≡◌ {A = ℕ} 0 1 = cc in omega arith)
fixed VarVar = no (λ e. let z : ◌≡◌ {A = ℕ} 0 1 = cc in omega arith)

-- one envelope has a pointer of one bit
narrow_one : (p k : ℕ) → k ≤ 1 → p < 2 ^ ptr_bits k → p ≤ k
unfolding width_from
narrow_one p zero l h = omega arith
narrow_one p (suc zero) l h = omega arith
narrow_one p (suc (suc k)) l h = absurd (omega arith)

-- a record that was read and has a time grid has a pointer of at most its envelope count
pointed : (n : ℕ) (g : Grid) (t : Times) (u : List Bool) → Sent g u → time_grid n g ≡ Ok t
    → Dec (num_env_of g ≤ 1) → Dec (g.frame_class ≡ FixFix) → g.pointer ≤ num_env_of g
pointed n g t u s h (yes l) d = narrow_one g.pointer (num_env_of g) l s.narrow
pointed n g t u s h (no l) (yes e) = omega (arith, rw e at (ap (λ x. x.pointer) s.clear))
pointed n g t u s h (no l) (no f) = time_pointer n g t h (omega arith) f

-- the record of every accepted frame is writable and writes the bits that it was read from, up to the frame's position
pub frame_writes : FrameWrites
frame_writes l p n c f h =
    let g = f.grid in
    let t = told_frame l p n c f h in
    let s = sent (bits_from l p) g t.rest t.syntax in
    let w = writes_back (bits_from l p) g t.rest t.syntax (le-leb _ _ (pointed n g f.time s.0 s.2 t.derived (dec_le (num_env_of g) 1) (fixed g.frame_class))) in
    record {
      rest = t.rest;
      written = w;
      position = omega (arith, t.position, ap length w.bits, length-append (grid_bits g) t.rest);
      kept = writable_view g w.fits;
    }
