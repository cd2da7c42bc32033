-- The flag of a frame, and what depends on the flag that is handed in.
use Rattle.std.specs.Prelude.{Ok, Err}
use Rattle.std.proofs.lemmas.Bool.{and_parts}
use mathlib.Core.Path.{◌≡◌, refl, sym, ap, ◌∙◌}
use mathlib.Core.Bool.{Bool, true, false}
use mathlib.Core.List.{List}
use Prim.Native.Nat.{ℕ, zero, suc, ◌+◌, ◌-◌, ◌≤◌}
use native.Mathlib.Omega.{arith}
use borrow.Author.Tests.{ne_eqb, eq-eqb, le-ltb}
use lib.Dec.{eqb}
use lib.IntN.{ℤ, pos, negsuc, ◌-ℤ◌}
use lib.ListN.{length, get_or}
use Rattle.bits.specs.Room.{bits_from}
use Rattle.sbr_grid.specs.declared.FrameClass.{FrameClass}
use Rattle.sbr_grid.specs.declared.FrameClass.TheVariants.{FixFix, FixVar, VarFix, VarVar}
use Rattle.sbr_grid.specs.declared.Refusal.TheVariants.{SlotCount, Chain}
use Rattle.sbr_grid.specs.Refusals.{Outcome, unless}
use Rattle.sbr_grid.specs.Grid.{Grid, num_env_of}
use Rattle.sbr_grid.specs.Times.{Times, is_number, is_slot_count}
use Rattle.sbr_grid.proofs.Number.{number_so, number_is}
use Rattle.sbr_time_grid.specs.TimeGrid.{by_pointer, l_a_of, time_grid}
use Rattle.sbr_time_grid.proofs.Ends.{time_passes}
use Rattle.sbr_writer.proofs.Writable.{fields_told}
use Rattle.sbr_parse.specs.Syntax.{sbr_grid}
use Rattle.sbr_reader.specs.declared.Carried.{Carried}
use Rattle.sbr_reader.specs.Read.{Accepted, meets, timed, parsed, read_grid, starting}
use Rattle.sbr_reader.specs.Flag.{points_at_end, begun, FlagExactly, FlagOnlyTold}
use Rattle.sbr_reader.proofs.Frames.{frame_writes}
use Rattle.sbr_reader.proofs.ReadLaws.{frame_of}
use Rattle.sbr_reader.proofs.Told.{told_frame}

-- ---- marks by the pointer

-- counted from the end
from_end : (p l : ℕ) → p ≤ l → is_number (by_pointer p (negsuc 0) (pos (l + 1) -ℤ pos p) (pos (l + 1) -ℤ pos p)) l ≡ eqb p 1
from_end zero l h = refl
from_end (suc zero) l h = rw (le-ltb (l + 1) 1 (omega arith)) (eq-eqb (l + 1 - 1) l (omega arith))
from_end (suc (suc p)) l h =
    rw (le-ltb (l + 1) (suc (suc p)) (omega arith), ne_eqb (suc (suc p)) 1 (λ e. omega arith)) (ne_eqb (l + 1 - suc (suc p)) l (λ e. omega arith))

-- counted from the start
from_start : (p l : ℕ) → p ≤ l → is_number (by_pointer p (negsuc 0) (negsuc 0) (pos (p - 1))) l ≡ false
from_start zero l h = refl
from_start (suc zero) l h = refl
from_start (suc (suc p)) l h = ne_eqb (suc (suc p) - 1) l (λ e. omega arith)

by_class_lem : (k : FrameClass) (g : Grid) → g.frame_class ≡ k → g.pointer ≤ num_env_of g → is_number (l_a_of g) (num_env_of g) ≡ points_at_end k g.pointer
unfolding l_a_of
by_class_lem FixFix g e h = rw e
by_class_lem FixVar g e h = rw e (from_end g.pointer (num_env_of g) h)
by_class_lem VarFix g e h = rw e (from_start g.pointer (num_env_of g) h)
by_class_lem VarVar g e h = rw e (from_end g.pointer (num_env_of g) h)

pub flag_exactly : FlagExactly
flag_exactly l p n c f h =
    let t = told_frame l p n c f h in
    let m = ap (λ (x : Times). x.l_a) (time_passes n f.grid f.time t.derived).value in
    let w = fields_told f.grid (and_parts _ _ (frame_writes l p n c f h).written.fits).0 in
    let points : f.ends_on_attack ≡ points_at_end f.grid.frame_class f.grid.pointer = t.ends ∙ rw m (by_class_lem f.grid.frame_class f.grid refl w.pointed) in
    let set : f.time.l_a ≡ pos (num_env_of f.grid) → f.ends_on_attack ≡ true = λ e. t.ends ∙ number_so f.time.l_a (num_env_of f.grid) e in
    record {
      set = set;
      only = λ e. number_is f.time.l_a (num_env_of f.grid) (sym t.ends ∙ e);
      pointer = points;
      varfix = λ k e.
          let no : points_at_end f.grid.frame_class f.grid.pointer ≡ false = rw k in
          let z : ◌≡◌ {A = Bool} true false = sym (set e) ∙ points ∙ no in
          let y : ◌≡◌ {A = ℕ} 0 1 = cc in omega arith;
    }

-- ---- what depends on the flag that is handed in

module _ (n : ℕ) (b : ℤ) (a : Bool) where
  -- what is carried, with that flag
  abbrev given : Carried
  given = record { border = b; attack = a }

  met-told : (g : Grid) (q : ℕ) (t : Times) (m : Bool) → unless m Chain (Ok (frame_of a g q t)) ≡ begun a (unless m Chain (Ok (frame_of false g q t)))
  met-told g q t true = refl
  met-told g q t false = refl

  timed-told : (g : Grid) (q : ℕ) (o : Outcome Times) → timed n given g q o ≡ begun a (timed n (starting b) g q o)
  unfolding meets
  timed-told g q (Ok t) = met-told g q t (is_number b (get_or t.t_e 0 0 + n))
  timed-told g q (Err e) = refl

  parsed-told : (p len : ℕ) (o : Outcome (Grid × List Bool)) → parsed n given p len o ≡ begun a (parsed n (starting b) p len o)
  parsed-told p len (Ok r) = timed-told r.0 (p + (len - length r.1)) (time_grid n r.0)
  parsed-told p len (Err e) = refl

  slots-told : (s : Bool) (o o' : Outcome Accepted) → o ≡ begun a o' → unless s SlotCount o ≡ begun a (unless s SlotCount o')
  slots-told true o o' e = e
  slots-told false o o' e = refl

pub flag_only_told : FlagOnlyTold
unfolding read_grid
flag_only_told l p n b a =
    slots-told n b a (is_slot_count n) _ _ (parsed-told n b a p (length (bits_from l p)) (sbr_grid (bits_from l p)))
