-- What `write_grid` answers.
use Rattle.std.specs.Prelude.{Ok, Err, Option, Some, None}
use Rattle.std.specs.Option.{ok_or}
use mathlib.Core.Path.{◌≡◌, refl}
use mathlib.Core.Bool.{Bool, true, false, cond}
use mathlib.Core.List.{List}
use Prim.Native.Nat.{ℕ, ◌+◌}
use native.Mathlib.Omega.{arith}
use native.Mathlib.Nat.{zero-add}
use borrow.Author.Tests.{le-leb}
use lib.ListN.{length}
use Rattle.bits.specs.Bits.{put_bits}
use Rattle.bits.specs.Room.{room_for, placed, after_field}
use Rattle.bits.specs.declared.Window.{Window}
use Rattle.bits.proofs.Numbers.{bits_num}
use Rattle.sbr_grid.specs.declared.Refusal.TheVariants.{Room, Record}
use Rattle.sbr_grid.specs.Refusals.{Outcome, result_map}
use Rattle.sbr_grid.specs.Grid.{Grid}
use Rattle.sbr_writer.specs.Syntax.{grid_bits}
use Rattle.sbr_writer.specs.Write.{Wrote, writable, write_grid, bytes_after}
use Rattle.sbr_writer.specs.Code.{window_for}
use Rattle.sbr_writer.proofs.Writable.{length_grid}

-- what the call has to show of its answer r and of the bytes m that it leaves
abbrev pub Writes : List ℕ → ℕ → Grid → Outcome ℕ → List ℕ → Type 0
Writes l p g r m = (r ≡ result_map (λ w. w.position) (write_grid l p g)) × (m ≡ bytes_after l (write_grid l p g))

pub unwritable : (l : List ℕ) (p : ℕ) (g : Grid) → writable g ≡ false → Writes l p g (Err Record) l
unfolding write_grid
unwritable l p g e = rw e (refl, refl)

room : (t : Bool) (l m : List ℕ) (n : ℕ) → let o : Outcome Wrote = cond t (Ok (record { bytes = m; position = n })) (Err Room) in
    (ok_or (cond t (Some n) None) Room ≡ result_map (λ w. w.position) o) × (cond t m l ≡ bytes_after l o)
room true l m n = (refl, refl)
room false l m n = (refl, refl)

pub put : (l : List ℕ) (p : ℕ) (g : Grid) (w : Window) (q : Option ℕ) (m : List ℕ) → writable g ≡ true → w ≡ window_for (grid_bits g)
    → q ≡ placed l p w.width → m ≡ after_field l p w.width w.value → Writes l p g (ok_or q Room) m
unfolding write_grid
put l p g w q m e f a b =
    rw (e, a, b, f, zero-add (length (grid_bits g)), bits_num (grid_bits g), le-leb (length (grid_bits g)) 32 (omega (arith, length_grid g e)))
    (room (room_for (length l) p (length (grid_bits g))) l (put_bits l p (grid_bits g)) (p + length (grid_bits g)))

-- the two halves of each apart, which is how the search takes them
pub unwritable_answer : (l : List ℕ) (p : ℕ) (g : Grid) → writable g ≡ false → Err Record ≡ result_map (λ w. w.position) (write_grid l p g)
unwritable_answer l p g e = (unwritable l p g e).0

pub unwritable_bytes : (l : List ℕ) (p : ℕ) (g : Grid) → writable g ≡ false → l ≡ bytes_after l (write_grid l p g)
unwritable_bytes l p g e = (unwritable l p g e).1

pub put_answer : (l : List ℕ) (p : ℕ) (g : Grid) (w : Window) → writable g ≡ true → w ≡ window_for (grid_bits g)
    → ok_or (placed l p w.width) Room ≡ result_map (λ w. w.position) (write_grid l p g)
put_answer l p g w e a = (put l p g w _ _ e a refl refl).0

pub put_bytes : (l : List ℕ) (p : ℕ) (g : Grid) (w : Window) → writable g ≡ true → w ≡ window_for (grid_bits g)
    → after_field l p w.width w.value ≡ bytes_after l (write_grid l p g)
put_bytes l p g w e a = (put l p g w _ _ e a refl refl).1
