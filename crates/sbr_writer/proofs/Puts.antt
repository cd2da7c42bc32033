-- What a write that answers leaves.
use Rattle.std.specs.Prelude.{Ok, Err}
use mathlib.Core.Path.{◌≡◌, sym, ap}
use mathlib.Core.Bool.{true}
use mathlib.Core.List.{List, []}
use Prim.Native.Nat.{ℕ, ◌+◌, ◌<◌}
use native.Mathlib.Omega.{arith}
use lib.ListN.{length, length-append}
use Rattle.bits.specs.Bits.{put_bits}
use Rattle.bits.specs.Room.{room_for}
use Rattle.bits.proofs.Numbers.{length-bits_of}
use Rattle.bits.proofs.Room.{room}
use Rattle.bits.proofs.After.{put_leaves}
use Rattle.sbr_grid.specs.Refusals.{Outcome}
use Rattle.sbr_grid.specs.Grid.{Grid}
use Rattle.sbr_grid.proofs.Outcomes.{unless_answered}
use Rattle.sbr_writer.specs.Syntax.{grid_bits}
use Rattle.sbr_writer.specs.Write.{Wrote, writable, write_grid, bytes_after, EveryWrite}

-- what a write that answers has put
pub record Put (l : List ℕ) (p : ℕ) (g : Grid) (w : Wrote) : Type 0 where
  pub fits : writable g ≡ true
  pub room : room_for (length l) p (length (grid_bits g)) ≡ true
  pub bytes : w.bytes ≡ put_bits l p (grid_bits g)
  pub position : w.position ≡ p + length (grid_bits g)

-- the position of a write that answers
abbrev place : Outcome Wrote → ℕ
place (Ok w) = w.position
place (Err e) = 0

pub puts : (bytes : List ℕ) (p : ℕ) (g : Grid) (w : Wrote) → write_grid bytes p g ≡ Ok w → Put bytes p g w
unfolding write_grid
puts bytes p g w e =
    let f = unless_answered (writable g) _ _ e in
    let r = unless_answered (room_for (length bytes) p (length (grid_bits g))) _ _ f.1 in
    record {
      fits = f.0;
      room = r.0;
      bytes = ap (bytes_after []) (sym r.1);
      position = ap place (sym r.1);
    }

-- every record has bits
pub some_bits : (g : Grid) → 0 < length (grid_bits g)
unfolding grid_bits
some_bits g = simp (length-append, length-bits_of) (omega arith)

pub every_write : EveryWrite
every_write l p g w e =
    let t = puts l p g w e in
    let r = room (length l) p (length (grid_bits g)) t.room in
    (rw t.bytes (put_leaves l p (grid_bits g) (some_bits g) r.within), t.position)
