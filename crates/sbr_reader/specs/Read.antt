-- What a reading comes to: docs/ORDER.md, RD. Refused by 1, then 7 or 8 as fields come, 6, 9.
use Rattle.std.specs.Prelude.{Bool, false, List, ℕ, ◌+◌, ◌-◌, ℤ, pos, length, get_or, Ok, Err}
use Rattle.bits.specs.Room.{bits_from}
use Rattle.sbr_grid.specs.declared.Refusal.TheVariants.{SlotCount, Chain}
use Rattle.sbr_grid.specs.Refusals.{Outcome, unless}
use Rattle.sbr_grid.specs.Grid.{Grid, num_env_of, record_of}
use Rattle.sbr_grid.specs.declared.TimeGrid.{TimeGrid}
use Rattle.sbr_grid.specs.Times.{Times, is_number, is_slot_count, time_record}
use Rattle.sbr_time_grid.specs.TimeGrid.{time_grid}
use Rattle.sbr_parse.specs.Syntax.{sbr_grid}
use Rattle.sbr_reader.specs.declared.Carried.{Carried}
use Rattle.sbr_reader.specs.declared.FrameRead.{FrameRead}

-- what an accepted frame gives: its record, its time grid, whether it begins on an attack, the position after its bits, and what it leaves to the next
-- frame: its last border, and whether an attack is marked at its very end
pub record Accepted : Type 0 where
  pub grid : Grid
  pub time : Times
  pub begins_on_attack : Bool
  pub position : ℕ
  pub border : ℕ
  pub ends_on_attack : Bool

-- an attack is marked at a frame's very end, and belongs to the next frame's first envelope: the mark is the envelope count
abbrev pub marks_end : Grid → Times → Bool
marks_end g t = is_number t.l_a (num_env_of g)

-- 9: the first border is the carried border less the slot count
unfoldable pub meets : ℕ → Carried → Grid → ℕ → Times → Outcome Accepted
meets n c g q t =
    unless (is_number c.border (get_or t.t_e 0 0 + n)) Chain
    (Ok (record {
      grid = g;
      time = t;
      begins_on_attack = c.attack;
      position = q;
      border = get_or t.t_e (num_env_of g) 0;
      ends_on_attack = marks_end g t;
    }))

-- 6: the record read has a time grid
abbrev pub timed : ℕ → Carried → Grid → ℕ → Outcome Times → Outcome Accepted
timed n c g q (Ok t) = meets n c g q t
timed n c g q (Err e) = Err e

-- 7 and 8: the bits from p on, of which len are at hand, begin with a record
abbrev pub parsed : ℕ → Carried → ℕ → ℕ → Outcome (Grid × List Bool) → Outcome Accepted
parsed n c p len (Ok r) = timed n c r.0 (p + (len - length r.1)) (time_grid n r.0)
parsed n c p len (Err e) = Err e

unfoldable pub read_grid : List ℕ → ℕ → ℕ → Carried → Outcome Accepted
read_grid l p n c = unless (is_slot_count n) SlotCount (parsed n c p (length (bits_from l p)) (sbr_grid (bits_from l p)))

-- what is carried, by a last border and the flag beside it; and to a first frame, the flag clear
abbrev pub carrying : ℕ → Bool → Carried
carrying b a = record { border = pos b; attack = a }

abbrev pub starting : ℤ → Carried
starting b = record { border = b; attack = false }

-- what a frame with this time grid leaves, as a program holds it
abbrev pub left_by : TimeGrid → Carried
left_by t = record {
  border = pos (get_or t.t_e t.num_env 0);
  attack = is_number t.l_a t.num_env;
}

-- what a program hands out for an accepted frame
abbrev pub frame_read : Accepted → FrameRead
frame_read f = record {
  grid = record_of f.grid;
  time = time_record f.time;
  begins_on_attack = f.begins_on_attack;
  position = f.position;
  carried = carrying f.border f.ends_on_attack;
}
