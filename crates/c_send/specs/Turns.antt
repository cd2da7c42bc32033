-- What a turn of C comes to, and what it is given where it is answered.
use Rattle.std.specs.Prelude.{List, ℕ, leb, eqb, ℤ, pos, Float}
use Rattle.bits.specs.Bits.{bit_n}
use Rattle.sbr_grid.specs.Refusals.{Outcome}
use Rattle.sbr_reader.specs.Read.{starting}
use Rattle.sbr_run.specs.declared.Place.{Place}
use Rattle.sbr_run.specs.Run.{Turned, turn, last_border}
use Rattle.sbr_run.specs.Place.{turn_from}
use Rattle.c_values.specs.Given.{RecordGiven, TimesGiven, record_out, time_out}
use Rattle.c_bits.specs.Calls.{slotted}

-- what C carries from turn to turn: a border and a position. The flag, which no frame sent sets (`Sendable.not_at_end`), is not handed in
abbrev pub place_in : ℤ → ℕ → Place
place_in border position = record { carried = starting border; position = position }

-- a turn: 1, 5 for a switch that is neither 0 nor 1, then as `turn`
abbrev pub send_call : ℕ → List ℕ → List ℕ → List Float → ℕ → List ℕ → ℕ → ℤ → Outcome Turned
send_call n high low x switch l p b =
    slotted n (leb switch 1)
    (turn (turn_from n high low x (eqb switch 1) l (place_in b p)))

-- a turn that sends a frame: bytes, position and border after it, whether it has an onset, its record and its time grid
abbrev pub send_out : Turned → List ℕ × ℕ × ℤ × ℕ × RecordGiven × TimesGiven
send_out a = (
  a.wrote.bytes,
  a.wrote.position,
  pos (last_border a.sent.time),
  bit_n a.transient,
  record_out a.sent.grid,
  time_out a.sent.time,
)
