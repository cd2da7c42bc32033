-- What C hands in to a reading of what it carries, and what it is given of a frame that is read.
use Rattle.std.specs.Prelude.{not, ℕ, eqb, ℤ, pos}
use Rattle.bits.specs.Bits.{bit_n}
use Rattle.sbr_reader.specs.declared.Carried.{Carried}
use Rattle.sbr_reader.specs.Read.{Accepted}
use Rattle.c_values.specs.Given.{RecordGiven, TimesGiven, record_out, time_out}

-- a border and a flag: any number but 0 is a set one
abbrev pub carried_in : ℤ → ℕ → Carried
carried_in border attack = record { border = border; attack = not (eqb attack 0) }

-- a frame: the position after it, its last border, the flag beside it, whether the frame begins on an attack (1 where it is so), its record and its time grid
abbrev pub frame_out : Accepted → ℕ × ℤ × ℕ × ℕ × RecordGiven × TimesGiven
frame_out f = (f.position, pos f.border, bit_n f.ends_on_attack, bit_n f.begins_on_attack, record_out f.grid, time_out f.time)
