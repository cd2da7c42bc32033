-- What the call of C for an election comes to, and what it is given where it is answered.
use Rattle.std.specs.Prelude.{List, ℕ, leb, eqb, ℤ, Float}
use Rattle.bits.specs.Bits.{bit_n}
use Rattle.sbr_grid.specs.Refusals.{Outcome}
use Rattle.sbr_encoder.specs.Election.{Elected, elect}
use Rattle.c_values.specs.Given.{RecordGiven, record_out}
use Rattle.c_bits.specs.Calls.{slotted}

-- an election: 1, 5 for a switch that is neither 0 nor 1, then as `elect`
abbrev pub elect_call : ℕ → List ℕ → List ℕ → List Float → ℤ → ℕ → Outcome Elected
elect_call n high low x b switch = slotted n (leb switch 1) (elect n high low x b (eqb switch 1))

-- an election: whether the frame has an onset, and its record
abbrev pub election_out : Elected → ℕ × RecordGiven
election_out e = (bit_n e.transient, record_out e.grid)
