-- What the call of C for quantised energies comes to, and what it leaves in the bytes where it is answered.
use Rattle.std.specs.Prelude.{List, ℕ, leb, eqb, Float, Ok}
use Rattle.sbr_grid.specs.Refusals.{Outcome}
use Rattle.sbr_envelopes.specs.Envelopes.{numbers_after}
use Rattle.sbr_quantise.specs.Quantise.{quantised_in}
use Rattle.c_values.specs.Handed.{forming}

-- quantised energies: 5 for a switch that is neither 0 nor 1, then as `quantised_in`
abbrev pub quantise_call : List Float → ℕ → ℕ → Outcome (List ℕ)
quantise_call es switch room = forming (leb switch 1) (quantised_in (eqb switch 1) es room)

-- quantised energies: the bytes after, those past the values as they were
abbrev pub quantise_out : List ℕ → List ℕ → List ℕ
quantise_out out qs = numbers_after out (Ok qs)
