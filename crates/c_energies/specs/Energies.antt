-- What the call of C for energies comes to, and what it is given where it is answered.
use Rattle.std.specs.Prelude.{List, ℕ, length, Float, Ok}
use Rattle.sbr_grid.specs.Refusals.{Outcome}
use Rattle.sbr_envelopes.specs.Envelopes.{energies, numbers_after}
use Rattle.c_values.specs.declared.form.Handed.{Handed}
use Rattle.c_values.specs.Handed.{grid_from, formable}
use Rattle.c_bits.specs.Calls.{slotted}

-- energies: 1, 5 for what can't be formed, then as `energies`
abbrev pub energy_call : ℕ → List ℕ → List ℕ → List Float → Handed → List ℕ → List ℕ → List ℕ → ℕ → Outcome (List Float)
energy_call n high low x h flags rel0 rel1 room =
    slotted n (formable h flags rel0 rel1) (energies n high low x (grid_from h flags rel0 rel1) room)

-- energies: the numbers after, those past the rows as they were, and how many the rows hold
abbrev pub energy_out : List Float → List Float → List Float × ℕ
energy_out out es = (numbers_after out (Ok es), length es)
