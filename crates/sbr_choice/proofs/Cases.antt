-- The definitions give every line of the marked cases.
use mathlib.Core.Path.{refl}
use Rattle.sbr_choice.specs.Chosen.{MarkedCases}
use Rattle.sbr_choice.proofs.Computed.{times_of, chosen_of}

pub marked_cases : MarkedCases
unfolding times_of chosen_of
marked_cases s os = refl
