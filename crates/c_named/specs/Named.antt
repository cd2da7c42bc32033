-- What the call of C for named borders comes to.
use Rattle.std.specs.Prelude.{List, map, ℕ, leb, eqb, ℤ}
use Rattle.sbr_grid.specs.Refusals.{Outcome}
use Rattle.sbr_grid.specs.Grid.{Grid}
use Rattle.sbr_writer.specs.Write.{every}
use Rattle.sbr_named.specs.Shapes.{named_grid}
use Rattle.c_bits.specs.Calls.{slotted}

-- named borders: 1, 5 for a flag that is neither 0 nor 1, then as `named_grid`; borders and flags are all that the ranges hold
abbrev pub named_call : ℕ → List ℤ → List ℕ → ℤ → Outcome Grid
named_call n borders flags mark =
    slotted n (every (λ b. leb b 1) flags) (named_grid n borders (map (λ b. eqb b 1) flags) mark)
