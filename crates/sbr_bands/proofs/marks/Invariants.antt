use Rattle.std.proofs.Common.{◌≡◌, false, eqb, ℕ, length, get_or, take}
use Rattle.std.specs.List.{list_any}
use Rattle.sbr_bands.proofs.marks.Given as goal

abbrev pub invariant-loop-b : goal.invariant-loop-b
invariant-loop-b l = (length l.out ≡ 256) × ((b : ℕ) → get_or l.out b false ≡ list_any (λ x. eqb x b) (take l.b-index l.table))
