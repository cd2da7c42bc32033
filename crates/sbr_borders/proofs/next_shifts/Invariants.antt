use Rattle.std.proofs.Common.{◌≡◌, length, drop}
use Rattle.sbr_borders.proofs.Shifts.{Turns}
use Rattle.sbr_borders.proofs.next_shifts.Given as goal

abbrev pub invariant-loop-i : goal.invariant-loop-i
invariant-loop-i l =
    (length l.next ≡ 4) × (drop (length l.wanted) l.next ≡ drop (length l.wanted) l.shifts) × Turns l.wanted l.shifts l.i l.next
