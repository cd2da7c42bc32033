use Prim.Native.Nat.{◌-◌}
use Rattle.sbr_list.proofs.Turns.{Reached}
use Rattle.sbr_list.proofs.frames.Given as goal

abbrev pub invariant-loop-i : goal.invariant-loop-i
invariant-loop-i l =
    Reached l.bits l.slots l.count l.initial.carried l.initial.page l.page l.at l.position l.carried l.i

abbrev pub decreases-loop-i : goal.decreases-loop-i
decreases-loop-i l = l.count - l.i
