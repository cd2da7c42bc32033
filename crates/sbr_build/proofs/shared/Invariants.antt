use mathlib.Core.Path.{◌≡◌}
use mathlib.Core.List.{◌++◌}
use Prim.Native.Nat.{◌+◌, ◌-◌}
use lib.ListN.{length}
use Rattle.sbr_build.specs.Build.{shares}
use Rattle.sbr_build.specs.Slots.{slot_list}
use Rattle.sbr_build.proofs.shared.Given as goal

abbrev pub invariant-loop-remaining : goal.invariant-loop-remaining
invariant-loop-remaining l =
    (length (slot_list l.rel) + (l.remaining - 1) ≡ l.num_env - 1) × (slot_list l.rel ++ shares l.remaining l.left ≡ shares l.num_env l.span)
