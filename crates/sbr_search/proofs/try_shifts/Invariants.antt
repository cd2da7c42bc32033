use Rattle.std.proofs.Common.{◌≡◌, ◌-◌, ◌≤◌}
use Rattle.std.specs.Option.{option_map}
use Rattle.sbr_grid.specs.Grid.{first}
use Rattle.sbr_build.specs.Slots.{slot_list}
use Rattle.sbr_search.specs.Search.{try_ends}
use Rattle.sbr_search.specs.Cheapest.{best_of}
use Rattle.sbr_search.proofs.try_shifts.Given as goal

abbrev pub invariant-loop-over : goal.invariant-loop-over
invariant-loop-over l =
    let is = first 0 l.w.count l.shifts in
    (l.over ≤ 4)
    × (try_ends (4 - l.over) l.over l.frame.nts l.frame.lead is (slot_list l.borders) l.cost (option_map (best_of l.w.count) l.now)
    ≡ try_ends 4 0 l.frame.nts l.frame.lead is (slot_list l.borders) l.cost (option_map (best_of l.w.count) l.initial.now))
