use Rattle.std.proofs.Common.{◌≡◌, ◌-◌, ◌≤◌, Some}
use Rattle.std.specs.Option.{option_map}
use Rattle.sbr_grid.specs.Grid.{first}
use Rattle.sbr_borders.specs.Wanted.{wanted_list}
use Rattle.sbr_search.specs.Search as of
use Rattle.sbr_search.specs.Cheapest.{best_of}
use Rattle.sbr_search.proofs.varvar_from_borders.Given as goal

abbrev pub invariant-loop-tried : goal.invariant-loop-tried
invariant-loop-tried l =
    let ws = wanted_list l.w in
    (l._tried ≤ 24)
    × (of.try_from (24 - l._tried) l.frame.nts l.frame.lead ws (Some (first 0 l.w.count l.shifts)) (option_map (best_of l.w.count) l.best)
    ≡ of.search l.frame.nts l.frame.lead ws)
