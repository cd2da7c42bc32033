-- The arrays of the search as the lists of Search.antt: the places below a count.
use Rattle.std.specs.Prelude.{ℕ}
use Rattle.sbr_grid.specs.Grid.{first}
use Rattle.sbr_search.specs.declared.cheapest.Cheapest.{Cheapest}
use Rattle.sbr_search.specs.Search.{Best}

-- a plan of k shifts, with its cost
abbrev pub best_of : ℕ → Cheapest → Best
best_of k b = record { total = b.total; plan = record { shifts = first 0 k b.shifts; over = b.over; leading = b.leading } }
