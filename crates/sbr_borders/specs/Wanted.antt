-- The wanted borders as a list.
use Rattle.std.specs.Prelude.{List}
use Rattle.sbr_grid.specs.Grid.{first}
use Rattle.sbr_borders.specs.declared.WantedBorder.{WantedBorder}
use Rattle.sbr_borders.specs.declared.Wanted.{Wanted}
use Rattle.sbr_borders.specs.Borders.{onset_at}

abbrev pub wanted_list : Wanted → List WantedBorder
wanted_list w = first (onset_at 0) w.count w.border
