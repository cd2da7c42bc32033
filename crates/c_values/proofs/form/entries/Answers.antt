-- As many bytes as the range and the count have, in N places.
use Rattle.std.proofs.Common.{◌∙◌}
use Rattle.sbr_grid.proofs.First.{first_front}
use Rattle.c_values.proofs.form.entries.Goals as goal

pub returns : goal.returns
returns g c = c.padded.ensures ∙ first_front 0 g.row.N c.args.count c.min.result c.args.range.now c.min.ensures
