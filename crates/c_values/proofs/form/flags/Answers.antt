-- Flags of places are places of flags.
use Rattle.std.proofs.Common.{◌∙◌, ap, map, eqb}
use Rattle.sbr_grid.proofs.First.{first_front, first_map}
use Rattle.sbr_grid.specs.Grid.{first}
use Rattle.c_values.proofs.form.flags.Goals as goal

pub returns : goal.returns
returns c =
    c.are_high.ensures
    ∙ ap (map (λ b. eqb b 1)) (c.padded.ensures ∙ first_front 0 5 c.args.count c.min.result c.args.range.now c.min.ensures)
    ∙ first_map (λ b. eqb b 1) 0 5 (first 0 c.args.count c.args.range.now)
