-- The class by its number, the counts by their lists.
use Rattle.std.proofs.Common.{refl}
use Rattle.sbr_grid.proofs.Laws.{lengths}
use Rattle.c_values.proofs.give.numbers.Goals as goal

pub returns : goal.returns
returns c =
    let l = lengths c.args.grid in
    rw (c.into.ensures, c.into-2.ensures, c.into-3.ensures, c.into-4.ensures, c.into-5.ensures, l.env, l.rel0, l.rel1) refl
