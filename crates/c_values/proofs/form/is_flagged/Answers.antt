-- `c_values::form::is_flagged` meets its contract.
use Rattle.std.proofs.Common.{◌∙◌, ap, leb}
use borrow.Author.Tests.{le-leb, lt-leb}
use Rattle.sbr_grid.proofs.First.{first_take}
use Rattle.sbr_writer.specs.Write.{every}
use Rattle.c_values.specs.Handed.{flagged}
use Rattle.c_values.proofs.form.is_flagged.Goals as goal

pub returns-then-count-range : goal.returns-then-count-range
unfolding flagged every
returns-then-count-range c =
    rw (le-leb _ _ c.if-count-range.true)
    (c.are_flags.ensures ∙ ap (every (λ b. leb b 1)) (first_take 0 c.args.count c.args.range.now c.if-count-range.true))

pub returns-else-count-range : goal.returns-else-count-range
unfolding flagged every
returns-else-count-range c = rw (lt-leb _ _ c.if-count-range.false)
