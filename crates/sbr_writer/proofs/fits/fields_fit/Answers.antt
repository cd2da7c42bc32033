-- `sbr_writer::fits::fields_fit` meets its contract.
use mathlib.Core.Path.{sym, ◌∙◌}
use Rattle.sbr_writer.proofs.Writable.{fields_parts}
use Rattle.sbr_writer.proofs.fits.fields_fit.Goals as goal

pub returns-then-numbers_fit : goal.returns-then-numbers_fit
returns-then-numbers_fit c = rw (fields_parts c.args.g.now, sym c.numbers_fit.ensures ∙ c.if-numbers_fit.true) c.lists_fit.ensures

pub returns-else-numbers_fit : goal.returns-else-numbers_fit
returns-else-numbers_fit c = rw (fields_parts c.args.g.now, sym c.numbers_fit.ensures ∙ c.if-numbers_fit.false) c.if-numbers_fit.false
