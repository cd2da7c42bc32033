-- `sbr_writer::fits::is_writable` meets its contract.
use mathlib.Core.Path.{sym, ◌∙◌}
use Rattle.sbr_writer.proofs.Writable.{told}
use Rattle.sbr_writer.proofs.fits.is_writable.Goals as goal

pub class_fits-requires : goal.class_fits-requires
class_fits-requires c =
    let t = told c.args.g.now (sym c.fields_fit.ensures ∙ c.if-fields_fit.true) in
    (t.numbers.rel0, t.numbers.rel1)
