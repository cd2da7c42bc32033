-- `sbr_writer::fits::class_fits` meets its contract.
use mathlib.Core.Path.{sym, ap, ◌∙◌}
use Rattle.sbr_grid.specs.Grid.{view_of}
use Rattle.sbr_writer.specs.Write.{class_fits}
use Rattle.sbr_writer.proofs.Writable.{fix-var_view, var-fix_view, var-var_view}
use Rattle.sbr_writer.proofs.fits.class_fits.Goals as goal

pub returns-in-FixVar : goal.returns-in-FixVar
returns-in-FixVar c =
    let g = c.args.g.now in
    c.one_side_fits.ensures ∙ sym (fix-var_view g) ∙ ap (λ k. class_fits k (view_of g)) (sym c.in-FixVar.is)

pub returns-in-VarFix : goal.returns-in-VarFix
returns-in-VarFix c =
    let g = c.args.g.now in
    c.one_side_fits-in-VarFix.ensures ∙ sym (var-fix_view g) ∙ ap (λ k. class_fits k (view_of g)) (sym c.in-VarFix.is)

pub returns-in-VarVar : goal.returns-in-VarVar
returns-in-VarVar c =
    let g = c.args.g.now in
    c.two_sides_fit.ensures ∙ sym (var-var_view g) ∙ ap (λ k. class_fits k (view_of g)) (sym c.in-VarVar.is)
