-- `sbr_parse::sbr_grid` meets its contract.
use mathlib.Core.Path.{◌≡◌, ◌∙◌}
use Rattle.bits.specs.Bits.{bits_of}
use Rattle.sbr_grid.specs.Grid.{by_class}
use Rattle.sbr_parse.specs.Syntax.{fix_fix, fix_var, var_fix, var_var, sbr_grid}
use Rattle.sbr_parse.proofs.Taken.{took, stopped}
use Rattle.sbr_parse.proofs.ParseLaws.{grid_short, grid_reads}
use Rattle.sbr_parse.proofs.sbr_grid.Goals.{After-of_code-class}
use Rattle.sbr_parse.proofs.sbr_grid.Goals as goal

-- the class decides what is read behind it
body : (c : After-of_code-class) → let a = c.args.bits in
    sbr_grid (bits_of a.width a.value) ≡ by_class c.of_code-class.result fix_fix fix_var var_fix var_var (bits_of c.in_ok-code.body.width c.in_ok-code.body.value)
body c =
    let a = c.args.bits in
    let t = took 2 a c.take.result c.in_ok-code.code c.in_ok-code.body c.take.ensures c.in_ok-code.was in
    grid_reads a.width c.in_ok-code.body.width a.value t.width ∙ rw (c.of_code-class.ensures, t.number, t.value)

pub returns-in_err-code : goal.returns-in_err-code
returns-in_err-code c =
    let a = c.args.bits in
    let e = stopped 2 a c.take.result _ c.from_residual.result c.take.ensures c.in_err-code.was c.from_residual.ensures.1 in
    rw (e.is, grid_short a.width a.value e.few)

pub returns-in-FixFix : goal.returns-in-FixFix
returns-in-FixFix c = rw (body (goal.at.returns-in-FixFix c).After-of_code-class, c.in-FixFix.is) c.fix_fix.ensures

pub returns-in-FixVar : goal.returns-in-FixVar
returns-in-FixVar c = rw (body (goal.at.returns-in-FixVar c).After-of_code-class) c.one_side.ensures

pub returns-in-VarVar : goal.returns-in-VarVar
returns-in-VarVar c = rw (body (goal.at.returns-in-VarVar c).After-of_code-class, c.in-VarVar.is) c.var_var.ensures
