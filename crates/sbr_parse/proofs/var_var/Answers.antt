-- `sbr_parse::var_var` meets its contract.
use mathlib.Core.Path.{ap, ◌∙◌}
use native.Mathlib.Omega.{arith}
use Rattle.sbr_parse.specs.Parse.{twos_of}
use Rattle.sbr_parse.proofs.Taken.{took, stopped}
use Rattle.sbr_parse.proofs.ParseLaws.{var-var_short, varvar_over, varvar_reads}
use Rattle.sbr_parse.proofs.var_var.Goals as goal

pub returns-in_err-sides : goal.returns-in_err-sides
returns-in_err-sides c =
    let a = c.args.body in
    let e = stopped 8 a c.take.result _ c.from_residual.result c.take.ensures c.in_err-sides.was c.from_residual.ensures.1 in
    rw (e.is, var-var_short a.width a.value e.few)

pub returns-then-head-gt-MAX_NUM_ENV : goal.returns-then-head-gt-MAX_NUM_ENV
returns-then-head-gt-MAX_NUM_ENV c =
    let a = c.args.body in
    let t = took 8 a c.take.result c.in_ok-sides.sides c.in_ok-sides.rest c.take.ensures c.in_ok-sides.was in
    rw (varvar_over a.width c.in_ok-sides.rest.width a.value c.four_twos.result t.width (c.four_twos.ensures ∙ ap (twos_of 4) t.number) (omega arith))

pub returns : goal.returns
returns c =
    let a = c.args.body in
    let t = took 8 a c.take.result c.in_ok-sides.sides c.in_ok-sides.rest c.take.ensures c.in_ok-sides.was in
    rw (varvar_reads a.width c.in_ok-sides.rest.width a.value c.four_twos.result t.width (c.four_twos.ensures ∙ ap (twos_of 4) t.number) (omega arith))
    (rw t.value at c.behind_counts.ensures)
