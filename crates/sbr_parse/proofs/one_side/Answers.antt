-- `sbr_parse::one_side` meets its contract.
use Rattle.sbr_parse.proofs.Taken.{took, stopped}
use Rattle.sbr_parse.proofs.ParseLaws.{side_short, fixvar_reads, varfix_reads, is_varfix}
use Rattle.sbr_parse.proofs.one_side.Goals as goal

pub returns-in_err-side : goal.returns-in_err-side
returns-in_err-side c =
    let a = c.args in
    let e = stopped 4 a.body c.take.result _ c.from_residual.result c.take.ensures c.in_err-side.was c.from_residual.ensures.1 in
    rw (e.is, side_short a.class c.requires a.body.width a.body.value e.few)

pub returns-in-FixVar : goal.returns-in-FixVar
returns-in-FixVar c =
    let a = c.args.body in
    let t = took 4 c.args.body c.take.result c.in_ok-side.side c.in_ok-side.rest c.take.ensures c.in_ok-side.was in
    rw (c.in-FixVar.is, fixvar_reads a.width c.in_ok-side.rest.width a.value c.in_ok-side.side t.width t.number)
    (rw (c.in-FixVar.is, t.value) at c.behind_counts.ensures)

pub returns-in_default : goal.returns-in_default
returns-in_default c =
    let a = c.args.body in
    let k = is_varfix c.args.class c.requires c.in_default.not-FixVar in
    let t = took 4 c.args.body c.take.result c.in_ok-side.side c.in_ok-side.rest c.take.ensures c.in_ok-side.was in
    rw (k, varfix_reads a.width c.in_ok-side.rest.width a.value c.in_ok-side.side t.width t.number)
    (rw (k, t.value) at c.behind_counts-in_default.ensures)
