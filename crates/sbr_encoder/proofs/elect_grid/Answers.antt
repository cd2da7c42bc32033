-- `sbr_encoder::elect_grid` meets its contract.
use Rattle.std.specs.Prelude.{Ok}
use mathlib.Core.Path.{sym, ap}
use mir.Syntax.{w32}
use mir.ValLaws.{to_z-of_z}
use Rattle.sbr_grid.proofs.Outcomes.{passed_on}
use Rattle.sbr_encoder.proofs.Choices.{elect_framed, framed_passed}
use Rattle.sbr_encoder.proofs.elect_grid.Goals as goal

pub returns-in_err-samples : goal.returns-in_err-samples
returns-in_err-samples c =
    let a = c.args in
    rw (elect_framed a.num_time_slots a.tables.high.now a.tables.low.now a.x.now a.t_e_last_prev a.variable_borders, sym c.in_err-samples.ensures.tests)
    (passed_on _ _ c.from_residual.ensures.1)

pub invariant_of-frame : goal.invariant_of-frame
invariant_of-frame c =
    let p = framed_passed _ _ _ _ _ c.in_ok-samples.ensures.tests in
    record { counted = p.0; framed = p.1 }

pub returns : goal.returns
returns c =
    let a = c.args in
    let f = c.in_ok-samples.ensures.frame in
    rw (elect_framed a.num_time_slots a.tables.high.now a.tables.low.now a.x.now a.t_e_last_prev a.variable_borders, sym c.in_ok-samples.ensures.tests)
    (ap Ok (rw (to_z-of_z w32 _ c.ranges.t_e_last_prev, f.0, f.1, f.2) at c.elected.ensures))
