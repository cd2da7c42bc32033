-- `sbr_encoder::elected` meets its contract.
use mir.Syntax.{w32}
use mir.ValLaws.{to_z-of_z}
use Rattle.sbr_qmf.specs.Qmf.{columns}
use Rattle.sbr_encoder.proofs.Choices.{Plan, planned, handed_out}
use Rattle.sbr_encoder.proofs.elected.Goals as goal
use Rattle.sbr_encoder.proofs.elected.Goals.{After-choose-plan}

-- what was chosen
plan : (c : After-choose-plan)
    → Plan (columns c.args.frame.samples.x.now) c.args.frame.samples.tables.high.now c.args.frame.samples.tables.low.now c.args.frame.num_time_slots c.args.t_e_last_prev c.args.variable_borders
    c.choose-plan.result.grid c.choose-plan.result.transient
plan c =
    let f = c.args.frame in
    let s = f.samples in
    let e = rw (to_z-of_z w32 _ c.ranges.t_e_last_prev) at c.choose-plan.ensures in
    planned (columns s.x.now) s.tables.high.now s.tables.low.now f.num_time_slots c.args.t_e_last_prev c.args.variable_borders c.energies-e.result _ _
    f.counted c.energies-e.ensures e.grid_value e.transient_value

pub resolved-requires-clause-whole : goal.resolved-requires-clause-whole
resolved-requires-clause-whole c = (plan (goal.at.resolved-requires-clause-whole c).After-choose-plan).whole

pub resolved-requires-clause-timed : goal.resolved-requires-clause-timed
resolved-requires-clause-timed c = let p = plan (goal.at.resolved-requires-clause-timed c).After-choose-plan in (p.time, p.derived)

pub returns : goal.returns
returns c =
    let p = plan (goal.at.returns c).After-choose-plan in
    handed_out _ _ _ _ _ _ _ _ _ p (c.resolved.ensures p.time p.derived)
