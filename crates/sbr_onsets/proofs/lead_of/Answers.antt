use Rattle.std.proofs.Common.{arith}
use lib.IntN.{pos, ◌-ℤ◌}
use Rattle.sbr_grid.proofs.Slots.{slots_few}
use Rattle.sbr_onsets.proofs.OnsetLead.{code_fits, code_is, lead_is}
use Rattle.sbr_onsets.proofs.lead_of.Goals as goal

pub overflow_cast-past : goal.overflow_cast-past
overflow_cast-past c = record { sfits = omega (arith, slots_few _ c.requires) }

pub overflow_sub-past : goal.overflow_sub-past
overflow_sub-past c = rw c.from.ensures (code_fits _ _ c.ranges.t_e_last_prev (slots_few _ c.requires))

pub returns : goal.returns
returns c =
    -- the code's difference
    let is = code_is _ _ c.ranges.t_e_last_prev (slots_few _ c.requires) in
    lead_is (c.args.t_e_last_prev -ℤ pos c.args.num_time_slots) _ (rw (c.from.ensures, is) at c.clamp.ensures.value)
