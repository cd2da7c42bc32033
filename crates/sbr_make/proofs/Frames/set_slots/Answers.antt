-- `sbr_make::Frames::set_slots` meets its contract.
use mathlib.Core.Path.{sym}
use Rattle.sbr_make.specs.Code.{making_of}
use Rattle.sbr_make.proofs.Rooms.{slots_room}
use Rattle.sbr_make.proofs.Frames.set_slots.Goals as goal

pub invariant_of-self : goal.invariant_of-self
invariant_of-self c = slots_room (making_of c.self.inside) c.args.num_time_slots c.self.invariant (sym c.if-not-is_slot_count.ensures)
