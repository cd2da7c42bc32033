-- What clauses see of numbers of slots.
use Rattle.std.specs.Prelude.{List, take}
use Rattle.sbr_build.specs.declared.slots.Slots.{Slots}

-- the numbers, in order
abbrev pub slot_list : {T : Type 0} → Slots T → List T
slot_list l = take l.count l.slots
