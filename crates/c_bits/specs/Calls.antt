-- What the calls of C for writing and time grids come to: what they refuse before their own refusals, and what they are given where they are answered.
use Rattle.std.specs.Prelude.{Bool, List, [], ℕ}
use Rattle.sbr_grid.specs.declared.Refusal.TheVariants.{SlotCount}
use Rattle.sbr_grid.specs.Refusals.{Outcome, unless}
use Rattle.sbr_grid.specs.Times.{Times, is_slot_count}
use Rattle.sbr_time_grid.specs.TimeGrid.{time_grid}
use Rattle.sbr_writer.specs.Write.{Wrote, write_grid}
use Rattle.c_values.specs.declared.form.Handed.{Handed}
use Rattle.c_values.specs.Handed.{grid_from, formed, formable, forming}

-- a call for which ok says that all can be formed, behind the slot count: 1, then 5, then its own refusals
abbrev pub slotted : {A : Type 0} → ℕ → Bool → Outcome A → Outcome A
slotted n ok o = unless (is_slot_count n) SlotCount (forming ok o)

-- writing: 5 for what can't be formed, then as `write_grid`
abbrev pub write_call : Handed → List ℕ → List ℕ → List ℕ → List ℕ → ℕ → Outcome Wrote
write_call h flags rel0 rel1 l p = forming (formable h flags rel0 rel1) (write_grid l p (grid_from h flags rel0 rel1))

-- a time grid: 1, 5, then as `time_grid`; it needs no flags
abbrev pub time_call : ℕ → Handed → List ℕ → List ℕ → Outcome Times
time_call n h rel0 rel1 = slotted n (formed h rel0 rel1) (time_grid n (grid_from h [] rel0 rel1))

-- a write: the bytes and the position after it
abbrev pub write_out : Wrote → List ℕ × ℕ
write_out w = (w.bytes, w.position)
