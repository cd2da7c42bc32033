use mathlib.Core.Path.{◌≡◌, sym, ◌∙◌}
use lib.IntN.{nat_abs}
use lib.ListN.{length, take, length-map}
use Prim.Native.Nat.{◌+◌}
use mir.Syntax.{w32}
use mir.ValLaws.{to_z-of_z}
use native.Mathlib.Omega.{arith}
use Rattle.sbr_grid.proofs.Slots.{slots_few}
use Rattle.sbr_named.proofs.Signed.{border_low}
use Rattle.sbr_named.proofs.Entry.{can_told, no_slots, no_limits, borders_back, answer}
use Rattle.sbr_named.proofs.grid_for_borders.Goals as goal

pub returns-then-not-is_slot_count : goal.returns-then-not-is_slot_count
returns-then-not-is_slot_count c =
    let a = c.args in
    no_slots a.borders.now a.freq_res.now a.l_a a.num_time_slots (sym c.is_slot_count.ensures ∙ c.if-not-is_slot_count.true)

pub returns-then-not-can_be_named : goal.returns-then-not-can_be_named
returns-then-not-can_be_named c =
    let a = c.args in
    no_limits a.borders.now a.freq_res.now a.l_a a.num_time_slots (sym c.is_slot_count.ensures ∙ c.if-not-is_slot_count.false)
    (rw (to_z-of_z w32 _ c.ranges.l_a) at (sym c.can_be_named.ensures ∙ c.if-not-can_be_named.true))

pub invariant_of-frame : goal.invariant_of-frame
invariant_of-frame c =
    let a = c.args in
    let l = can_told a.borders.now a.freq_res.now a.l_a (rw (to_z-of_z w32 _ c.ranges.l_a) at (sym c.can_be_named.ensures ∙ c.if-not-can_be_named.false)) in
    let b = borders_back a.borders.now c.border_places-places.result (omega arith) c.border_places-places.ensures in
    let n : length (take (length a.borders.now) c.border_places-places.result) ≡ length a.freq_res.now + 1 = rw b (length-map a.borders.now nat_abs ∙ l.count) in
    record {
      few_slots = slots_few _ (sym c.is_slot_count.ensures ∙ c.if-not-is_slot_count.false);
      some = l.some;
      few = l.few;
      count = n;
      low = λ i. rw b (border_low a.borders.now i l.borders);
      marked = rw (to_z-of_z w32 _ c.ranges.l_a) l.marked;
    }

pub returns : goal.returns
returns c =
    let a = c.args in
    let l = can_told a.borders.now a.freq_res.now a.l_a (rw (to_z-of_z w32 _ c.ranges.l_a) at (sym c.can_be_named.ensures ∙ c.if-not-can_be_named.false)) in
    let b = borders_back a.borders.now c.border_places-places.result (omega arith) c.border_places-places.ensures in
    c.ok_or.ensures.value
    ∙ answer a.num_time_slots a.borders.now a.freq_res.now a.l_a _ _ _ (sym c.is_slot_count.ensures ∙ c.if-not-is_slot_count.false) l b (to_z-of_z w32 _ c.ranges.l_a) c.first_record.ensures
