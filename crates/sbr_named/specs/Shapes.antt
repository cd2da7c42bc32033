-- The grid for named borders, computed. A shape is a class and, in VARVAR, a count of leading lengths; there are seven: FIXFIX, FIXVAR, VARFIX, and VARVAR
-- with 0 to 3 leading lengths. Borders and resolutions determine all that the reader gives of a record of one shape but its pointer, of which the least for
-- the mark is taken; the shapes are tried in the order of their records' keys.
use Rattle.std.specs.Prelude.{Bool, true, false, ◌&&◌, List, map, ℕ, ◌+◌, ◌-◌, ◌/◌, eqb, ℤ, pos, negsuc, nat_abs, length, get_or, Option, Ok, Err}
use Rattle.std.specs.List.{list_all, find, range_with_len}
use Rattle.std.specs.Option.{option_map, ok_or}
use Rattle.std.specs.Ordering.{int_eq}
use Rattle.std.specs.Cmp.Lexicographic.{pointwise}
use Rattle.sbr_grid.specs.declared.FrameClass.{FrameClass}
use Rattle.sbr_grid.specs.declared.Refusal.TheVariants.{SlotCount, NoGrid}
use Rattle.sbr_grid.specs.Refusals.{Outcome, unless}
use Rattle.sbr_grid.specs.Grid.{by_class, class_of, Grid}
use Rattle.sbr_grid.specs.Times.{Times, is_slot_count}
use Rattle.sbr_time_grid.specs.TimeGrid.{list_from, time_grid}
use Rattle.sbr_writer.specs.Write.{writable}
use Rattle.sbr_parse.specs.Syntax.{received}
use Rattle.sbr_named.specs.declared.shape.Shape.{Shape}

-- ---- the record of a shape

-- the stored form of the length from border a to border b; where there is none, for an odd length, one above 8 or below 2, the test below fails
abbrev pub stored_length : ℕ → ℕ → ℕ
stored_length a b = (b - a - 2) / 2

-- the stored lengths of the first j envelopes, and of the last k of l envelopes from the last one back
unfoldable pub leading : List ℕ → ℕ → List ℕ
leading bs j = list_from (λ i. stored_length (get_or bs i 0) (get_or bs (i + 1) 0)) 0 j

unfoldable pub trailing : List ℕ → ℕ → ℕ → List ℕ
trailing bs l k = list_from (λ i. stored_length (get_or bs (l - (i + 1)) 0) (get_or bs (l - i) 0)) 0 k

-- the shape with number k, in the order of the records' keys
abbrev pub shape_at : ℕ → Shape
shape_at k = record { class = class_of k; leading = k - 3 }

-- the counts of leading and of trailing lengths of a shape with l envelopes; with more leading ones than envelopes but one it is not writable
abbrev pub lead_count : ℕ → Shape → ℕ
lead_count l s = by_class s.class 0 0 (l - 1) s.leading

abbrev pub trail_count : ℕ → Shape → ℕ
trail_count l s = by_class s.class 0 (l - 1) 0 (l - 1 - s.leading)

-- the one record of a shape that can have these borders, with pointer p, where its class sends one
abbrev pub shaped : ℕ → List ℕ → List Bool → Shape → ℕ → Grid
shaped n bs res s p =
    let c = s.class in
    let l = length res in
    let b0 = get_or bs 0 0 in
    let b1 = get_or bs l 0 - n in
    received c res (by_class c 0 0 b0 b0) (by_class c 0 b1 0 b1) (leading bs (lead_count l s)) (trailing bs l (trail_count l s))
    (by_class c 0 p p p)

-- the least pointer that gives a mark in a class, with l envelopes, where one does: Table 4.176 read backwards
unfoldable pub pointer_for : FrameClass → ℕ → ℤ → ℕ
pointer_for c l (negsuc m) = 0
pointer_for c l (pos m) = by_class c 0 (l + 1 - m) (m + 1) (l + 1 - m)

abbrev pub candidate : ℕ → List ℕ → List Bool → ℤ → Shape → Grid
candidate n bs res mark s = shaped n bs res s (pointer_for s.class (length res) mark)

-- ---- the test of a record

-- a time grid has these borders and this mark
unfoldable pub has_times : List ℕ → ℤ → Outcome Times → Bool
has_times bs mark (Ok t) = pointwise eqb t.t_e bs && int_eq t.l_a mark
has_times bs mark (Err e) = false

-- a record is writable and has such a time grid
unfoldable pub has_borders : ℕ → List ℕ → ℤ → Grid → Bool
has_borders n bs mark g = writable g && has_times bs mark (time_grid n g)

-- ---- the choice

-- the record of the first shape, by its number, that has what is named
unfoldable pub named : ℕ → List ℕ → List Bool → ℤ → Option Grid
named n bs res mark =
    let g = λ (k : ℕ). candidate n bs res mark (shape_at k) in
    option_map g (find (λ k. has_borders n bs mark (g k)) (range_with_len 0 7))

-- ---- the call: 1, then 10. Borders are any whole numbers with sign; no grid has one below 0

abbrev pub from_zero_of : ℤ → Bool
from_zero_of (pos b) = true
from_zero_of (negsuc b) = false

unfoldable pub named_grid : ℕ → List ℤ → List Bool → ℤ → Outcome Grid
named_grid n borders res mark =
    unless (is_slot_count n) SlotCount
    (unless (list_all from_zero_of borders) NoGrid (ok_or (named n (map nat_abs borders) res mark) NoGrid))
