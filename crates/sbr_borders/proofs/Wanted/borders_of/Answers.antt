use Rattle.std.proofs.Common.{◌≡◌, ◌+◌, ◌<◌, inl, inr, refl, sym, ◌∙◌, length, get_or, arith, length-append}
use Rattle.sbr_grid.specs.Grid.{first}
use Rattle.sbr_build.specs.Slots.{slot_list}
use Rattle.sbr_grid.proofs.First.{first-length, first-get_or}
use Rattle.sbr_borders.specs.Borders.{onset_at, place}
use Rattle.sbr_borders.specs.Wanted.{wanted_list}
use Rattle.sbr_borders.proofs.Shifts.{no_border, border_is, taken_up, near_more, places_more, none_left, no_shift_left, places_all}
use Rattle.sbr_borders.proofs.Wanted.borders_of.Goals as goal

pub loop-b-init : goal.loop-b-init
loop-b-init c =
    let b : c.zip-b-items.result.b.rest.now ≡ c.args.shifts.now = c.zip-b-items.ensures.second.0 in
    rw (c.new-out.ensures, c.into_iter-b-iterator.ensures.into_iter_gives, c.zip-b-items.ensures.first, c.iter.ensures.rest) (c.borders.ensures.0, b, omega arith, refl, refl)

pub placed-requires : goal.placed-requires
placed-requires c =
    let w = c.args.self.now in
    let i = length (slot_list c.loop-b.out) in
    let t = taken_up no_border (wanted_list w) i _ _ (sym c.loop-b.invariant.0 ∙ c.in-Some.ensures.steps.0) in
    let h : i < w.count = omega (arith, t.0, first-length (onset_at 0) w.count w.border) in
    rw (sym t.1 ∙ border_is no_border w.count i w.border (wanted_list w) refl t.0) (w.in_frame.from i h, w.in_frame.by i h)

pub push-requires : goal.push-requires
push-requires c =
    let t = taken_up 0 c.args.shifts.now (length (slot_list c.loop-b.out)) _ _ (sym c.loop-b.invariant.1 ∙ c.in-Some.ensures.steps.1) in
    (omega arith, omega (arith, t.0, c.told-shifts))

pub loop-b-preserved : goal.loop-b-preserved
loop-b-preserved c =
    let w = c.args.self.now in
    let s = c.loop-b in
    let i = length (slot_list s.out) in
    let is = first 0 w.count c.args.shifts.now in
    let t = taken_up no_border (wanted_list w) i _ _ (sym s.invariant.0 ∙ c.in-Some.ensures.steps.0) in
    let u = taken_up 0 c.args.shifts.now i _ _ (sym s.invariant.1 ∙ c.in-Some.ensures.steps.1) in
    let h : i < w.count = omega (arith, t.0, first-length (onset_at 0) w.count w.border) in
    let e : c.placed.result ≡ place (get_or (wanted_list w) i no_border) (get_or is i 0) =
    rw (t.1, first-get_or 0 w.count i c.args.shifts.now h, u.1) c.placed.ensures.0 in
    let n : length (slot_list c.push.new.self) ≡ i + 1 = rw (c.push.ensures, length-append) refl in
    rw n (
      sym t.2,
      sym u.2,
      omega arith,
      near_more _ _ _ c.push.ensures s.invariant.3 c.placed.ensures.1,
      places_more no_border (wanted_list w) is (slot_list s.out) _ _ i _ t.0 (omega (arith, first-length 0 w.count c.args.shifts.now)) c.push.ensures e s.invariant.4,
    )

pub returns-clause-value : goal.returns-clause-value
returns-clause-value c =
    let w = c.args.self.now in
    let s = c.loop-b in
    let n : length (slot_list s.out) ≡ w.count =
    elim c.in-None.ensures.steps [
      | inl u ↦ none_left _ _ w.border _ _ refl s.invariant.0 u.1.0 s.invariant.2
      | inr u ↦ no_shift_left _ _ _ _ s.invariant.1 u.1.0 s.invariant.2 (omega (arith, w.in_frame.few, c.told-shifts))
    ]
    in
    places_all _ _ (slot_list s.out) _ (length (slot_list s.out)) (omega (arith, n, first-length (onset_at 0) w.count w.border)) s.invariant.4

pub returns-clause-count : goal.returns-clause-count
returns-clause-count c =
    let w = c.args.self.now in
    let s = c.loop-b in
    elim c.in-None.ensures.steps [
      | inl u ↦ none_left _ _ w.border _ _ refl s.invariant.0 u.1.0 s.invariant.2
      | inr u ↦ no_shift_left _ _ _ _ s.invariant.1 u.1.0 s.invariant.2 (omega (arith, w.in_frame.few, c.told-shifts))
    ]
