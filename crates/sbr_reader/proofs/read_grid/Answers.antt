-- `sbr_reader::read_grid` meets its contract.
use mathlib.Core.Path.{◌≡◌, refl, sym, ap, ◌∙◌}
use mathlib.Core.Bool.{true, false}
use Prim.Native.Nat.{◌+◌, ◌-◌}
use native.Mathlib.Omega.{arith}
use borrow.Author.Rules.{rules}
use borrow.Author.Tests.{ne_eqb, eq-eqb}
use lib.ListN.{length, get_or}
use Rattle.bits.specs.Room.{end_of, window_of}
use Rattle.sbr_grid.specs.Grid.{view_of}
use Rattle.sbr_grid.specs.Times.{is_number, time_record}
use Rattle.sbr_grid.proofs.Number.{number_bits}
use Rattle.sbr_grid.proofs.Outcomes.{passed_on, map_refused}
use Rattle.sbr_time_grid.specs.TimeGrid.{time_grid}
use Rattle.sbr_parse.specs.Parse.{parsed, window_bits}
use Rattle.sbr_parse.specs.declared.Parsed.{Parsed}
use Rattle.sbr_parse.specs.Syntax.{sbr_grid}
use Rattle.sbr_reader.specs.Read.{left_by}
use Rattle.sbr_reader.proofs.ReadLaws.{read-slots, read-bits, meets_not, meets_so, frame_of}
use Rattle.sbr_reader.proofs.Reached.{Got, got, Timed, timed, viewed, record_read, handed_out}
use Rattle.sbr_reader.proofs.read_grid.Goals.{After-derive_time_grid, In_ok-time}
use Rattle.sbr_reader.proofs.read_grid.Goals as goal

-- past the tests of the slot count and of the bits, and past that of the time grid
read : (c : After-derive_time_grid) → Got c.args.buf.now c.args.pos c.args.num_time_slots c.peek_bits-window.result c.in_ok-parsed.parsed
read c = got _ _ _ _ _ (sym c.is_slot_count.ensures ∙ c.if-not-is_slot_count.false) c.peek_bits-window.ensures c.in_ok-parsed.ensures

times : (c : In_ok-time) → Timed c.args.buf.now c.args.pos c.args.num_time_slots c.peek_bits-window.result c.in_ok-parsed.parsed c.in_ok-time.time
times c =
    let x = got _ _ _ _ _ (sym c.is_slot_count.ensures ∙ c.if-not-is_slot_count.false) c.peek_bits-window.ensures c.in_ok-parsed.ensures in
    timed _ _ _ _ _ x c.in_ok-time.time c.in_ok-time.ensures

pub returns-then-not-is_slot_count : goal.returns-then-not-is_slot_count
returns-then-not-is_slot_count c =
    let a = c.args in
    rw (read-slots a.buf.now a.pos a.num_time_slots a.carried (sym c.is_slot_count.ensures ∙ c.if-not-is_slot_count.true))

pub returns-in_err-parsed : goal.returns-in_err-parsed
returns-in_err-parsed c =
    let a = c.args in
    let e = map_refused parsed (sbr_grid (window_bits c.peek_bits-window.result)) _ c.in_err-parsed.ensures in
    rw (
      passed_on c.from_residual.result _ c.from_residual.ensures.1,
      read-bits a.buf.now a.pos a.num_time_slots a.carried (sym c.is_slot_count.ensures ∙ c.if-not-is_slot_count.false) _
          (ap (λ w. sbr_grid (window_bits w)) (sym c.peek_bits-window.ensures) ∙ e),
    )

pub returns-in_err-time : goal.returns-in_err-time
returns-in_err-time c =
    let a = c.args in
    let x = read (goal.at.returns-in_err-time c).After-derive_time_grid in
    let e = map_refused time_record (time_grid a.num_time_slots (view_of c.in_ok-parsed.parsed.grid)) _ c.in_err-time.ensures in
    rw (
      passed_on c.from_residual-in_err-time.result _ c.from_residual-in_err-time.ensures.1,
      record_read _ _ _ _ _ a.carried x,
      ap (time_grid a.num_time_slots) (sym (viewed _ _ _ _ _ x)) ∙ e,
    )

pub overflow_cast-begin : goal.overflow_cast-begin
overflow_cast-begin c = let t = times (goal.at.overflow_cast-begin c).In_ok-time in omega (arith, t.few)

pub overflow_add-begin : goal.overflow_add-begin
overflow_add-begin c = let t = times (goal.at.overflow_add-begin c).In_ok-time in omega (arith, t.few, t.border 0 (omega arith), t.ends)

pub overflow_cast-begin-2 : goal.overflow_cast-begin-2
overflow_cast-begin-2 c = let t = times (goal.at.overflow_cast-begin-2 c).In_ok-time in record { sfits = omega (arith, t.few, t.border 0 (omega arith), t.ends) }

pub returns-then-carried-begin : goal.returns-then-carried-begin
returns-then-carried-begin c =
    let a = c.args in
    let t = times (goal.at.returns-then-carried-begin c).In_ok-time in
    let b = t.border 0 (omega arith) in
    let k = get_or t.times.t_e 0 0 + a.num_time_slots in
    let no : is_number a.carried.border k ≡ false =
    sym (number_bits a.carried.border k (search rules) (omega (arith, t.few, t.ends))) ∙ ne_eqb _ _ (λ e. c.if-carried-begin.true (rw b e))
    in
    rw (record_read _ _ _ _ _ a.carried t.got, t.is, meets_not _ a.carried _ _ t.times no)

pub overflow_sub-result : goal.overflow_sub-result
overflow_sub-result c = (times (goal.at.overflow_sub-result c).In_ok-time).left

pub overflow_add-result : goal.overflow_add-result
unfolding end_of
overflow_add-result c =
    let t = times (goal.at.overflow_add-result c).In_ok-time in
    omega (arith, t.left, t.wide, c.ranges.pos)

pub left_by-requires : goal.left_by-requires
left_by-requires c =
    let t = times (goal.at.left_by-requires c).In_ok-time in
    rw t.time (t.leaves.few, omega (arith, t.leaves.small))

pub returns : goal.returns
returns c =
    let a = c.args in
    let t = times (goal.at.returns c).In_ok-time in
    let b = t.border 0 (omega arith) in
    let k = get_or t.times.t_e 0 0 + a.num_time_slots in
    let so : is_number a.carried.border k ≡ true =
    sym (number_bits a.carried.border k (search rules) (omega (arith, t.few, t.ends))) ∙ eq-eqb _ _ (rw b at c.if-carried-begin.false)
    in
    let q = a.pos + ((window_of a.buf.now a.pos).width - length t.got.rest) in
    rw (record_read _ _ _ _ _ a.carried t.got, t.is, meets_so _ a.carried _ _ t.times so)
    (handed_out (frame_of a.carried.attack t.got.grid q t.times) _ _ _ _ _
    (ap (λ (y : Parsed). y.grid) t.got.record_is)
    t.time
    refl
    (omega (arith, t.wide, t.rest))
    (c.left_by.ensures ∙ ap left_by t.time ∙ t.leaves.is))
