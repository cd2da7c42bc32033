-- `sbr_make::Frames::name_frame` meets its contract.
use Rattle.std.proofs.Common.{◌≡◌, Ok, pos, ◌-◌, length, get_or, sym, ap, ◌∙◌, arith, rules, w32}
use lib.IntN.{nat_abs}
use mir.ValLaws.{to_z-of_z}
use Rattle.sbr_grid.specs.Refusals.{result_map, value_or}
use Rattle.sbr_grid.specs.Grid.{Grid, view_of, record_of}
use Rattle.sbr_grid.proofs.Outcomes.{map_answered}
use Rattle.sbr_writer.specs.Write.{writable}
use Rattle.sbr_named.specs.Shapes.{named_grid}
use Rattle.sbr_named.proofs.Signed.{border_at}
use Rattle.sbr_make.specs.Making.{add_frame, add_chosen, name_frame}
use Rattle.sbr_make.specs.Code.{making_of}
use Rattle.sbr_make.proofs.Named.{Choice, choice, border_pos, frame_as}
use Rattle.sbr_make.proofs.Frames.name_frame.Goals as goal
use Rattle.sbr_make.proofs.Frames.name_frame.Goals.{In_ok-grid, After-unsigned_abs-last, After-add_frame}

-- the grid that was chosen
given : (c : In_ok-grid) → (g : Grid) × ((named_grid c.self.inside.num_time_slots c.args.borders.now c.args.flags.now c.args.mark ≡ Ok g) × (c.in_ok-grid.grid ≡ record_of g))
given c = map_answered record_of _ _ (rw (to_z-of_z w32 _ c.ranges.mark) at c.in_ok-grid.ensures)

-- it is a choice
got : (c : In_ok-grid) → Choice c.args.borders.now (given c).0
got c = choice _ _ _ _ (given c).0 (given c).1.0

-- and the view of the record that is handed out
viewed : (c : In_ok-grid) → view_of c.in_ok-grid.grid ≡ (given c).0
viewed c = ap view_of (given c).1.1 ∙ (got c).kept

-- its first and its last border
first_is : (c : After-unsigned_abs-last) → c.unsigned_abs-first.result ≡ nat_abs (get_or c.args.borders.now 0 (pos 0))
first_is c = rw (to_z-of_z w32 (get_or c.args.borders.now 0 (pos 0)) (record { sfits = search rules })) at c.unsigned_abs-first.ensures.value

last_is : (c : After-unsigned_abs-last) → let bs = c.args.borders.now in c.unsigned_abs-last.result ≡ nat_abs (get_or bs (length bs - 1) (pos 0))
last_is c =
    let bs = c.args.borders.now in
    rw (to_z-of_z w32 (get_or bs (length bs - 1) (pos 0)) (record { sfits = search rules })) at c.unsigned_abs-last.ensures.value

pub bounds-borders-0 : goal.bounds-borders-0
bounds-borders-0 c = let f = got c in omega arith

pub overflow_sub-borders : goal.overflow_sub-borders
overflow_sub-borders c = let f = got (goal.at.overflow_sub-borders c).In_ok-grid in omega arith

pub bounds-borders-borders : goal.bounds-borders-borders
bounds-borders-borders c = let f = got (goal.at.bounds-borders-borders c).In_ok-grid in omega arith

pub add_frame-requires : goal.add_frame-requires
add_frame-requires c =
    let d = (goal.at.add_frame-requires c).In_ok-grid in
    let e = (goal.at.add_frame-requires c).After-unsigned_abs-last in
    let bs = c.args.borders.now in
    record {
      fits = ap writable (viewed d) ∙ (got d).fits;
      low = rw (first_is e) (border_at bs 0 (got d).borders).low;
      near = rw (last_is e) (border_at bs (length bs - 1) (got d).borders).low;
    }

-- the frame that was added is the one that is named
named : (c : After-add_frame) → let a = c.args in
    add_frame a.self.now (pos c.unsigned_abs-first.result) (pos c.unsigned_abs-last.result) (view_of c.in_ok-grid.grid)
    ≡ name_frame a.self.now a.borders.now a.flags.now a.mark
named c =
    let d = (goal.at.returns c).In_ok-grid in
    let e = (goal.at.returns c).After-unsigned_abs-last in
    let a = c.args in
    let bs = a.borders.now in
    let m = making_of c.self.inside in
    ap (λ n. add_frame n (pos c.unsigned_abs-first.result) (pos c.unsigned_abs-last.result) (view_of c.in_ok-grid.grid)) (sym c.self.view_is)
    ∙ frame_as m _ _ _ _ _ _ (ap pos (first_is e) ∙ border_pos bs 0 (got d).borders) (ap pos (last_is e) ∙ border_pos bs (length bs - 1) (got d).borders) (viewed d)
    ∙ ap (add_chosen m bs) (sym (given d).1.0)
    ∙ ap (λ n. name_frame n bs a.flags.now a.mark) c.self.view_is

pub returns : goal.returns
returns c = record {
  answer = c.add_frame.ensures.answer ∙ ap (result_map (λ m. tt)) (named c);
  frames = c.add_frame.ensures.frames ∙ ap (value_or (λ m. m) c.args.self.now) (named c);
}
