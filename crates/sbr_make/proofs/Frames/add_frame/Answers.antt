-- `sbr_make::Frames::add_frame` meets its contract.
use Rattle.std.proofs.Common.{◌≡◌, Ok, pos, true, ◌||◌, ◌+◌, eqb, length, sym, ap, subst, ◌∙◌, arith}
use borrow.Author.Tests.{eq-eqb, ne_eqb}
use Rattle.bits.specs.Bits.{put_bits}
use Rattle.sbr_grid.specs.Refusals.{result_map, value_or}
use Rattle.sbr_grid.specs.Grid.{Grid, view_of}
use Rattle.sbr_writer.specs.Syntax.{grid_bits}
use Rattle.sbr_make.specs.Making.{Making, add_frame}
use Rattle.sbr_make.specs.Code.{making_of, InRoom}
use Rattle.sbr_make.proofs.Rooms.{more, wrote, more_room, more_is, adds}
use Rattle.sbr_make.proofs.Frames.add_frame.Goals as goal
use Rattle.sbr_make.proofs.Frames.add_frame.Goals.{After-write_grid, After-from_residual, After-saturating_sub-self-inside, else-self-ne0-via-then-self-ne0+else-first-self, else-self-ne0-via-else-self-ne0, then-self-eq0, else-self-eq0}

-- the frames so far, and the grid
abbrev so_far : After-write_grid → Making
so_far c = making_of c.self.inside

abbrev grid_at : After-write_grid → Grid
grid_at c = view_of c.args.grid

-- what was written
written : (c : After-write_grid) → let m = so_far c in let bs = grid_bits (grid_at c) in
    (c.write_grid.result ≡ Ok (m.position + length bs)) × (c.write_grid.new.buf ≡ put_bits m.bytes m.position bs)
written c =
    let w = wrote (so_far c) c.self.invariant (grid_at c) c.requires.fits (omega arith) in
    (rw w at c.write_grid.ensures.answer, rw w at c.write_grid.ensures.bytes)

-- the frame meets the one before it
meets : (c : After-write_grid) → let f = c.self.inside in (eqb f.count 0 || eqb c.args.first f.next) ≡ true
meets c = elim c.else-self-ne0.branch [
  | else-self-ne0-via-then-self-ne0+else-first-self w ↦
      let e : c.args.first ≡ c.self.inside.next = w.if-first-self.false in rw (ne_eqb _ _ w.if-self-ne0.true, eq-eqb _ _ e)
  | else-self-ne0-via-else-self-ne0 w ↦ rw (eq-eqb _ _ w.if-self-ne0.false)
]

-- what is made
made : (c : After-saturating_sub-self-inside) → let s = c.if-self-eq0.self-inside in
    making_of (record {
      num_time_slots = s.num_time_slots;
      count = s.count + 1;
      begin = s.begin;
      next = c.saturating_sub-self-inside.result;
      bytes = s.bytes;
      position = s.position;
    })
    ≡ more (making_of c.self.inside) c.args.first c.args.last (view_of c.args.grid)
made c =
    let f = c.self.inside in
    let g = view_of c.args.grid in
    let w = wrote (making_of f) c.self.invariant g c.requires.fits (omega arith) in
    let l = rw w at c.write_grid.ensures.bytes in
    let q : c.in_ok-self-inside.field-0 ≡ f.position + length (grid_bits g) = cc (rw w at c.write_grid.ensures.answer, c.in_ok-self-inside.was) in
    elim c.if-self-eq0.branch [
      | then-self-eq0 v ↦ more_is f _ c.args.first c.args.last g _ _ _ _ v.self-inside-is (rw (eq-eqb _ _ v.if-self-eq0.true)) c.saturating_sub-self-inside.ensures q l
      | else-self-eq0 v ↦ more_is f _ c.args.first c.args.last g _ _ _ _ v.self-inside-is (rw (ne_eqb _ _ v.if-self-eq0.false)) c.saturating_sub-self-inside.ensures q l
    ]

-- the writer does not refuse it
not_refused : (c : After-from_residual) → ⊥
not_refused c =
    let w = written (goal.at.returns-in_err-self-inside c).After-write_grid in
    cc (w.0, c.in_err-self-inside.was)

pub returns-in_err-self-inside : goal.returns-in_err-self-inside
returns-in_err-self-inside c = absurd (not_refused c)

pub invariant_of-self : goal.invariant_of-self
invariant_of-self c = absurd (not_refused c)

pub invariant_of-self-2 : goal.invariant_of-self-2
invariant_of-self-2 c =
    let e = made (goal.at.invariant_of-self-2 c).After-saturating_sub-self-inside in
    let d = (goal.at.invariant_of-self-2 c).After-write_grid in
    subst InRoom (sym e) (more_room (so_far d) d.self.invariant (grid_at d) c.requires.fits (omega arith) c.args.first c.args.last c.requires.low c.requires.near)

pub returns : goal.returns
returns c =
    let d = (goal.at.returns c).After-write_grid in
    let a = c.args in
    let e = ap (λ m. add_frame m (pos a.first) (pos a.last) (grid_at d)) (sym c.self.view_is)
    ∙ adds (so_far d) a.first a.last (grid_at d) (meets d) (omega arith) in
    record {
      answer = sym (ap (result_map (λ m. tt)) e);
      frames = made (goal.at.returns c).After-saturating_sub-self-inside ∙ sym (ap (value_or (λ m. m) a.self.now) e);
    }
