use mathlib.Core.Path.{sym, ◌∙◌}
use mathlib.Core.Bool.{and-eq-true_iff}
use native.Mathlib.Omega.{arith}
use mir.Syntax.{w32}
use mir.ValLaws.{to_z-of_z}
use Rattle.sbr_grid.specs.Grid.{view_of}
use Rattle.sbr_grid.proofs.Laws.{lengths}
use Rattle.sbr_grid.proofs.Slots.{slots_few}
use Rattle.sbr_time_grid.specs.TimeGrid.{time_grid}
use Rattle.sbr_time_grid.proofs.Laws.{fit}
use Rattle.sbr_time_grid.proofs.Answers.{rises-is, all_pass}
use Rattle.sbr_time_grid.proofs.derive_time_grid.Goals as goal

pub returns-then-not-is_slot_count : goal.returns-then-not-is_slot_count
unfolding time_grid
returns-then-not-is_slot_count c = rw (sym c.is_slot_count.ensures ∙ c.if-not-is_slot_count.true)

pub returns-then-not-fits : goal.returns-then-not-fits
unfolding time_grid
returns-then-not-fits c =
    rw (sym c.is_slot_count.ensures ∙ c.if-not-is_slot_count.false, sym c.fits.ensures ∙ c.if-not-fits.true)

pub overflow_cast-frame : goal.overflow_cast-frame
overflow_cast-frame c = omega (arith, slots_few _ (sym c.is_slot_count.ensures ∙ c.if-not-is_slot_count.false))

pub invariant_of-frame : goal.invariant_of-frame
invariant_of-frame c =
    let p = simp and-eq-true_iff at (sym c.fits.ensures ∙ c.if-not-fits.false) in
    let f = fit c.args.grid p.0 in
    let s = slots_few _ (sym c.is_slot_count.ensures ∙ c.if-not-is_slot_count.false) in
    record { some = f.some; few = f.few; used = f.all; few_slots = s }

pub returns-then-not-rises : goal.returns-then-not-rises
unfolding time_grid
returns-then-not-rises c =
    let f = sym c.fits.ensures ∙ c.if-not-fits.false in
    let r = rises-is c.args.num_time_slots c.args.grid c.t_e.new.t c.rises.result f c.t_e.ensures c.rises.ensures in
    rw (sym c.is_slot_count.ensures ∙ c.if-not-is_slot_count.false, f, sym r ∙ c.if-not-rises.true)

pub returns-then-not-noise_fits : goal.returns-then-not-noise_fits
unfolding time_grid
returns-then-not-noise_fits c =
    let f = sym c.fits.ensures ∙ c.if-not-fits.false in
    let r = rises-is c.args.num_time_slots c.args.grid c.t_e.new.t c.rises.result f c.t_e.ensures c.rises.ensures in
    rw (
      sym c.is_slot_count.ensures ∙ c.if-not-is_slot_count.false,
      f,
      sym r ∙ c.if-not-rises.false,
      sym c.noise_fits.ensures ∙ c.if-not-noise_fits.true,
    )

pub returns : goal.returns
returns c =
    let g = c.args.grid in
    let n = c.args.num_time_slots in
    let s = sym c.is_slot_count.ensures ∙ c.if-not-is_slot_count.false in
    let f = sym c.fits.ensures ∙ c.if-not-fits.false in
    let p = simp and-eq-true_iff at f in
    let q = sym c.noise_fits.ensures ∙ c.if-not-noise_fits.false in
    let r = rises-is n g c.t_e.new.t c.rises.result f c.t_e.ensures c.rises.ensures in
    all_pass n (view_of g) g.num_env (lengths g).env (fit g p.0).few q _
    c.t_q.result _ s (rw (f, sym r ∙ c.if-not-rises.false) q)
    c.t_e.ensures c.t_q.ensures (to_z-of_z w32 c.l_a.result (record { sfits = c.l_a.type_inv }) ∙ c.l_a.ensures)
