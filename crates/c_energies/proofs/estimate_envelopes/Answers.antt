-- `c_energies::estimate_envelopes` meets its contract.
use mathlib.Core.Path.{sym, ap, ◌∙◌}
use lib.ListN.{length}
use Rattle.sbr_grid.proofs.Outcomes.{passed_on, map_refused, map_answered}
use Rattle.sbr_envelopes.specs.Envelopes.{energies, numbers_after}
use Rattle.c_values.proofs.Answers.{leaves-refused, leaves-answered}
use Rattle.c_bits.proofs.Laws.{is_formed}
use Rattle.c_energies.specs.Energies.{energy_out}
use Rattle.c_energies.proofs.Same.{energy_same}
use Rattle.c_energies.proofs.estimate_envelopes.Goals as goal

pub returns-in_err-n : goal.returns-in_err-n
returns-in_err-n c =
    let a = c.args in
    let slots = sym c.is_slot_count.ensures ∙ c.if-not-is_slot_count.false in
    let formed = is_formed _ (λ g. energies a.num_time_slots a.tables.high.now a.tables.low.now a.samples.now g (length a.out.now)) c.in_ok-grid.grid (energy_same _ _ _ _ _) _ c.in_ok-grid.ensures in
    let o = map_refused length _ c.in_err-n.field-0.0 c.in_err-n.ensures.answer in
    let m = c.estimate_envelopes.ensures.numbers ∙ ap (numbers_after a.out.now) o in
    rw (slots, m) (leaves-refused (energy_out a.out.now) _ _ _ (passed_on _ _ c.from_residual-in_err-n.ensures.1) (formed ∙ o))

pub returns : goal.returns
returns c =
    let a = c.args in
    let slots = sym c.is_slot_count.ensures ∙ c.if-not-is_slot_count.false in
    let formed = is_formed _ (λ g. energies a.num_time_slots a.tables.high.now a.tables.low.now a.samples.now g (length a.out.now)) c.in_ok-grid.grid (energy_same _ _ _ _ _) _ c.in_ok-grid.ensures in
    let o = map_answered length _ c.in_ok-n.n c.in_ok-n.ensures.answer in
    let m = c.estimate_envelopes.ensures.numbers ∙ ap (numbers_after a.out.now) o.1.0 in
    rw slots (leaves-answered (energy_out a.out.now) _ o.0 _ (formed ∙ o.1.0) (λ i. (m i, o.1.1 i)))
