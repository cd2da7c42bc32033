-- `c_values::form::record` meets its contract.
use mathlib.Core.Path.{refl, sym, ◌∙◌}
use lib.ListN.{length-map}
use Rattle.sbr_grid.proofs.First.{first-length}
use Rattle.sbr_grid.proofs.Outcomes.{passed_on}
use Rattle.c_values.proofs.Formed.{not_by_class, by_lists, class_is}
use Rattle.c_values.proofs.form.record.Goals as goal

pub returns-in_err-frame_class : goal.returns-in_err-frame_class
returns-in_err-frame_class c =
    let n = not_by_class c.args.h c.args.rel_bord_0.now c.args.rel_bord_1.now _ c.in_err-frame_class.ensures in
    rw (n.0, passed_on _ _ c.from_residual.ensures.1, n.1) refl

pub returns-then-not-lists_fit : goal.returns-then-not-lists_fit
returns-then-not-lists_fit c =
    let b = by_lists c.args.h c.args.rel_bord_0.now c.args.rel_bord_1.now _ c.in_ok-frame_class.ensures in
    rw (b ∙ sym c.lists_fit.ensures ∙ c.if-not-lists_fit.true) refl

pub returns : goal.returns
returns c =
    let b = by_lists c.args.h c.args.rel_bord_0.now c.args.rel_bord_1.now _ c.in_ok-frame_class.ensures in
    let k = class_is c.args.h c.args.rel_bord_0.now c.args.rel_bord_1.now _ c.in_ok-frame_class.ensures in
    rw (b ∙ sym c.lists_fit.ensures ∙ c.if-not-lists_fit.false, k, c.flags.ensures, c.entries.ensures, c.entries-2.ensures)
    (simp (length-map, first-length))
