-- `sbr_quantise::quantise` meets its contract.
use Rattle.std.proofs.Common.{refl, sym, ◌∙◌, arith}
use lib.Dec.{lit≤, lit<}
use Rattle.sbr_quantise.proofs.Edges.{coarse_is, fine_is}
use Rattle.sbr_quantise.proofs.Values.{quantised_none, value_some}
use Rattle.sbr_quantise.proofs.quantise.Goals as goal

pub returns-then-amp_res : goal.returns-then-amp_res
returns-then-amp_res c =
    let s = c.scale_of-scaled.ensures in
    rw c.if-amp_res.true
    (c.min.ensures
    ∙ value_some 1 63 c.args.energy _ _ _ _ (lit< tt, lit≤ tt, s.2) c.if-energy.true s.0 (c.edges_attained.ensures ∙ coarse_is _) (omega arith))

pub returns-else-amp_res : goal.returns-else-amp_res
returns-else-amp_res c =
    let s = c.scale_of-scaled.ensures in
    rw c.if-amp_res.false
    (c.min-else-amp_res.ensures
    ∙ value_some 2 127 c.args.energy _ _ _ _ (lit< tt, lit≤ tt, s.2) c.if-energy.true s.0 (c.edges_attained-else-amp_res.ensures ∙ fine_is _) refl)

pub returns-else-energy : goal.returns-else-energy
returns-else-energy c = sym (quantised_none c.args.amp_res c.args.energy c.if-energy.false)
