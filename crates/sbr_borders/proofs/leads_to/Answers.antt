use Rattle.std.proofs.Common.{refl, sym, ap, ◌∙◌, arith}
use Rattle.sbr_borders.specs.Borders.{all_even}
use Rattle.sbr_borders.proofs.Walks.{up, walk-next, walk-stop, walk_end, up_steps, even_walk}
use Rattle.sbr_borders.proofs.leads_to.Goals as goal

pub loop-b-init : goal.loop-b-init
loop-b-init c = let a = c.args in record { size = refl; rest = sym (ap all_even (up_steps a.lead a.borders.now) ∙ even_walk up a.lead a.borders.now) }

pub returns-then-not-even_ok : goal.returns-then-not-even_ok
returns-then-not-even_ok c =
    walk-stop c.loop-b.invariant _ c.loop-b-test.true refl (sym (rw c.saturating_sub.ensures at c.even_ok.ensures) ∙ c.if-not-even_ok.true)

pub loop-b-preserved : goal.loop-b-preserved
loop-b-preserved c =
    walk-next c.loop-b.invariant _ c.loop-b-test.true refl (sym (rw c.saturating_sub.ensures at c.even_ok.ensures) ∙ c.if-not-even_ok.false)

pub returns : goal.returns
returns c = walk_end c.loop-b.invariant (omega arith)
