use Rattle.std.proofs.Common.{◌∙◌}
use Rattle.sbr_search.proofs.Bounds.{bounds}
use Rattle.sbr_choice.specs.Choice.{attack_grid}
use Rattle.sbr_choice.proofs.ChoiceCases.{solved_three, solved_two, no_three, found, passed}
use Rattle.sbr_choice.proofs.attack_grid.Goals as goal

pub returns-in-Some : goal.returns-in-Some
unfolding attack_grid
returns-in-Some c =
    let a = c.args.attacks in
    let f = found _ _ _ c.solver.ensures c.in-Some.is in
    rw (solved_three a.frame.lead a.frame.nts a.onsets (bounds _ _ a.onsets a.case).few ∙ f.1) f.2

pub returns-in-Some-double_first : goal.returns-in-Some-double_first
unfolding attack_grid
returns-in-Some-double_first c =
    let a = c.args.attacks in
    let few = (bounds _ _ a.onsets a.case).few in
    let three = no_three a.frame.lead a.frame.nts a.onsets _ few c.solver.ensures c.in_default.is in
    let f = found _ _ _ c.double_first.ensures c.in-Some-double_first.is in
    rw (three, f.1) f.2

pub returns-in-Some-solver : goal.returns-in-Some-solver
unfolding attack_grid
returns-in-Some-solver c =
    let a = c.args.attacks in
    let few = (bounds _ _ a.onsets a.case).few in
    let three = no_three a.frame.lead a.frame.nts a.onsets _ few c.solver.ensures c.in_default.is in
    let double = passed _ _ c.double_first.ensures c.in_default-double_first.is in
    let f = found _ _ _ c.solver-2.ensures c.in-Some-solver.is in
    rw (three, double, solved_two a.frame.lead a.frame.nts a.onsets few three ∙ f.1) f.2

pub returns : goal.returns
unfolding attack_grid
returns c =
    let a = c.args.attacks in
    let few = (bounds _ _ a.onsets a.case).few in
    let three = no_three a.frame.lead a.frame.nts a.onsets _ few c.solver.ensures c.in_default.is in
    let double = passed _ _ c.double_first.ensures c.in_default-double_first.is in
    let two = solved_two a.frame.lead a.frame.nts a.onsets few three ∙ passed _ _ c.solver-2.ensures c.in_default-solver.is in
    rw (three, double, two) (rw (c.first_attack.ensures.0, c.first_attack.ensures.1) at c.single_grid.ensures)
