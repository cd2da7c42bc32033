use Rattle.std.proofs.Common.{arith}
use Rattle.sbr_search.proofs.Bounds.{bounds, second_onset}
use Rattle.sbr_choice.proofs.ChoiceCases.{double_many}
use Rattle.sbr_choice.proofs.double_first.Goals as goal

pub overflow_cast-attacks : goal.overflow_cast-attacks
overflow_cast-attacks c =
    let a = c.args.attacks in
    omega (arith, bounds _ _ a.onsets a.case, second_onset _ _ a.onsets a.case c.if-attacks-lt2.false)

pub double_attack_grid-requires : goal.double_attack_grid-requires
double_attack_grid-requires c =
    let a = c.args.attacks in
    rw (c.first_attack.ensures.0, c.first_attack.ensures.1) (second_onset _ _ a.onsets a.case c.if-attacks-lt2.false)

pub returns : goal.returns
returns c =
    let a = c.args.attacks in
    rw (double_many a.frame.lead a.frame.nts a.onsets c.if-attacks-lt2.false)
    (rw (c.first_attack.ensures.0, c.first_attack.ensures.1) at c.double_attack_grid.ensures)
