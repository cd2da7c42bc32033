use Rattle.std.proofs.Common.{◌≡◌, cond}
use Rattle.sbr_choice.proofs.ChoiceCases.{chosen_none, chosen_some}
use Rattle.sbr_choice.proofs.choose_grid.Goals as goal
use Rattle.sbr_choice.proofs.choose_grid.Goals.{then-even, else-even}

pub returns-then-onsets-eq0 : goal.returns-then-onsets-eq0
returns-then-onsets-eq0 c =
    let a = c.args in
    -- the count of envelopes where there is no onset
    let count : c.if-even.num_env ≡ cond a.even 1 2 = elim c.if-even.branch [ then-even w ↦ rw w.if-even.true w.num_env-is | else-even w ↦ rw w.if-even.false w.num_env-is ] in
    rw (chosen_none a.variable_borders a.even a.frame.lead a.frame.nts a.onsets c.if-onsets-eq0.true, ← count) c.plain_grid.ensures

pub returns-then-variable_borders : goal.returns-then-variable_borders
returns-then-variable_borders c =
    let a = c.args in
    rw (chosen_some a.variable_borders a.even a.frame.lead a.frame.nts a.onsets c.if-onsets-eq0.false, c.if-variable_borders.true) c.attack_grid.ensures

pub returns : goal.returns
returns c =
    let a = c.args in
    rw (chosen_some a.variable_borders a.even a.frame.lead a.frame.nts a.onsets c.if-onsets-eq0.false, c.if-variable_borders.false) c.plain_grid-2.ensures
