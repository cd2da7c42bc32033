use Rattle.std.proofs.Common.{ap, ◌∙◌}
use Rattle.std.specs.Option.{unwrap_or}
use Rattle.sbr_borders.proofs.Walks.{last_is}
use Rattle.sbr_borders.proofs.last_border.Goals as goal

pub returns : goal.returns
returns c =
    let l = c.args.lead in
    c.unwrap_or.ensures ∙ ap (λ o. unwrap_or o l) (c.copied.ensures ∙ c.last.ensures.value) ∙ last_is l c.args.borders.now
