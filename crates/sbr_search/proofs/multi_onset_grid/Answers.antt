use Rattle.std.proofs.Common.{true, false, sym, ap, ◌∙◌}
use Rattle.std.specs.Option.{option_map}
use Rattle.sbr_grid.specs.Grid.{record_of}
use Rattle.sbr_borders.specs.Wanted.{wanted_list}
use Rattle.sbr_search.proofs.Bare.{alone, chosen}
use Rattle.sbr_search.proofs.multi_onset_grid.Goals as goal
use Rattle.sbr_search.proofs.multi_onset_grid.Goals.{then-is_cheaper+else-plain_wins, else-is_cheaper}

pub returns-then-plain_wins : goal.returns-then-plain_wins
returns-then-plain_wins c =
    let a = c.args.attacks in
    let u = c.isolated_borders-with_isolating in
    let w = c.bare_borders-without in
    c.planned_grid.ensures
    ∙ ap (option_map record_of)
    (chosen a.frame.nts a.frame.lead a.onsets (wanted_list u.result) (wanted_list w.result) _ _ true a.some u.ensures w.ensures
    c.varvar_from_borders-isolated.ensures c.varvar_from_borders-plain.ensures (sym (c.plain_wins.ensures _ _) ∙ c.if-plain_wins.true))

pub returns : goal.returns
returns c =
    let a = c.args.attacks in
    let u = c.isolated_borders-with_isolating in
    c.planned_grid-2.ensures
    ∙ ap (option_map record_of)
    (elim c.if-is_cheaper.branch [
      | then-is_cheaper+else-plain_wins w ↦
          chosen a.frame.nts a.frame.lead a.onsets (wanted_list u.result) (wanted_list w.bare_borders-without.result) _ _ false a.some u.ensures
          w.bare_borders-without.ensures c.varvar_from_borders-isolated.ensures w.varvar_from_borders-plain.ensures
          (sym (w.plain_wins.ensures _ _) ∙ w.if-plain_wins.false)
      | else-is_cheaper w ↦
          alone a.frame.nts a.frame.lead a.onsets (wanted_list u.result) _ a.some u.ensures c.varvar_from_borders-isolated.ensures
          (sym (c.is_cheaper.ensures _) ∙ w.if-is_cheaper.false)
    ])
