use Rattle.std.proofs.Common.{sym, ap, ◌∙◌, arith}
use Rattle.std.specs.Option.{option_map}
use Rattle.sbr_grid.specs.Grid.{first}
use Rattle.sbr_search.proofs.TryEnds.{search_begin, search-next, search-last, search-end}
use Rattle.sbr_search.proofs.varvar_from_borders.Goals as goal

pub loop-tried-init : goal.loop-tried-init
loop-tried-init c =
    let w = c.args.w.now in
    (omega arith, search_begin _ _ w.count 4 w.border)

pub returns-in-None : goal.returns-in-None
returns-in-None c =
    let e = sym (ap (option_map (first 0 c.args.w.now.count)) c.in-None.is) ∙ rw (c.borders.ensures.1, c.borders.ensures.0) at c.next_shifts.ensures.value in
    search-last 24 _ _ _ _ _ _ _ _ (omega arith) c.try_shifts-best.ensures e c.loop-tried.invariant.1

pub loop-tried-preserved : goal.loop-tried-preserved
loop-tried-preserved c =
    let e = sym (ap (option_map (first 0 c.args.w.now.count)) c.in-Some.is) ∙ rw (c.borders.ensures.1, c.borders.ensures.0) at c.next_shifts.ensures.value in
    (omega arith, search-next 24 _ _ _ _ _ _ _ _ _ (omega arith) c.try_shifts-best.ensures e c.loop-tried.invariant.1)

pub returns : goal.returns
returns c = search-end 24 _ _ _ _ _ _ _ (omega arith) c.loop-tried.invariant.1
