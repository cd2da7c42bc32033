-- Each place has the list's item or the fill, and no call changes what the next one sees.
use Rattle.std.proofs.Common.{rules}
use Rattle.sbr_grid.proofs.Made.{made_first}
use Rattle.sbr_grid.proofs.padded.Goals as goal

pub returns : goal.returns
returns g c = made_first _ _ c.args.fill c.args.items.now (λ i y f k. search rules) _ _ c.from_fn.ensures.items
