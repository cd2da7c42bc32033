use Rattle.std.proofs.Common.{◌≡◌}
use mathlib.Core.Path.{sym}
use mathlib.Core.Bool.{false}
use native.Mathlib.Omega.{arith}
use lib.ListN.{replicate, length, take}
use Rattle.std.proofs.lemmas.List.{take-replicate, length-take, length-replicate}
use Rattle.sbr_grid.proofs.First.{first_over}
use Rattle.sbr_grid.proofs.same_resolutions.Goals as goal

pub returns : goal.returns
returns c =
    let m = c.args.num_env in
    let k = c.min.result in
    let few : length (take k (replicate 5 false)) ≡ k = rw length-take (omega arith) in
    rw (c.fill.ensures.after (λ y e. e), few, sym (take-replicate k m c.args.high (omega arith)))
    (first_over false 5 k (replicate m c.args.high) (rw length-replicate (omega arith)))
