use Rattle.std.proofs.Common.{pos, nat_abs, ◌≡◌, length, map}
use mathlib.Core.Path.{sym, ap, ◌∙◌}
use lib.ListN.{length-map, get_or-map}
use native.Mathlib.Omega.{arith}
use Rattle.std.proofs.lemmas.List.{ext_get_or}
use Rattle.sbr_grid.proofs.First.{first_map, first-length}
use Rattle.sbr_named.proofs.border_places.Goals as goal

pub returns : goal.returns
returns c =
    let e = c.map.ensures.items in
    let n : length c.padded.result ≡ 6 = rw c.padded.ensures (first-length (pos 0) 6 c.args.borders.now) in
    let same : c.map.result ≡ map nat_abs c.padded.result =
    ext_get_or 0 _ _ (e.long ∙ sym (length-map c.padded.result nat_abs ∙ n)) (λ i h. (e.at i (pos 0) 0 (omega (arith, e.long))).2.met.0 ∙ sym (get_or-map nat_abs c.padded.result i (pos 0))) in
    same ∙ ap (map nat_abs) c.padded.ensures ∙ first_map nat_abs (pos 0) 6 c.args.borders.now
