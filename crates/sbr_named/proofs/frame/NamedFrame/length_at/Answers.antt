use lib.ListN.{length}
use native.Mathlib.Omega.{arith}
use mathlib.Core.Path.{◌∙◌}
use Rattle.sbr_named.proofs.Stored.{lead_place, trail_place, side_past}
use Rattle.sbr_named.proofs.frame.NamedFrame.length_at.Goals as goal

pub returns-then-count-i : goal.returns-then-count-i
returns-then-count-i c = let f = c.args.self.now in side_past c.args.side f.borders.now (length f.freq_res.now) c.args.count c.args.i (omega arith)

pub returns-in-Leading : goal.returns-in-Leading
returns-in-Leading c =
    let f = c.args.self.now in
    rw c.in-Leading.is (c.stored_length.ensures ∙ lead_place f.borders.now (length f.freq_res.now) c.args.count c.args.i (omega arith))

pub returns-in-Trailing : goal.returns-in-Trailing
returns-in-Trailing c =
    let f = c.args.self.now in
    rw c.in-Trailing.is
    (rw (c.saturating_sub.ensures, c.saturating_sub-in-Trailing.ensures) at c.stored_length-in-Trailing.ensures
    ∙ trail_place f.borders.now (length f.freq_res.now) c.args.count c.args.i (omega arith))
