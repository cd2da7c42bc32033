use Rattle.std.proofs.Common.{arith, drop, length-drop, get_or}
use lib.Seq.{take_all}
use Rattle.sbr_list.proofs.Lines.{decimal_is, spaced_none, spaced_some}
use Rattle.sbr_list.proofs.text.Line.numbers.Goals as goal

pub returns-in-empty : goal.returns-in-empty
returns-in-empty c = spaced_none _ _ (omega arith) c.args.self.few

pub returns-in-len1-up : goal.returns-in-len1-up
returns-in-len1-up c =
    let t = c.args.numbers.now in
    spaced_some _ _ _ _ _ c.in-len1-up.len_at_least (take_all _ (drop 1 t) (omega (arith, length-drop 1 t)))
    (rw (decimal_is (get_or t 0 0) (omega (arith, c.requires 0))) at c.number.ensures) c.others.ensures
