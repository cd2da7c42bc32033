use Rattle.sbr_list.proofs.Lines.{then, decimal_is}
use Rattle.sbr_list.proofs.Whole.{number_few, refusal_whole}
use Rattle.sbr_list.proofs.text.refusal_line.Goals as goal

pub returns : goal.returns
returns c =
    let n = rw (c.new.ensures, decimal_is c.args.i c.requires) at c.number.ensures in
    let a = then _ _ _ _ _ n c.text.ensures in
    let b = then _ _ _ _ _ a (rw (decimal_is c.from.result (number_few c.args.why c.from.result c.from.ensures)) at c.number-2.ensures) in
    refusal_whole _ _ c.args.why _ c.from.ensures (then _ _ _ _ _ b c.end.ensures)
