use Rattle.std.proofs.Common.{refl, arith}
use Rattle.sbr_bands.proofs.TableLaws.{marks_none, marks_all}
use Rattle.sbr_bands.proofs.marks.Goals as goal

pub loop-b-init : goal.loop-b-init
loop-b-init c = (refl, marks_none c.args.table.now)

pub returns : goal.returns
returns c = marks_all _ _ _ (omega arith) c.loop-b.invariant.1
