-- `sbr_writer::code::push_twos` meets its contract.
use Rattle.sbr_writer.proofs.Gather.{packed_twos, behind}
use native.Mathlib.Omega.{arith}
use Rattle.sbr_writer.proofs.code.push_twos.Goals as goal

pub push-requires : goal.push-requires
push-requires c =
    let p = packed_twos c.args.numbers.now c.requires.small (omega arith) in
    (c.requires.space, rw c.joined_twos.ensures p.fits)

pub returns : goal.returns
returns c = behind (packed_twos c.args.numbers.now c.requires.small (omega arith)) (rw c.joined_twos.ensures at c.push.ensures)
