-- `bits::field::put` meets its contract. The invariant: to put what is left from here gives what is to be put in all.
use mathlib.Core.Path.{sym, ◌∙◌}
use lib.ListN.{length-set}
use Rattle.bits.specs.Room.{end_of}
use Rattle.bits.proofs.Turns.{put_turn, put_done}
use native.Mathlib.Omega.{arith}
use Rattle.bits.proofs.field.put.Goals as goal

pub loop-k-preserved : goal.loop-k-preserved
unfolding end_of
loop-k-preserved c =
    let s = c.loop-k in
    let a = c.args in
    let n = c.in_byte-n.result in
    (omega arith, omega arith, simp length-set (omega arith), rw (c.with_field.ensures, c.below-low.ensures) (sym (put_turn s.buf s.at n s.k a.value (omega arith) (omega arith) (omega arith) (omega arith)) ∙ s.invariant.3))

pub returns : goal.returns
returns c = let s = c.loop-k in cc (put_done s.buf s.at s.k c.args.value (omega arith))
