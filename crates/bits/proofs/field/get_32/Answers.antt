-- `bits::field::get_32` meets its contract.
use Rattle.bits.proofs.Turns.{get_five}
use native.Mathlib.Omega.{arith}
use Rattle.bits.proofs.field.get_32.Goals as goal

pub returns : goal.returns
returns c =
    let a = c.args in
    rw c.from_be_bytes-five.ensures (get_five a.buf.now a.pos (λ j. omega (arith, c.type_inv.buf j)))
