-- `bits::field::with_field` meets its contract.
use Rattle.bits.proofs.Bytes.{field_fits}
use native.Mathlib.Omega.{arith}
use Rattle.bits.proofs.field.with_field.Goals as goal

pub overflow_cast-result-2 : goal.overflow_cast-result-2
overflow_cast-result-2 c =
    let a = c.args in
    let f = field_fits a.x a.k a.n a.v (omega arith) c.requires in
    rw f.shifted (record { fits = f.byte })

pub returns : goal.returns
returns c =
    let a = c.args in
    (field_fits a.x a.k a.n a.v (omega arith) c.requires).shifted
