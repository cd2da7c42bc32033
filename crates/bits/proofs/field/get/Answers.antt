-- `bits::field::get` meets its contract. The invariant: the number so far, with the bits that are left, is the number of them all.
use mathlib.Core.Path.{◌≡◌, sym, ◌∙◌}
use Prim.Native.Nat.{◌+◌, ◌*◌, ◌%◌, ◌^◌, ◌<◌, ◌-◌}
use native.Mathlib.Nat.{sub-zero, mod-lt, lt_of_lt_of_le}
use lib.Pow.{pow_pos, pow_mono, shl_exact}
use Rattle.bits.proofs.Turns.{get_turn, get_done, grows}
use native.Mathlib.Omega.{arith}
use Rattle.bits.proofs.field.get.Goals.{After-field_of}
use Rattle.bits.proofs.field.get.Goals as goal

-- a field of n bits is below 2 ^ n
small : (c : After-field_of) → c.field_of.result < 2 ^ c.in_byte-n.result
small c = rw c.field_of.ensures (mod-lt _ (pow_pos _))

-- the shift drops no bit of the number so far, which with the field behind it has as many bits as were taken
grown : (c : After-field_of)
    → let s = c.loop-k in
    let n = c.in_byte-n.result in
    (s.v * 2 ^ n % 2 ^ 32 ≡ s.v * 2 ^ n) × (s.v * 2 ^ n + c.field_of.result < 2 ^ (c.args.width - (s.k - n)))
grown c =
    let s = c.loop-k in
    let n = c.in_byte-n.result in (
      shl_exact (c.args.width - s.k) n 32 s.invariant.2 (omega arith),
      grows s.v c.field_of.result n s.k c.args.width (omega arith) (omega arith) s.invariant.2 (small c),
    )

pub overflow_add-v : goal.overflow_add-v
overflow_add-v c =
    let g = grown (goal.at.overflow_add-v c).After-field_of in
    rw g.0 (record { fits = lt_of_lt_of_le g.1 (pow_mono {j = 32} (omega arith)) })

pub loop-k-preserved : goal.loop-k-preserved
loop-k-preserved c =
    let s = c.loop-k in
    let a = c.args in
    let n = c.in_byte-n.result in
    let g = grown (goal.at.loop-k-preserved c).After-field_of in
    rw g.0 (
      omega arith,
      omega arith,
      g.1,
      rw (c.field_of.ensures, c.below-low.ensures)
          (sym (get_turn a.buf.now s.v s.at n s.k (omega arith) (omega arith)) ∙ s.invariant.3),
    )

pub returns : goal.returns
returns c =
    let s = c.loop-k in
    let e : s.k ≡ 0 = omega arith in
    (cc (get_done c.args.buf.now s.v s.at s.k e), rw (e, sub-zero) at s.invariant.2)
