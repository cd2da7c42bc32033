-- `bits::field::get` meets its contract. The invariant: the number so far, with the bits that are left, is the number of them all.
use mathlib.Core.Path.{◌≡◌}
use Prim.Native.Nat.{◌+◌, ◌^◌, ◌≤◌, ◌<◌, ◌-◌}
use Rattle.bits.specs.Bits.{bits_at, num_from, num_of}
use Rattle.bits.proofs.field.get.Given as goal

abbrev pub invariant-loop-k : goal.invariant-loop-k
invariant-loop-k l =
    (l.at + l.k ≡ l.pos + l.width) × (l.k ≤ l.width) × (l.v < 2 ^ (l.width - l.k)) × (num_from l.v (bits_at l.buf l.at l.k) ≡ num_of (bits_at l.buf l.pos l.width))

abbrev pub decreases-loop-k : goal.decreases-loop-k
decreases-loop-k l = l.k
