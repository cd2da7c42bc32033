-- `bits::field::put` meets its contract. The invariant: to put what is left from here gives what is to be put in all.
use mathlib.Core.Path.{◌≡◌}
use Prim.Native.Nat.{◌+◌, ◌≤◌}
use lib.ListN.{length}
use Rattle.bits.specs.Bits.{put_bits, bits_of}
use Rattle.bits.proofs.field.put.Given as goal

abbrev pub invariant-loop-k : goal.invariant-loop-k
invariant-loop-k l =
    (l.at + l.k ≡ l.pos + l.width) × (l.k ≤ l.width) × (length l.buf ≡ length l.initial.buf)
    × (put_bits l.buf l.at (bits_of l.k l.value) ≡ put_bits l.initial.buf l.pos (bits_of l.width l.value))

abbrev pub decreases-loop-k : goal.decreases-loop-k
decreases-loop-k l = l.k
