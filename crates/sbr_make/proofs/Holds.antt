-- The bytes of a stream hold its bits.
use mathlib.Core.Path.{◌≡◌, refl, ◌∙◌}
use mathlib.Core.Bool.{Bool}
use mathlib.Core.List.{List, [], ◌∷◌}
use Prim.Native.Nat.{ℕ, ◌+◌, ◌*◌, ◌/◌, ◌≤◌, ◌<◌}
use native.Mathlib.Nat.{zero-add}
use native.Mathlib.Omega.{arith}
use lib.ListN.{length, take}
use lib.Seq.{get_or-take, length-take-le}
use Rattle.bits.specs.Bits.{get_bit, bits_at, put_bits}
use Rattle.bits.specs.Room.{end_of, bits_from, Holds}
use Rattle.bits.proofs.Stream.{bits_alike}
use Rattle.bits.proofs.After.{length-put_bits, put_leaves}
use Rattle.bits.proofs.Held.{holds_read}
use Rattle.sbr_make.specs.Making.{most_bytes}

-- a bit of the first k bytes
cut : (k : ℕ) (l : List ℕ) (i : ℕ) → i / 8 < k → get_bit (take k l) i ≡ get_bit l i
unfolding get_bit
cut k l i h = rw (get_or-take k l (i / 8) 0 h)

-- bits that were put are held by the bytes up to their last one
pub put_holds : (l : List ℕ) (bs : List Bool) → length bs ≤ 8 * length l → length l ≤ most_bytes
    → Holds (take ((length bs + 7) / 8) (put_bits l 0 bs)) 0 bs
unfolding end_of bits_at
put_holds l [] h f = (bits_from (take 0 (put_bits l 0 [])) 0, refl)
put_holds l (b ∷ bs) h f =
    let n = length (b ∷ bs) in
    let k = (n + 7) / 8 in
    let m = put_bits l 0 (b ∷ bs) in
    let e = length-take-le k m (omega (arith, length-put_bits l 0 (b ∷ bs))) in
    holds_read (take k m) 0 (b ∷ bs) (omega (arith, e))
    (bits_alike m (take k m) 0 n (λ i a c. cut k m i (omega arith))
    ∙ (put_leaves l 0 (b ∷ bs) (omega arith) (omega (arith, zero-add n))).bits)
