-- The bits of a number, and the number of a list of bits.
use mathlib.Core.Path.{◌≡◌, refl, ap, ◌∙◌}
use mathlib.Core.Bool.{Bool, true, false}
use mathlib.Core.List.{List, [], ◌∷◌, ◌++◌}
use Prim.Native.Nat.{ℕ, zero, suc, ◌+◌, ◌-◌, ◌*◌, ◌/◌, ◌%◌, ◌^◌, ◌<◌, ◌≤◌}
use native.Mathlib.Nat.{mod-eq_of_lt, pow-suc, zero-add, suc-add, add_comm}
use native.Mathlib.Numerals.{one-add}
use native.Mathlib.Omega.{arith}
use lib.Dec.{eqb}
use lib.ListN.{length}
use lib.Pow.{high, low, field, shr-shr, mod-pow-add, mod-mod-pow}
use Rattle.bits.specs.Bits.{bit_n, bit_at, bits_of, num_from, num_of}

-- a bit is less than 2
pub bit_lt : (b : Bool) → bit_n b < 2
bit_lt true = omega arith
bit_lt false = omega arith

-- the last binary digit of a number that ends in a bit is that bit
pub last_bit : (y : ℕ) (b : Bool) → eqb ((y * 2 + bit_n b) % 2) 1 ≡ b
last_bit y true = let e : (y * 2 + 1) % 2 ≡ 1 = omega arith in rw e
last_bit y false = let e : (y * 2 + 0) % 2 ≡ 0 = omega arith in rw e

-- a bit as a number
pub bit_num : (v k : ℕ) → bit_n (bit_at v k) ≡ v / 2 ^ k % 2
unfolding bit_at
bit_num v k = go (v / 2 ^ k % 2) (omega arith)
  where
    go : (t : ℕ) → t < 2 → bit_n (eqb t 1) ≡ t
    go zero h = refl
    go (suc zero) h = refl
    go (suc (suc t)) h = absurd (omega arith)

-- a bit of a number without its n low digits
pub bit_high : (v n k : ℕ) → bit_at (v / 2 ^ n) k ≡ bit_at v (n + k)
unfolding bit_at
bit_high v n k = rw (shr-shr v n k)

-- a bit of the k low digits of a number
pub bit_low : (v j k : ℕ) → j < k → bit_at (v % 2 ^ k) j ≡ bit_at v j
unfolding bit_at
bit_low v j k h =
    let e : k ≡ k - suc j + 1 + j = omega arith in
    rw (e, field v (k - suc j + 1) j, mod-mod-pow (v / 2 ^ j) (k - suc j) 1)

-- n low bits are n bits
pub length-bits_of : (n v : ℕ) → length (bits_of n v) ≡ n
unfolding bits_of
length-bits_of zero v = refl
length-bits_of (suc n) v = ap suc (length-bits_of n v)

-- the m low bits stand in the n low digits, m at most n
low_bits : (m n v : ℕ) → m ≤ n → bits_of m (v % 2 ^ n) ≡ bits_of m v
unfolding bits_of
low_bits zero n v h = refl
low_bits (suc m) n v h = rw (bit_low v m n h, low_bits m n v (omega arith))

-- digits above the n lowest do not count
pub bits_of-mod : (n v : ℕ) → bits_of n (v % 2 ^ n) ≡ bits_of n v
bits_of-mod n v = low_bits n n v (omega arith)

-- the bits of a number are those of its high digits, then those of its low digits
pub bits_of_split : (m n v : ℕ) → bits_of (m + n) v ≡ bits_of m (v / 2 ^ n) ++ bits_of n v
unfolding bits_of
bits_of_split zero n v = rw zero-add
bits_of_split (suc m) n v = rw (suc-add m n, bit_high v n m, add_comm n m, bits_of_split m n v)

-- two fields that are joined into one number
pub bits_of_join : (m n a b : ℕ) → b < 2 ^ n → bits_of (m + n) (a * 2 ^ n + b) ≡ bits_of m a ++ bits_of n b
bits_of_join m n a b h =
    bits_of_split m n (a * 2 ^ n + b)
    ∙ rw (high a n h, ← bits_of-mod n (a * 2 ^ n + b), low a n h)

-- digits that follow a
pub num_after : (a : ℕ) (bs : List Bool) → num_from a bs ≡ a * 2 ^ length bs + num_of bs
unfolding num_from
num_after a [] = omega arith
num_after a (b ∷ bs) =
    rw (num_after (a * 2 + bit_n b) bs, num_after (0 + bit_n b) bs, zero-add, pow-suc)
    (omega arith)

-- one list of digits after another
pub num_append : (a : ℕ) (xs ys : List Bool) → num_from a (xs ++ ys) ≡ num_from (num_from a xs) ys
unfolding num_from
num_append a [] ys = refl
num_append a (x ∷ xs) ys = num_append (a * 2 + bit_n x) xs ys

-- the n low bits of v as digits that follow a
pub num_from_lem : (a n v : ℕ) → num_from a (bits_of n v) ≡ a * 2 ^ n + v % 2 ^ n
unfolding num_from bits_of
num_from_lem a zero v = omega arith
num_from_lem a (suc n) v =
    num_from_lem (a * 2 + bit_n (bit_at v n)) n v
    ∙ rw (bit_num v n, ← one-add n, mod-pow-add v 1 n, one-add, pow-suc) (omega arith)

-- a number of n digits is that of its n low bits
pub num_bits : (n v : ℕ) → v < 2 ^ n → num_of (bits_of n v) ≡ v
num_bits n v h = num_from_lem 0 n v ∙ omega (arith, mod-eq_of_lt h)

-- n digits make a number below 2 ^ n
pub num_lt : (bs : List Bool) → num_of bs < 2 ^ length bs
unfolding num_from
num_lt [] = omega arith
num_lt (b ∷ bs) = rw (num_after (0 + bit_n b) bs, pow-suc) (below (bit_n b) (2 ^ length bs) (num_of bs) (bit_lt b) (num_lt bs))
  where
    below : (t p r : ℕ) → t < 2 → r < p → (0 + t) * p + r < p * 2
    below zero p r h k = omega arith
    below (suc zero) p r h k = omega arith
    below (suc (suc t)) p r h k = absurd (omega arith)

-- the first of the digits bs that follow a digit b
first_digit : (a : ℕ) (b : Bool) (bs : List Bool) → bit_at (num_from (a * 2 + bit_n b) bs) (length bs) ≡ b
unfolding bit_at
first_digit a b bs = rw (num_after (a * 2 + bit_n b) bs, high (a * 2 + bit_n b) (length bs) (num_lt bs)) (last_bit a b)

-- the digits bs that follow a are the low bits of the number
bits_after : (a : ℕ) (bs : List Bool) → bits_of (length bs) (num_from a bs) ≡ bs
unfolding bits_of num_from
bits_after a [] = refl
bits_after a (b ∷ bs) = rw (first_digit a b bs, bits_after (a * 2 + bit_n b) bs)

-- the bits of the number of a list of bits are that list
pub bits_num : (bs : List Bool) → bits_of (length bs) (num_of bs) ≡ bs
bits_num bs = bits_after 0 bs
