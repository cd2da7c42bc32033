-- Bits of one byte read at once, and one turn of a loop that goes byte by byte.
use mathlib.Core.Path.{◌≡◌, refl, ap, ◌∙◌}
use mathlib.Core.Bool.{Bool}
use mathlib.Core.List.{List, [], ◌∷◌, ◌++◌}
use Prim.Native.Nat.{ℕ, zero, suc, ◌+◌, ◌-◌, ◌*◌, ◌/◌, ◌%◌, ◌^◌, ◌<◌, ◌≤◌}
use native.Mathlib.Nat.{add-suc}
use native.Mathlib.Omega.{arith}
use mir.Syntax.{w64}
use Rattle.std.specs.Int.{from_be_bytes}
use lib.Arith.{digits_lt}
use lib.Pow.{pow-add, high, low}
use lib.ListN.{length, get_or, set}
use Rattle.bits.specs.Bits.{get_bit, put_bits, bits_at, bits_of, num_from, num_of}
use Rattle.bits.proofs.Numbers.{bit_high, bits_of_split, length-bits_of, num_after, num_append, num_from_lem, num_lt}
use Rattle.bits.proofs.Bytes.{with_field}
use Rattle.bits.proofs.Stream.{length-bits_at, bits_at-add}
use Rattle.bits.proofs.Put.{put_byte, put_append}

-- n bits from the bit r of the byte i on, with k bits after them, are those of the byte above its k lowest
bits_within : (l : List ℕ) (i r n k : ℕ) → r + n + k ≡ 8 → bits_at l (8 * i + r) n ≡ bits_of n (get_or l i 0 / 2 ^ k)
unfolding bits_at bits_of get_bit
bits_within l i r zero k e = refl
bits_within l i r (suc n) k e =
    let q : (8 * i + r) / 8 ≡ i = omega arith in
    let s : 7 - (8 * i + r) % 8 ≡ k + n = omega arith in
    rw (q, s, bit_high (get_or l i 0) k n, ← add-suc (8 * i) r, bits_within l i (suc r) n k (omega arith))

-- n bits that stand in one byte are read at once
pub bits_byte : (l : List ℕ) (p n : ℕ) → n ≤ 8 - p % 8 → bits_at l p n ≡ bits_of n (get_or l (p / 8) 0 / 2 ^ (8 - p % 8 - n))
bits_byte l p n h =
    let e : 8 * (p / 8) + p % 8 ≡ p = omega arith in
    rw e at (bits_within l (p / 8) (p % 8) n (8 - p % 8 - n) (omega arith))

-- their number, after the digits of a
pub num_byte : (l : List ℕ) (a p n : ℕ) → n ≤ 8 - p % 8
    → num_from a (bits_at l p n) ≡ a * 2 ^ n + get_or l (p / 8) 0 / 2 ^ (8 - p % 8 - n) % 2 ^ n
num_byte l a p n h = rw (bits_byte l p n h) (num_from_lem a n (get_or l (p / 8) 0 / 2 ^ (8 - p % 8 - n)))

-- one turn of a loop that puts k bits of v: n of them in the byte at p, and the rest after them
pub put_turn : (l : List ℕ) (p n k v : ℕ) → 0 < n → n ≤ 8 - p % 8 → p / 8 < length l → n ≤ k
    → put_bits l p (bits_of k v) ≡ put_bits (set l (p / 8) (with_field (get_or l (p / 8) 0) (8 - p % 8 - n) n (v / 2 ^ (k - n)))) (p + n) (bits_of (k - n) v)
put_turn l p n k v z h i j =
    let e : k ≡ n + (k - n) = omega arith in
    ap (λ (m : ℕ). put_bits l p (bits_of m v)) e
    ∙ rw (bits_of_split n (k - n) v, put_append, length-bits_of, put_byte l p n (v / 2 ^ (k - n)) z h i)

-- one turn of a loop that reads k bits after the digits of a
pub get_turn : (l : List ℕ) (a p n k : ℕ) → n ≤ 8 - p % 8 → n ≤ k
    → num_from a (bits_at l p k) ≡ num_from (a * 2 ^ n + get_or l (p / 8) 0 / 2 ^ (8 - p % 8 - n) % 2 ^ n) (bits_at l (p + n) (k - n))
get_turn l a p n k h j =
    let e : k ≡ n + (k - n) = omega arith in
    ap (λ (m : ℕ). num_from a (bits_at l p m)) e
    ∙ rw (bits_at-add l p n (k - n), num_append, num_byte l a p n h)

-- no bit is left to put
pub put_done : (l : List ℕ) (p k v : ℕ) → k ≡ 0 → put_bits l p (bits_of k v) ≡ l
unfolding put_bits bits_of
put_done l p k v e = rw e

-- no bit is left to read
pub get_done : (l : List ℕ) (a p k : ℕ) → k ≡ 0 → num_from a (bits_at l p k) ≡ a
unfolding num_from bits_at
get_done l a p k e = rw e

-- a number of w - k digits, with n digits more after them
pub grows : (v f n k w : ℕ) → n ≤ k → k ≤ w → v < 2 ^ (w - k) → f < 2 ^ n → v * 2 ^ n + f < 2 ^ (w - (k - n))
grows v f n k w h i g s =
    let e : w - k + n ≡ w - (k - n) = omega arith in
    rw (← pow-add 2 (w - k) n, e) at (digits_lt g s)

-- the number of digits between others, from the number of them all
num_between : (xs ys zs : List Bool) → num_of (xs ++ (ys ++ zs)) / 2 ^ length zs % 2 ^ length ys ≡ num_of ys
num_between xs ys zs =
    rw (num_append 0 xs (ys ++ zs), num_append (num_of xs) ys zs, num_after (num_from (num_of xs) ys) zs, high (num_from (num_of xs) ys) (length zs) (num_lt zs), num_after (num_of xs) ys)
    (low (num_of xs) (length ys) (num_lt ys))

-- a whole byte and k bits more, after the digits of a
byte_first : (l : List ℕ) (a i j k : ℕ) → get_or l i 0 < 256 → j ≡ i + 1 → num_from a (bits_at l (8 * i) (8 + k)) ≡ num_from (a * 256 + get_or l i 0) (bits_at l (8 * j) k)
byte_first l a i j k h e =
    let q : 8 * i / 8 ≡ i = omega arith in
    let s : 8 - 8 * i % 8 - 8 ≡ 0 = omega arith in
    let t : 8 + k - 8 ≡ k = omega arith in
    let u : 8 * i + 8 ≡ 8 * j = omega arith in
    let v : get_or l i 0 / 2 ^ 0 % 2 ^ 8 ≡ get_or l i 0 = omega arith in
    get_turn l a (8 * i) 8 (8 + k) (omega arith) (omega arith) ∙ rw (q, s, t, u, v)

-- five bytes joined into one number, the first the highest
abbrev pub five : List ℕ → ℕ → ℕ
five l i = from_be_bytes w64 (0 ∷ 0 ∷ 0 ∷ get_or l i 0 ∷ get_or l (i + 1) 0 ∷ get_or l (i + 2) 0 ∷ get_or l (i + 3) 0 ∷ get_or l (i + 4) 0 ∷ [])

-- that is the number of their bits
num_five : (l : List ℕ) (i : ℕ) → ((j : ℕ) → get_or l j 0 < 256) → num_of (bits_at l (8 * i) 40) ≡ five l i
num_five l i f =
    byte_first l 0 i (i + 1) 32 (f i) refl
    ∙ byte_first l _ (i + 1) (i + 2) 24 (f (i + 1)) (omega arith)
    ∙ byte_first l _ (i + 2) (i + 3) 16 (f (i + 2)) (omega arith)
    ∙ byte_first l _ (i + 3) (i + 4) 8 (f (i + 3)) (omega arith)
    ∙ byte_first l _ (i + 4) (i + 5) 0 (f (i + 4)) (omega arith)
    ∙ get_done l _ (8 * (i + 5)) 0 refl
    ∙ omega arith

-- 32 bits within five bytes
pub get_five : (l : List ℕ) (p : ℕ) → ((j : ℕ) → get_or l j 0 < 256) → five l (p / 8) / 2 ^ (8 - p % 8) % 2 ^ 32 ≡ num_of (bits_at l p 32)
get_five l p f =
    let n = 8 - p % 8 in
    let w : p % 8 + (32 + n) ≡ 40 = omega arith in
    let q : 8 * (p / 8) + p % 8 ≡ p = omega arith in
    let xs = bits_at l (8 * (p / 8)) (p % 8) in
    let e : bits_at l (8 * (p / 8)) 40 ≡ xs ++ (bits_at l p 32 ++ bits_at l (p + 32) n) =
    rw (w, q, bits_at-add l p 32 n) at (bits_at-add l (8 * (p / 8)) (p % 8) (32 + n)) in
    rw (← num_five l (p / 8) f, e) (rw (length-bits_at l p 32, length-bits_at l (p + 32) n) at (num_between xs (bits_at l p 32) (bits_at l (p + 32) n)))
