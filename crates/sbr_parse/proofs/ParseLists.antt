-- Lists of bits and of digits that are padded to the length of an array.
use mathlib.Core.Path.{◌≡◌, refl, ◌∙◌}
use mathlib.Core.Bool.{false}
use mathlib.Core.List.{◌++◌, reverse, reverse-append, reverse-cons}
use Prim.Native.Nat.{ℕ, zero, suc, ◌+◌, ◌-◌, ◌*◌, ◌/◌, ◌%◌, ◌^◌, ◌≤◌, ◌<◌}
use native.Mathlib.Nat.{zero-add, suc-add, add-zero, zero-div, mul-mod_left, div-eq_of_lt, mod-lt, mod-eq_of_lt}
use native.Mathlib.Omega.{arith}
use native.Mathlib.Numerals.{add-one}
use lib.ListN.{replicate, length-reverse, replicate-append-replicate}
use lib.Pow.{pow_pos, shr-shr, shl-shr, shl_exact, field, mod-mod-pow}
use Rattle.sbr_grid.proofs.First.{first_none, first_pad}
use Rattle.bits.specs.Bits.{bit_at, bits_of}
use Rattle.bits.proofs.Numbers.{length-bits_of, bits_of-mod, bits_of_split, bits_of_join}
use Rattle.sbr_grid.specs.declared.FrameClass.{FrameClass}
use Rattle.sbr_grid.specs.declared.FrameClass.TheVariants.{FixFix, FixVar, VarFix, VarVar}
use Rattle.sbr_grid.specs.Grid.{first}
use Rattle.sbr_parse.specs.Syntax.{ordered}
use Rattle.sbr_parse.specs.Parse.{twos_of}

-- the bits of 0
bits_zero : (k : ℕ) → bits_of k 0 ≡ replicate k false
unfolding bits_of bit_at
bits_zero zero = refl
bits_zero (suc k) = rw (zero-div, bits_zero k)

-- k bits that are padded to n are those of the number with zeros behind its bits
pub pad_bits : (n k v : ℕ) → k ≤ n → first false n (bits_of k v) ≡ bits_of n (v % 2 ^ k * 2 ^ (n - k))
pad_bits n k v h =
    let e : k + (n - k) ≡ n = omega arith in
    first_pad false n k (bits_of k v) (length-bits_of k v) h
    ∙ rw (← bits_of-mod k v, ← bits_zero (n - k), ← bits_of_join k (n - k) (v % 2 ^ k) 0 (pow_pos (n - k)), e, add-zero)

-- copies in reverse
reverse-same : {A : Type 0} (d : A) (k : ℕ) → reverse (replicate k d) ≡ replicate k d
reverse-same d zero = refl
reverse-same d (suc k) = reverse-cons d (replicate k d) ∙ rw (reverse-same d k, replicate-append-replicate k 1 d, add-one)

-- k bits in reverse that are padded to n are those of the same number, in reverse
pub pad_reverse : (n k v : ℕ) → k ≤ n → first false n (reverse (bits_of k v)) ≡ reverse (bits_of n (v % 2 ^ k))
pad_reverse n k v h =
    let f : n - k + k ≡ n = omega arith in
    let s : bits_of n (v % 2 ^ k) ≡ replicate (n - k) false ++ bits_of k v =
    rw f at (bits_of_split (n - k) k (v % 2 ^ k)) ∙ rw (bits_of-mod k v, div-eq_of_lt (mod-lt v (pow_pos k)), bits_zero (n - k)) in
    first_pad false n k (reverse (bits_of k v)) (length-reverse (bits_of k v) ∙ length-bits_of k v) h
    ∙ rw (s, reverse-append, reverse-same false (n - k))

-- the k low digits stand in the low bits
pub twos-mod : (j k v : ℕ) → j ≤ k → twos_of j (v % 2 ^ (2 * k)) ≡ twos_of j v
unfolding twos_of
twos-mod zero k v h = refl
twos-mod (suc j) k v h =
    let e : 2 * k ≡ 2 * (k - suc j) + 2 + 2 * j = omega arith in
    rw (twos-mod j k v (omega arith), e, field v (2 * (k - suc j) + 2) (2 * j), mod-mod-pow (v / 2 ^ (2 * j)) (2 * (k - suc j)) 2)

-- the digits of 0
twos_zero : (k : ℕ) → twos_of k 0 ≡ replicate k 0
unfolding twos_of
twos_zero zero = refl
twos_zero (suc k) = rw (zero-div, twos_zero k)

-- digits with k zeros behind them
twos_behind : (n k v : ℕ) → first 0 (n + k) (twos_of n v) ≡ twos_of (n + k) (v * 2 ^ (2 * k))
unfolding twos_of
twos_behind zero k v =
    rw (zero-add, first_none {A = ℕ} 0 k, ← twos-mod k k (v * 2 ^ (2 * k)) (omega arith), mul-mod_left, twos_zero k)
twos_behind (suc n) k v =
    let e : 2 * (n + k) ≡ 2 * k + 2 * n = omega arith in
    rw (suc-add n k, e, ← shr-shr (v * 2 ^ (2 * k)) (2 * k) (2 * n), shl-shr v (2 * k), twos_behind n k v)

-- k digits that are padded to n are those of the number with zeros behind its bits
pub pad_twos : (n k v : ℕ) → k ≤ n → first 0 n (twos_of k v) ≡ twos_of n (v % 2 ^ (2 * k) * 2 ^ (2 * n - 2 * k))
pad_twos n k v h =
    let e : k + (n - k) ≡ n = omega arith in
    let f : 2 * (n - k) ≡ 2 * n - 2 * k = omega arith in
    rw (← twos-mod k k v (omega arith)) (rw (e, f) at (twos_behind k (n - k) (v % 2 ^ (2 * k))))

-- ---- in the numbers that hold them

-- k lengths in an array of four
pub lengths_padded : (k v : ℕ) → k ≤ 4 → v < 2 ^ (2 * k) → twos_of 4 (v * 2 ^ (2 * (4 - k)) % 2 ^ 32) ≡ first 0 4 (twos_of k v)
lengths_padded k v h l =
    let e : 2 * 4 - 2 * k ≡ 2 * (4 - k) = omega arith in
    rw (pad_twos 4 k v h, mod-eq_of_lt l, e, shl_exact (2 * k) (2 * (4 - k)) 32 l (omega arith))

-- k flags in an array of five, in their order and from the last one back
pub flags_padded : (k v : ℕ) → k ≤ 5 → v < 2 ^ k → bits_of 5 (v * 2 ^ (5 - k) % 2 ^ 32) ≡ first false 5 (bits_of k v)
flags_padded k v h l = rw (pad_bits 5 k v h, mod-eq_of_lt l, shl_exact k (5 - k) 32 l (omega arith))

pub flags_back : (k v : ℕ) → k ≤ 5 → v < 2 ^ k → reverse (bits_of 5 v) ≡ first false 5 (reverse (bits_of k v))
flags_back k v h l = rw (pad_reverse 5 k v h, mod-eq_of_lt l)

-- the same in the order of the envelopes
pub flags_last : (c : FrameClass) (k v : ℕ) → c ≡ FixVar → k ≤ 5 → v < 2 ^ k → reverse (bits_of 5 v) ≡ first false 5 (ordered c (bits_of k v))
flags_last c k v e h l = rw e (flags_back k v h l)

pub flags_first : (c : FrameClass) (k v : ℕ) → (c ≡ FixVar → ⊥) → k ≤ 5 → v < 2 ^ k → bits_of 5 (v * 2 ^ (5 - k) % 2 ^ 32) ≡ first false 5 (ordered c (bits_of k v))
flags_first FixFix k v e h l = flags_padded k v h l
flags_first FixVar k v e h l = absurd (e refl)
flags_first VarFix k v e h l = flags_padded k v h l
flags_first VarVar k v e h l = flags_padded k v h l
