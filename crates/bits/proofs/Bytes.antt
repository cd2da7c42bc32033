-- Bits and fields of one byte.
use mathlib.Core.Path.{◌≡◌, refl, sym}
use mathlib.Core.Bool.{Bool}
use Prim.Native.Nat.{ℕ, suc, ◌+◌, ◌-◌, ◌*◌, ◌/◌, ◌%◌, ◌^◌, ◌<◌, ◌≤◌}
use native.Mathlib.Nat.{mod-lt, pow-suc, add_comm}
use native.Mathlib.Numerals.{one-add, add-one}
use native.Mathlib.Omega.{arith}
use lib.Arith.{digits_lt}
use lib.Pow.{pow_pos, pow-add, high, low, shr-shr, shr_lt, shl_lt, mod-pow-add, shl_exact}
use Rattle.bits.specs.Bits.{bit_n, bit_at, with_bit}
use Rattle.bits.proofs.Numbers.{last_bit, bit_lt, bit_num, bit_high}

-- the bit that was made b is b
pub bit_same : (x k : ℕ) (b : Bool) → bit_at (with_bit x k b) k ≡ b
unfolding bit_at with_bit
bit_same x k b = rw (high (x / 2 ^ k / 2 * 2 + bit_n b) k (mod-lt x (pow_pos k))) (last_bit (x / 2 ^ k / 2) b)

-- the digits above the bit are kept
with_high : (x k : ℕ) (b : Bool) → with_bit x k b / 2 ^ suc k ≡ x / 2 ^ suc k
unfolding with_bit
with_high x k b =
    rw (← add-one k, ← shr-shr ((x / 2 ^ k / 2 * 2 + bit_n b) * 2 ^ k + x % 2 ^ k) k 1, ← shr-shr x k 1, high (x / 2 ^ k / 2 * 2 + bit_n b) k (mod-lt x (pow_pos k)))
    (omega (arith, bit_lt b))

-- a bit above it is kept
pub bit_above : (x k j : ℕ) (b : Bool) → k < j → bit_at (with_bit x k b) j ≡ bit_at x j
bit_above x k j b h =
    let e : j ≡ suc k + (j - suc k) = omega arith in
    rw (e, ← bit_high (with_bit x k b) (suc k) (j - suc k), with_high x k b, bit_high)

-- a byte whose n low bits are made those of v
abbrev pub with_low : ℕ → ℕ → ℕ → ℕ
with_low x n v = x / 2 ^ n * 2 ^ n + v % 2 ^ n

-- no bit is made another
pub low_none : (x v : ℕ) → with_low x 0 v ≡ x
low_none x v = omega arith

-- n + 1 digits of v below the digits of x above them
one_more : (x n v : ℕ) → (x / 2 ^ n / 2 * 2 + bit_n (bit_at v n)) * 2 ^ n + v % 2 ^ n ≡ with_low x (suc n) v
one_more x n v =
    let e : x / 2 ^ suc n ≡ x / 2 ^ n / 2 = rw (← add-one n) (sym (shr-shr x n 1)) in
    let m : v % 2 ^ suc n ≡ v / 2 ^ n % 2 * 2 ^ n + v % 2 ^ n = rw (← one-add n) (mod-pow-add v 1 n) in
    rw (bit_num v n, e, m, pow-suc) (omega arith)

-- the highest of them first, then the rest
pub low_next : (x n v : ℕ) → with_low (with_bit x n (bit_at v n)) n v ≡ with_low x (suc n) v
unfolding with_bit
low_next x n v = rw (high (x / 2 ^ n / 2 * 2 + bit_n (bit_at v n)) n (mod-lt x (pow_pos n))) (one_more x n v)

-- of two numbers the second stays
pub low_twice : (x n u v : ℕ) → with_low (with_low x n u) n v ≡ with_low x n v
low_twice x n u v = rw (high (x / 2 ^ n) n (mod-lt u (pow_pos n)))

-- a byte whose n bits above the k lowest are made the n lowest of v, and the k lowest cleared
abbrev pub with_field : ℕ → ℕ → ℕ → ℕ → ℕ
with_field x k n v = (x / 2 ^ (k + n) * 2 ^ n + v % 2 ^ n) * 2 ^ k

-- these are its n + k low bits
pub field_low : (x k n v : ℕ) → with_low x (n + k) (v * 2 ^ k + 0) ≡ with_field x k n v
field_low x k n v =
    rw (mod-pow-add (v * 2 ^ k + 0) n k, high v k (pow_pos k), low v k (pow_pos k), add_comm k n, pow-add 2 n k)
    (omega arith)

-- a byte with another field is a byte, and the shifts that make it drop no bit
pub record Field (x k n v : ℕ) : Type 0 where
  pub byte : with_field x k n v < 256
  pub shifted : (x / 2 ^ (k + n) * 2 ^ n % 2 ^ 32 + v % (1 * 2 ^ n % 2 ^ 32)) * 2 ^ k % 2 ^ 32 ≡ with_field x k n v

pub field_fits : (x k n v : ℕ) → x < 256 → k + n ≤ 8 → Field x k n v
field_fits x k n v hx h =
    let m = 8 - (k + n) in
    let e : m + (k + n) ≡ 8 = omega arith in
    let f : m + n + k ≡ 8 = omega arith in
    let q : x / 2 ^ (k + n) < 2 ^ m = shr_lt m (k + n) (rw e hx) in
    let t : x / 2 ^ (k + n) * 2 ^ n + v % 2 ^ n < 2 ^ (m + n) = rw (pow-add 2 m n) (digits_lt q (mod-lt v (pow_pos n))) in
    let o : 1 * 2 ^ n % 2 ^ 32 ≡ 2 ^ n = omega (arith, shl_exact {a = 1} 1 n 32 (omega arith) (omega arith)) in
    record {
      byte = rw f at (shl_lt (m + n) k t);
      shifted = rw (o, shl_exact m n 32 q (omega arith), shl_exact (m + n) k 32 t (omega arith)) refl;
    }
