-- A double's bit pattern as an octave and a part of it.
use Prim.Native.Nat.{ℕ, zero, suc, ◌+◌, ◌-◌, ◌*◌, ◌/◌, ◌%◌, ◌^◌, ◌<◌, ◌≤◌}
use mathlib.Core.Path.{◌≡◌, refl, sym, ap, ◌∙◌, subst}
use mathlib.Core.Bool.{true, false, false≢true}
use native.Mathlib.Nat.{le_trans, lt_of_le_of_lt, lt_of_not-le, lt_trans, le_of_lt, mul_assoc, mul_comm, mul_left_comm, mul_right_comm, mul-one, mul-div_cancel, le-div_iff_mul-le, lt_of_mul-lt-mul_right, mul-lt-mul_of_pos_right, eq_of_mul-eq-mul_right}
use native.Mathlib.Omega.{arith}
use lib.IntN.{ℤ, pos, negsuc}
use lib.Pow.{pow-add, pow_pos, pow_mono, pow-lt, shl_lt}
use lib.Dec.{T, lit≤, lit<}
use lib.Ieee.{Float, nan, inf, fin, binary64, up, down, size, fits, lt, to_bits, of_bits}
use lib.Ieee.Digits.{size-lt, size-le, size_reaches}
use lib.Ieee.Fits.{down_pos, kept-lt}
use borrow.Author.Tests.{ltb-true, ltb-false}
use Rattle.sbr_floats.specs.Floats.{floor64}
use Rattle.sbr_floats.proofs.Format.{in_format}
use Rattle.sbr_quantise.specs.Octaves.{parts, Scales}

-- powers of two in their order have exponents in it
exponents : (a b : ℕ) → 2 ^ a < 2 ^ b → a < b
exponents a b h = lt_of_not-le (λ (g : b ≤ a). omega (arith, pow_mono g))

-- m * 2 ^ e in units of 2 ^ -l is m * 2 ^ j
in_units_lem : (l : ℕ) (e : ℤ) → down e ≤ 2 ^ l → (j : ℕ) × ((m : ℕ) → m * up e * 2 ^ l ≡ m * 2 ^ j * down e)
in_units_lem l (pos a) h = (a + l, λ m. rw (pow-add, mul-one) (mul_assoc m (2 ^ a) (2 ^ l)))
in_units_lem l (negsuc a) h =
    let le : suc a ≤ l = omega (arith, exponents (suc a) (suc l) (lt_of_le_of_lt h (pow-lt {i = l} {j = suc l} (omega arith)))) in
    let e : l - suc a + suc a ≡ l = omega arith in
    (l - suc a, λ m. rw (mul-one, mul_assoc m (2 ^ (l - suc a)) (2 ^ suc a), ← pow-add, e))

-- In units of 2 ^ -l a number is n. Its pattern has the size of n past p, k, and the p leading digits of n, in which all of n is.
abbrev in_units : ℕ → ℕ → ℤ → ℕ
in_units l m e = m * up e * 2 ^ l / down e

abbrev past : ℕ → ℕ → ℕ
past p n = size n - p

module _ (l p m : ℕ) (e : ℤ) (few : m < 2 ^ p) (low : down e ≤ 2 ^ l) where
  abbrev n : ℕ
  n = in_units l m e

  abbrev k : ℕ
  k = past p n

  -- n is a whole number of units, and nothing of it is cut off
  whole : (n * down e ≡ m * up e * 2 ^ l) × (n / 2 ^ k * 2 ^ k ≡ n)
  whole =
      let j = in_units_lem l e low in
      let i : ℕ = j.0 in
      let x : n ≡ m * 2 ^ i = ap (λ (z : ℕ). z / down e) (j.1 m) ∙ mul-div_cancel (m * 2 ^ i) (down_pos e) in
      let s : size n ≤ p + i = size-le n (p + i) (subst (λ (z : ℕ). z < 2 ^ (p + i)) (sym x) (shl_lt p i few)) in
      let d : i - k + k ≡ i = omega arith in
      let y : n ≡ m * 2 ^ (i - k) * 2 ^ k = x ∙ sym (mul_assoc m (2 ^ (i - k)) (2 ^ k) ∙ ap (λ (z : ℕ). m * z) (sym (pow-add 2 (i - k) k) ∙ ap (λ (z : ℕ). 2 ^ z) d)) in
      let v : n / 2 ^ k ≡ m * 2 ^ (i - k) = ap (λ (z : ℕ). z / 2 ^ k) y ∙ mul-div_cancel (m * 2 ^ (i - k)) (pow_pos k) in
      (ap (λ (z : ℕ). z * down e) x ∙ sym (j.1 m), ap (λ (z : ℕ). z * 2 ^ k) v ∙ sym y)

  all_digits : n / 2 ^ k * 2 ^ k * down e ≡ m * up e * 2 ^ l
  all_digits = ap (λ (z : ℕ). z * down e) whole.1 ∙ whole.0

  top_digit : 0 < p → 2 ^ (p - 1) ≤ n → 2 ^ (p - 1) ≤ n / 2 ^ k
  top_digit q h =
      let s : p - 1 < size n = exponents (p - 1) (size n) (lt_of_le_of_lt h (size-lt n)) in
      (le-div_iff_mul-le (pow_pos k)).1 (subst (λ (z : ℕ). z ≤ n) (pow-add 2 (p - 1) k) (size_reaches n (p - 1 + k) (omega arith)))

  few-digits : n / 2 ^ k < 2 ^ p
  few-digits = kept-lt p n

-- ---- a number above 64

-- the size of a product that is above 64
above_64 : (l m k a d : ℕ) → 0 < d → m * 2 ^ k * d ≡ a * 2 ^ l → 64 * d < a → 2 ^ (6 + l) < m * 2 ^ k
above_64 l m k a d p e h =
    let x : 64 * d * 2 ^ l < a * 2 ^ l = mul-lt-mul_of_pos_right h (pow_pos l) in
    lt_of_mul-lt-mul_right d (rw (e, pow-add 2 6 l, mul_right_comm 64 (2 ^ l) d) x)

regrouped : (m o c s d : ℕ) → m * (o * (c * s)) * d ≡ m * o * (s * d) * c
regrouped m o c s d = simp (mul_assoc, mul_comm, mul_left_comm)

-- 2 ^ 52 parts and a factor 64
rescaled : (c o m a d : ℕ) → m * 2 ^ (o + (c + 6)) * d ≡ a * 2 ^ (c + 52) → a * 2 ^ 52 ≡ m * 2 ^ o * (64 * d)
rescaled c o m a d e =
    let x : a * 2 ^ (c + 52) ≡ a * 2 ^ 52 * 2 ^ c = rw pow-add (simp (mul_assoc, mul_comm, mul_left_comm)) in
    let y : m * 2 ^ (o + (c + 6)) * d ≡ m * 2 ^ o * (64 * d) * 2 ^ c = rw (pow-add, pow-add 2 c 6) (regrouped m (2 ^ o) (2 ^ c) 64 d) in
    eq_of_mul-eq-mul_right (2 ^ c) (pow_pos c) _ _ (sym x ∙ sym e ∙ y)

-- the pattern of a number whose sign is clear
pattern : (m : ℕ) (e : ℤ) → to_bits binary64 (fin false m e) ≡ past 53 (in_units 1074 m e) * 2 ^ 52 + in_units 1074 m e / 2 ^ past 53 (in_units 1074 m e)
unfolding to_bits
pattern m e = omega arith

-- an octave and a part out of a pattern
from_pattern : (b k m a d : ℕ) → 0 < d → 64 * d < a → b ≡ k * 2 ^ 52 + m → 2 ^ 52 ≤ m → m < 2 ^ 53 → m * 2 ^ k * d ≡ a * 2 ^ 1074
    → (1029 ≤ b / parts) × (a * parts ≡ (parts + b % parts) * 2 ^ (b / parts - 1029) * (64 * d))
from_pattern b k m a d p h e lo hi v =
    let g : 1080 < 53 + k = exponents (6 + 1074) (53 + k) (lt_trans (above_64 1074 m k a d p v h) (shl_lt 53 k hi)) in
    let q : b / parts ≡ k + 1 = omega arith in
    let r : parts + b % parts ≡ m = omega arith in
    let o : b / parts - 1029 ≡ k - 1028 = omega arith in
    let c : k ≡ k - 1028 + (1022 + 6) = omega arith in
    (omega arith, rw (r, o) (rescaled 1022 (k - 1028) m a d (ap (λ (z : ℕ). m * 2 ^ z * d) (sym c) ∙ v)))

finite_scales : (m : ℕ) (e : ℤ) → T (fits binary64 (fin false m e)) → 64 * down e < m * up e
    → (1029 ≤ to_bits binary64 (fin false m e) / parts) × Scales (fin false m e) (to_bits binary64 (fin false m e) / parts - 1029) (to_bits binary64 (fin false m e) % parts)
finite_scales zero e t h = absurd (omega arith)
finite_scales (suc m) e t h =
    let f = in_format false m e t in
    let d = all_digits 1074 53 (suc m) e f.0 f.1 in
    let w : 2 ^ (6 + 1074) < in_units 1074 (suc m) e = subst (λ (z : ℕ). 2 ^ (6 + 1074) < z) (whole 1074 53 (suc m) e f.0 f.1).1 (above_64 1074 _ _ (suc m * up e) (down e) (down_pos e) d h) in
    let lo = top_digit 1074 53 (suc m) e f.0 f.1 (lit< tt) (le_trans (lit≤ tt) (le_of_lt w)) in
    let r = from_pattern (to_bits binary64 (fin false (suc m) e)) _ _ (suc m * up e) (down e) (down_pos e) h (pattern (suc m) e) lo (few-digits 1074 53 (suc m) e f.0 f.1) d in
    (r.0, (refl, r.1))

-- what the test of 64 says of a finite number
pub tested : (m : ℕ) (e : ℤ) → lt floor64 (fin false m e) ≡ true → 64 * down e < m * up e
unfolding lt of_bits
tested m e h = omega (arith, ltb-true (64 * down e) (m * up e * 1) h)

pub tested_not : (m : ℕ) (e : ℤ) → lt floor64 (fin false m e) ≡ false → m * up e ≤ 64 * down e
unfolding lt of_bits
tested_not m e h = omega (arith, ltb-false (64 * down e) (m * up e * 1) h)

-- every double above 64
pub scales : (x : Float) → fits binary64 x ≡ true → lt floor64 x ≡ true
    → (1029 ≤ to_bits binary64 x / parts) × Scales x (to_bits binary64 x / parts - 1029) (to_bits binary64 x % parts)
unfolding lt to_bits of_bits
scales nan t h = absurd (false≢true h)
scales (inf true) t h = absurd (false≢true h)
scales (inf false) t h = (lit≤ tt, (refl, refl))
scales (fin true m e) t h = absurd (false≢true h)
scales (fin false m e) t h = finite_scales m e (subst T (sym t) tt) (tested m e h)
