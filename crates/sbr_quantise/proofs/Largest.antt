-- The value of a finite energy above 64 is the largest number that it attains, for every power.
use Prim.Native.Nat.{ℕ, zero, suc, ◌-◌, ◌*◌, ◌^◌, ◌<◌, ◌≤◌, min}
use mathlib.Core.Path.{◌≡◌, refl, sym, ap, ◌∙◌}
use mathlib.Core.Bool.{Bool, true, false, cond, false≢true}
use native.Mathlib.Decide.{dec_le}
use native.Mathlib.Nat.{le_trans, mul_assoc, pow-succ', pow-le-pow_left, one-le-pow, mul-le-mul_right, mul-le-mul_left, mul-pos}
use native.Mathlib.Omega.{arith}
use lib.Dec.{leb, lit<}
use lib.IntN.{ℤ}
use lib.Pow.{pow_mono}
use lib.Ieee.{fin, up, down}
use lib.Ieee.Fits.{down_pos}
use borrow.Author.Tests.{le-leb, lt-leb, leb-true, leb-false}
use Rattle.sbr_grid.proofs.Widths.{pow_above}
use Rattle.sbr_quantise.specs.Quantise.{attains, last_up_to, value_by}
use Rattle.sbr_quantise.specs.Largest.{Attains, Largest, ValueIsLargest, StepsAreLargest}

-- a test is not passed where its inequality does not hold
pub not_leb : (a b : ℕ) → (a ≤ b → ⊥) → leb a b ≡ false
not_leb a b h = lt-leb a b (omega arith)

-- ---- the last number that passes a test

module _ (t : ℕ → Bool) where
  -- it passes the test where 0 does
  pub last-passes : (n : ℕ) → t 0 ≡ true → t (last_up_to t n) ≡ true
  unfolding last_up_to
  last-passes zero z = z
  last-passes (suc n) z = go (t (suc n)) refl (last-passes n z)
    where
      go : (b : Bool) → t (suc n) ≡ b → t (last_up_to t n) ≡ true → t (cond b (suc n) (last_up_to t n)) ≡ true
      go true e r = e
      go false e r = r

  -- no number up to n that passes it is past it
  pub last-most : (n k : ℕ) → k ≤ n → t k ≡ true → k ≤ last_up_to t n
  unfolding last_up_to
  last-most zero k h p = h
  last-most (suc n) k h p = go (t (suc n)) refl (dec_le k n) (λ l. last-most n k l p)
    where
      go : (b : Bool) → t (suc n) ≡ b → Dec (k ≤ n) → (k ≤ n → k ≤ last_up_to t n) → k ≤ cond b (suc n) (last_up_to t n)
      go true e s r = h
      go false e (yes l) r = r l
      go false e (no l) r =
          let i : suc n ≡ k = omega arith in
          absurd (false≢true (sym e ∙ ap t i ∙ p))

  -- it is q, or n where that is less, of a test that is passed up to q and not past it
  last-is : (q n : ℕ) → ((k : ℕ) → k ≤ q → t k ≡ true) → ((k : ℕ) → q < k → t k ≡ false) → last_up_to t n ≡ min q n
  unfolding last_up_to
  last-is q zero f g = omega arith
  last-is q (suc n) f g = elim (dec_le (suc n) q) [
    | yes h ↦ rw (f (suc n) h) (omega arith)
    | no h ↦ rw (g (suc n) (omega arith)) (omega (arith, last-is q n f g))
  ]

-- ---- the inequality of the test, which is that of the statement times 2

abbrev pub Meets : ℕ → ℕ → ℕ → ℕ → Type 0
Meets p a d q = 2 ^ (2 * q) * d ^ p ≤ 2 * a ^ p

-- a number below one that is met is met
lower : (p a d q k : ℕ) → k ≤ q → Meets p a d q → Meets p a d k
lower p a d q k h r = le_trans (mul-le-mul_right (d ^ p) (pow_mono {i = 2 * k} {j = 2 * q} (omega arith))) r

doubled : (p d n : ℕ) → 2 ^ (2 * suc n) * d ^ p ≡ 2 * (2 ^ (2 * suc n - 1) * d ^ p)
doubled p d n =
    let e : 2 * suc n ≡ suc (2 * suc n - 1) = omega arith in
    ap (λ (z : ℕ). 2 ^ z * d ^ p) e ∙ rw (pow-succ' 2 (2 * suc n - 1)) (mul_assoc 2 (2 ^ (2 * suc n - 1)) (d ^ p))

-- of a fraction of 1 or more
module _ (p a d : ℕ) (l : d ≤ a) where
  pub lowest : Meets p a d 0
  lowest = omega (arith, pow-le-pow_left l p)

  meets : (q : ℕ) → Attains p a d q → Meets p a d q
  meets zero h = lowest
  meets (suc n) h = omega (arith, doubled p d n)

  pub attained : (q : ℕ) → Meets p a d q → Attains p a d q
  attained zero h = omega (arith, pow-le-pow_left l p)
  attained (suc n) h = omega (arith, doubled p d n)

  -- a number that no test meets is not attained
  pub not-met : (q : ℕ) → attains p a d q ≡ false → Attains p a d q → ⊥
  not-met q f h = omega (arith, leb-false (2 ^ (2 * q) * d ^ p) (2 * a ^ p) f, meets q h)

-- a number that is met is at most twice the power
bounded : (p a d q : ℕ) → 0 < d → Meets p a d q → q ≤ 2 * a ^ p
bounded p a d q c r =
    let x : 2 ^ (2 * q) * 1 ≤ 2 ^ (2 * q) * d ^ p = mul-le-mul_left (2 ^ (2 * q)) (one-le-pow p d c) in
    omega (arith, pow_above (2 * q), x, r)

-- ---- the statements

-- there is one such number
largest_unique : (p a d q r : ℕ) → Largest p a d q → Largest p a d r → q ≡ r
largest_unique p a d q r g h = omega (arith, h.most q g.attained, g.most r h.attained)

pub value_is_largest : ValueIsLargest
unfolding value_by
value_is_largest p top m e h = rw (lt-leb (m * up e) (64 * down e) h) (go (m * up e) (64 * down e) h (mul-pos (lit< tt) (down_pos e)))
  where
    go : (a d : ℕ) → d < a → 0 < d → (q : ℕ) × (Largest p a d q × (last_up_to (attains p a d) top ≡ min q top))
    go a d l c =
        let n : ℕ = 2 * a ^ p in
        let q : ℕ = last_up_to (attains p a d) n in
        let le : d ≤ a = omega arith in
        let met : Meets p a d q = leb-true _ _ (last-passes (attains p a d) n (le-leb _ _ (lowest p a d le))) in
        let most : (k : ℕ) → Meets p a d k → k ≤ q = λ k r. last-most (attains p a d) n k (bounded p a d k c r) (le-leb _ _ r) in
        let past : (k : ℕ) → q < k → attains p a d k ≡ false = λ k g. not_leb _ _ (λ (r : Meets p a d k). omega (arith, most k r)) in (
          q,
          (
            record { attained = attained p a d le q met; most = λ k r. most k (meets p a d le k r) },
            last-is (attains p a d) q top (λ k g. le-leb _ _ (lower p a d q k g met)) past,
          ),
        )

pub steps_are_largest : StepsAreLargest
steps_are_largest = (value_is_largest 2 63, value_is_largest 4 127)

-- so the largest number that an energy attains gives its value
pub value_at : (p top m : ℕ) (e : ℤ) (q : ℕ) → 64 * down e < m * up e → Largest p (m * up e) (64 * down e) q → value_by p top (fin false m e) ≡ min q top
value_at p top m e q h g =
    let v = value_is_largest p top m e h in
    v.1.1 ∙ ap (λ (z : ℕ). min z top) (largest_unique p (m * up e) (64 * down e) v.0 q v.1.0 g)
