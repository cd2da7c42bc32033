-- The code's limit, 8964576524791263 / 2 ^ 51, is the largest number of 64 bits whose fifth power does not exceed 1000.
use Prim.Native.Nat.{ℕ, suc, ◌+◌, ◌-◌, ◌*◌, ◌^◌, ◌<◌, ◌≤◌}
use mathlib.Core.Path.{◌≡◌, refl, sym, ◌∙◌, ap, subst}
use mathlib.Core.Logic.{inl, inr}
use mathlib.Core.Bool.{true, false}
use native.Mathlib.Nat.{lt_of_lt_of_le, le_trans, mul_assoc, mul_right_comm, pow-le-pow_left, one-le-pow, mul-le-mul_right, mul-lt-mul_of_pos_right, lt_of_mul-lt-mul_right, le_of_mul-le-mul_right, mul-le-mul, mul-one}
use native.Mathlib.Numerals.{add-one-le}
use native.Mathlib.Omega.{arith}
use lib.Dec.{T, ltb, lit<, lit≤}
use lib.Pow.{pow-add, pow_mono}
use lib.IntN.{ℤ, pos, negsuc}
use lib.Ieee.{Float, nan, inf, fin, binary64, up, down, lt, fits}
use lib.Ieee.Fits.{down_pos}
use borrow.Author.Tests.{lt-ltb, le-ltb}
use Rattle.sbr_floats.specs.Floats.{spread_is_high}
use Rattle.std.proofs.lemmas.Bool.{cases_lt}
use Rattle.std.proofs.lemmas.Nat.{mul-pow}
use Rattle.sbr_floats.proofs.Format.{digits}

-- two tests are equal where each way of the first gives that of the second
same_test : (a b c d : ℕ) → (a < b → c < d) → (b ≤ a → d ≤ c) → ltb a b ≡ ltb c d
same_test a b c d f g = elim (cases_lt a b) [ inl h ↦ lt-ltb a b h ∙ sym (lt-ltb c d (f h)) | inr h ↦ le-ltb a b h ∙ sym (le-ltb c d (g h)) ]

-- A / D is at least N / U, whose k th power is above t
over : (k A D N U t : ℕ) → 0 < D → t * U ^ k < N ^ k → N * D ≤ A * U → t * D ^ k < A ^ k
over k A D N U t p q h =
    let x : N ^ k * D ^ k ≤ A ^ k * U ^ k = rw (← mul-pow, ← mul-pow) (pow-le-pow_left h k) in
    let y : t * U ^ k * D ^ k < N ^ k * D ^ k = mul-lt-mul_of_pos_right q (one-le-pow k D p) in
    lt_of_mul-lt-mul_right (U ^ k) (rw (mul_right_comm t (D ^ k) (U ^ k)) (lt_of_lt_of_le y x))

-- A / D is at most N / U, whose k th power is at most t
under : (k A D N U t : ℕ) → 0 < U → N ^ k ≤ t * U ^ k → A * U ≤ N * D → A ^ k ≤ t * D ^ k
under k A D N U t p q h =
    let x : A ^ k * U ^ k ≤ N ^ k * D ^ k = rw (← mul-pow, ← mul-pow) (pow-le-pow_left h k) in
    let y : N ^ k * D ^ k ≤ t * U ^ k * D ^ k = mul-le-mul_right (D ^ k) q in
    le_of_mul-le-mul_right (rw (mul_right_comm t (D ^ k) (U ^ k)) (le_trans x y)) (one-le-pow k U p)

-- where X is a whole number of D's, more than M of them are M + 1 at least
step : (M D W X : ℕ) → X ≡ W * D → M * D < X → (M + 1) * D ≤ X
step M D W X e h = rw e (mul-le-mul_right D (add-one-le (lt_of_mul-lt-mul_right D (rw e at h))))

-- a value of 53 binary digits that is above M / 2 ^ 51 is at least (M + 1) / 2 ^ 51, where M has 53 digits itself
gap : (M n : ℕ) (e : ℤ) → 2 ^ 52 ≤ M → n < 2 ^ 53 → M * down e < n * up e * 2 ^ 51 → (M + 1) * down e ≤ n * up e * 2 ^ 51
gap M n (pos k) m s h = omega arith
gap M n (negsuc k) m s h = elim (cases_lt k 51) [
  | inl l ↦
      let i : 51 - suc k + suc k ≡ 51 = omega arith in
      let p : 2 ^ 51 ≡ 2 ^ (51 - suc k) * 2 ^ suc k = subst (λ (z : ℕ). 2 ^ z ≡ 2 ^ (51 - suc k) * 2 ^ suc k) i (pow-add 2 (51 - suc k) (suc k)) in
      step M (2 ^ suc k) (n * 2 ^ (51 - suc k)) (n * 1 * 2 ^ 51) (rw (mul-one, mul_assoc) (ap (λ (z : ℕ). n * z) p)) h
  | inr l ↦ let q : 52 ≤ suc k = omega arith in omega (arith, mul-le-mul m (pow_mono q))
]

-- for every number of the format, the code's test decides whether its fifth power exceeds 1000
pub spread : (r : Float) → fits binary64 r ≡ true → lt (fin false 8964576524791263 (negsuc 50)) r ≡ spread_is_high r
unfolding lt spread_is_high
spread nan p = refl
spread (inf s) p = refl
spread (fin true n e) p = refl
spread (fin false n e) p =
    same_test _ _ _ _
    (λ h. over 5 (n * up e) (down e) 8964576524791264 (2 ^ 51) 1000 (down_pos e) (lit< tt) (gap 8964576524791263 n e (lit≤ tt) (digits false n e (subst T (sym p) tt)) h))
    (λ h. under 5 (n * up e) (down e) 8964576524791263 (2 ^ 51) 1000 (lit< tt) (lit≤ tt) h)
