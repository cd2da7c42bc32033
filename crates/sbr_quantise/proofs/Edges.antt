-- Which numbers a fraction attains depends on its value alone, and a factor 2 ^ k adds h for each of k, where the power is 2 h. So the largest number of an
-- energy is h times its octave, and what its part attains of the h edges of an octave.
use Prim.Native.Nat.{ℕ, ◌+◌, ◌-◌, ◌*◌, ◌^◌, ◌<◌, ◌≤◌}
use mathlib.Core.Path.{◌≡◌, sym, ap, ◌∙◌}
use mathlib.Core.Bool.{Bool, true, false}
use native.Mathlib.Decide.{dec_le}
use native.Mathlib.Nat.{le_trans, lt_of_le_of_lt, lt_of_lt_of_le, mul_assoc, mul_comm, mul_left_comm, mul_right_comm, mul-add, pow-le-pow_left, one-le-pow, mul-le-mul_right, mul-le-mul_left, le_of_mul-le-mul_right, mul-pos}
use native.Mathlib.Omega.{arith}
use lib.Dec.{leb, lit≤, lit<}
use Rattle.std.specs.Prelude.{cond, sum_by, length, List, [], ◌∷◌}
use Rattle.sbr_quantise.specs.Octaves.{parts}
use lib.Pow.{pow-add, pow_pos, pow_mono}
use borrow.Author.Tests.{le-leb, lt-leb, leb-true}
use Rattle.std.proofs.lemmas.Nat.{mul-pow}
use Rattle.std.proofs.lemmas.List.Sums.{sum_by-cons}
use Rattle.sbr_floats.proofs.Powers.{pow-pow}
use Rattle.sbr_quantise.specs.Quantise.{attains, last_up_to}
use Rattle.sbr_quantise.specs.Largest.{Largest}
use Rattle.sbr_quantise.proofs.Largest.{not_leb, Meets, lowest, attained, not-met, last-passes, last-most}

-- two tests are equal where each gives the other
leb_same : (a b c d : ℕ) → (a ≤ b → c ≤ d) → (c ≤ d → a ≤ b) → leb a b ≡ leb c d
leb_same a b c d f g = elim (dec_le a b) [
  | yes h ↦ le-leb a b h ∙ sym (le-leb c d (f h))
  | no h ↦ elim (dec_le c d) [
    | yes k ↦ absurd (h (g k))
    | no k ↦ not_leb a b h ∙ sym (not_leb c d k)
  ]
]

-- a / d is b / u: what the one meets the other does
meets_too : (p a d b u q : ℕ) → 0 < d → a * u ≡ b * d → Meets p a d q → Meets p b u q
meets_too p a d b u q h e r =
    let x : 2 ^ (2 * q) * d ^ p * u ^ p ≤ 2 * a ^ p * u ^ p = mul-le-mul_right (u ^ p) r in
    let y : a ^ p * u ^ p ≡ b ^ p * d ^ p = sym (mul-pow a u p) ∙ ap (λ (z : ℕ). z ^ p) e ∙ mul-pow b d p in
    le_of_mul-le-mul_right (rw (mul_assoc 2 (b ^ p) (d ^ p), ← y, ← mul_assoc 2 (a ^ p) (u ^ p), mul_right_comm (2 ^ (2 * q)) (u ^ p) (d ^ p)) x) (one-le-pow p d h)

-- two fractions of one value attain the same numbers
same_value : (p a d b u q : ℕ) → 0 < d → 0 < u → a * u ≡ b * d → attains p a d q ≡ attains p b u q
same_value p a d b u q h l e = leb_same _ _ _ _ (meets_too p a d b u q h e) (meets_too p b u a d q l (sym e))

-- a factor 2 ^ k adds h for each of k, where the power is 2 h
octaves : (h m u k j : ℕ) → attains (2 * h) (m * 2 ^ k) u (h * k + j) ≡ attains (2 * h) m u j
octaves h m u k j =
    let g : ℕ = 2 ^ (k * (2 * h)) in
    let e : 2 * (h * k + j) ≡ k * (2 * h) + 2 * j = rw mul-add (ap (λ (z : ℕ). z + 2 * j) (simp (mul_assoc, mul_comm, mul_left_comm))) in
    let x : 2 ^ (2 * (h * k + j)) * u ^ (2 * h) ≡ 2 ^ (2 * j) * u ^ (2 * h) * g = rw (e, pow-add) (simp (mul_assoc, mul_comm, mul_left_comm)) in
    let y : 2 * (m * 2 ^ k) ^ (2 * h) ≡ 2 * m ^ (2 * h) * g = rw (mul-pow, pow-pow 2 k (2 * h)) (sym (mul_assoc 2 (m ^ (2 * h)) g)) in
    rw (x, y) (leb_same _ _ _ _ (λ r. le_of_mul-le-mul_right r (pow_pos (k * (2 * h)))) (λ r. mul-le-mul_right g r))

-- below 2 no number past those of the octave is attained
none_past : (h m u : ℕ) → 0 < u → m ≤ 2 * u → 2 * m ^ (2 * h) < 2 ^ (2 * (h + 1)) * u ^ (2 * h)
none_past h m u p l =
    let x : m ^ (2 * h) ≤ 2 ^ (2 * h) * u ^ (2 * h) = rw (← mul-pow) (pow-le-pow_left l (2 * h)) in
    let e : 2 * (h + 1) ≡ 2 * h + 2 = omega arith in
    let y : 2 ^ (2 * (h + 1)) * u ^ (2 * h) ≡ 4 * (2 ^ (2 * h) * u ^ (2 * h)) = rw (e, pow-add) (simp (mul_assoc, mul_comm, mul_left_comm)) in
    let z : 1 ≤ 2 ^ (2 * h) * u ^ (2 * h) = mul-pos (pow_pos (2 * h)) (one-le-pow (2 * h) u p) in
    omega arith

-- of an octave's h numbers a fraction m / u from 1 to 2 attains the first ones, j of them, and not the next
module _ (h m u : ℕ) (p : 0 < u) (l : u ≤ m) (b : m ≤ 2 * u) where
  abbrev j : ℕ
  j = last_up_to (attains (2 * h) m u) h

  passes : attains (2 * h) m u j ≡ true
  passes = last-passes (attains (2 * h) m u) h (le-leb _ _ (lowest (2 * h) m u l))

  not-next : (i : ℕ) → j < i → attains (2 * h) m u i ≡ false
  not-next i g = elim (dec_le i h) [
    | yes c ↦ not_leb _ _ (λ (r : Meets (2 * h) m u i). omega (arith, last-most (attains (2 * h) m u) h i c (le-leb _ _ r)))
    | no c ↦ lt-leb _ _ (lt_of_lt_of_le (none_past h m u p b) (mul-le-mul_right (u ^ (2 * h)) (pow_mono {i = 2 * (h + 1)} {j = 2 * i} (omega arith))))
  ]

  -- m / u times 2 ^ k attains h numbers for each octave, and j more
  pub largest-at : (a d k : ℕ) → 0 < d → d ≤ a → a * u ≡ m * 2 ^ k * d → Largest (2 * h) a d (h * k + j)
  largest-at a d k c above e =
      let same : (i : ℕ) → attains (2 * h) a d (h * k + i) ≡ attains (2 * h) m u i = λ i. same_value (2 * h) a d (m * 2 ^ k) u (h * k + i) c p e ∙ octaves h m u k i in
      record {
        attained = attained (2 * h) a d above (h * k + j) (leb-true _ _ (same j ∙ passes));
        most = λ i r. elim (dec_le i (h * k + j)) [
          | yes g ↦ g
          | no g ↦
              let x : h * k + (i - h * k) ≡ i = omega arith in
              absurd (not-met (2 * h) a d above i (rw x at (same (i - h * k) ∙ not-next (i - h * k) (omega arith))) r)
        ];
      }

-- ---- an edge between 1 and 2, in parts past u: from it on the number j is attained, before it is not

pub at_edge : (p u j edge t : ℕ) → edge ≤ t → Meets p (u + edge) u j → attains p (u + t) u j ≡ true
at_edge p u j edge t h r = le-leb _ _ (le_trans r (mul-le-mul_left 2 (pow-le-pow_left {n = u + edge} {m = u + t} (omega arith) p)))

pub under_edge : (p u j edge t : ℕ) → t < edge → 2 * (u + edge - 1) ^ p < 2 ^ (2 * j) * u ^ p → attains p (u + t) u j ≡ false
under_edge p u j edge t h s = lt-leb _ _ (lt_of_le_of_lt (mul-le-mul_left 2 (pow-le-pow_left {n = u + t} {m = u + edge - 1} (omega arith) p)) s)

-- ---- the code's edges: as many of them as a part has reached are attained

-- a test counts 1 at most
test_once : (b : Bool) → cond b 1 0 ≤ 1
test_once true = lit≤ tt
test_once false = lit≤ tt

-- a part attains no more edges than there are
pub attained_few : (t : ℕ) (edges : List ℕ) → sum_by (λ e. cond (leb e t) 1 0) edges ≤ length edges
attained_few t [] = lit≤ tt
attained_few t (e ∷ es) = rw (sum_by-cons (λ e. cond (leb e t) 1 0) e es) (omega (arith, test_once (leb e t), attained_few t es))

pub coarse_is : (t : ℕ) → sum_by (λ e. cond (leb e t) 1 0) (1865452045155277 ∷ []) ≡ last_up_to (attains 2 (parts + t) parts) 1
unfolding last_up_to
coarse_is t = elim (dec_le 1865452045155277 t) [
  | yes h ↦ rw (le-leb 1865452045155277 t h, at_edge 2 parts 1 1865452045155277 t h (lit≤ tt))
  | no h ↦ rw (lt-leb 1865452045155277 t (omega arith), under_edge 2 parts 1 1865452045155277 t (omega arith) (lit< tt))
]

pub fine_is : (t : ℕ) → sum_by (λ e. cond (leb e t) 1 0) (852113092622102 ∷ 3070521937417134 ∷ []) ≡ last_up_to (attains 4 (parts + t) parts) 2
unfolding last_up_to
fine_is t = elim (dec_le 3070521937417134 t) [
  | yes h ↦
      rw (le-leb 852113092622102 t (omega arith), le-leb 3070521937417134 t h, at_edge 4 parts 2 3070521937417134 t h (lit≤ tt))
  | no h ↦ elim (dec_le 852113092622102 t) [
    | yes g ↦
        rw (
          le-leb 852113092622102 t g,
          lt-leb 3070521937417134 t (omega arith),
          under_edge 4 parts 2 3070521937417134 t (omega arith) (lit< tt),
          at_edge 4 parts 1 852113092622102 t g (lit≤ tt),
        )
    | no g ↦
        rw (
          lt-leb 852113092622102 t (omega arith),
          lt-leb 3070521937417134 t (omega arith),
          under_edge 4 parts 2 3070521937417134 t (omega arith) (lit< tt),
          under_edge 4 parts 1 852113092622102 t (omega arith) (lit< tt),
        )
  ]
]
