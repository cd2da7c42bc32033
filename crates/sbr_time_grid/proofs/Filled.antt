-- A list in which the places from a to b hold f, and every other place what it held in u.
use mathlib.Core.Path.{◌≡◌, refl, ◌∙◌}
use mathlib.Core.List.{List}
use Prim.Native.Nat.{ℕ, ◌≤◌, ◌<◌}
use native.Mathlib.Omega.{arith}
use native.Mathlib.Decide.{ℕ_discrete}
use lib.ListN.{length, get_or, set}
use lib.Seq.{get_or-set_same, get_or-set_other}

pub record Filled (f : ℕ → ℕ) (a b : ℕ) (u t : List ℕ) : Type 0 where
  pub inside : (j : ℕ) → a ≤ j → j ≤ b → get_or t j 0 ≡ f j
  pub below : (j : ℕ) → j < a → get_or t j 0 ≡ get_or u j 0
  pub above : (j : ℕ) → b < j → get_or t j 0 ≡ get_or u j 0

-- a place of the list after a store
put : (f : ℕ → ℕ) (t : List ℕ) (i j v : ℕ) → i < length t → v ≡ f i → ((j ≡ i → ⊥) → get_or t j 0 ≡ f j) → Dec (j ≡ i) → get_or (set t i v) j 0 ≡ f j
put f t i j v h e k (yes p) = rw (p, get_or-set_same t i v 0 h) e
put f t i j v h e k (no p) = get_or-set_other t i j v 0 p ∙ k p

-- one place more is filled
pub filled_more : (f : ℕ → ℕ) (a b a' b' : ℕ) (u t : List ℕ) (i v : ℕ) → Filled f a b u t → i < length t → v ≡ f i → a' ≤ i → i ≤ b'
    → ((j : ℕ) → a' ≤ j → j ≤ b' → (j ≡ i → ⊥) → (a ≤ j) × (j ≤ b)) → a' ≤ a → b ≤ b' → Filled f a' b' u (set t i v)
filled_more f a b a' b' u t i v s h e p q r x y = record {
  inside = λ j l m. put f t i j v h e (λ n. s.inside j (r j l m n).0 (r j l m n).1) (ℕ_discrete j i);
  below = λ j l. get_or-set_other t i j v 0 (omega arith) ∙ s.below j (omega arith);
  above = λ j l. get_or-set_other t i j v 0 (omega arith) ∙ s.above j (omega arith);
}

-- the first place is filled
pub filled_one : (f : ℕ → ℕ) (t : List ℕ) (i v : ℕ) → i < length t → v ≡ f i → Filled f i i (set t i v) (set t i v)
filled_one f t i v h e = record {
  inside = λ j l m. let p : j ≡ i = omega arith in rw (p, get_or-set_same t i v 0 h) e;
  below = λ j l. refl;
  above = λ j l. refl;
}

-- a place that is filled does not count as one that keeps what it held
pub filled_since : (f : ℕ → ℕ) (a b : ℕ) (u t : List ℕ) (i v : ℕ) → a ≤ i → i ≤ b → Filled f a b (set u i v) t → Filled f a b u t
filled_since f a b u t i v p q s = record {
  inside = s.inside;
  below = λ j l. s.below j l ∙ get_or-set_other u i j v 0 (omega arith);
  above = λ j l. s.above j l ∙ get_or-set_other u i j v 0 (omega arith);
}
