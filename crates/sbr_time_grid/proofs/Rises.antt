-- Laws of `rises`: where the test fails, how far numbers that rise are apart, and the test of a list.
use Rattle.std.specs.Prelude.{nat_lt}
use Rattle.std.specs.List.{list_all, zip}
use mathlib.Core.Path.{◌≡◌, refl, ◌∙◌}
use mathlib.Core.Bool.{true, false, ◌&&◌, and-false, and-true, and_assoc, false≢true}
use mathlib.Core.List.{List, [], ◌∷◌}
use lib.Dec.{ltb}
use lib.ListN.{length, get_or, drop}
use Prim.Native.Nat.{ℕ, zero, suc, ◌+◌, ◌-◌, ◌≤◌, ◌<◌}
use native.Mathlib.Omega.{arith}
use native.Mathlib.Decide.{dec_le}
use native.Mathlib.Numerals.{add-one}
use borrow.Author.Tests.{le-ltb}
use Rattle.sbr_time_grid.specs.TimeGrid.{rises}

-- one step of the next law
fails : (f : ℕ → ℕ) (k l : ℕ) → l < suc k → f (l + 1) ≤ f l → (l < k → false ≡ rises f k) → Dec (suc l ≤ k) → false ≡ rises f (suc k)
unfolding rises
fails f k l h g ih (yes a) = rw (← ih a)
fails f k l h g ih (no a) =
    let e : l ≡ k = omega arith in
    rw (le-ltb (f k) (f (suc k)) (rw (← add-one k, ← e) g), and-false (rises f k))

-- a border that is not above the one before it: the borders do not rise
pub rises_fails : (f : ℕ → ℕ) (k l : ℕ) → l < k → f (l + 1) ≤ f l → false ≡ rises f k
rises_fails f zero l h g = absurd (omega arith)
rises_fails f (suc k) l h g = fails f k l h g (λ a. rises_fails f k l a g) (dec_le (suc l) k)

-- the test looks at the borders up to the last one alone
pub rises-same : (f h : ℕ → ℕ) (k : ℕ) → ((j : ℕ) → j ≤ k → f j ≡ h j) → rises f k ≡ rises h k
unfolding rises
rises-same f h zero e = refl
rises-same f h (suc k) e =
    rw (rises-same f h k (λ j l. e j (omega arith)), e k (omega arith), e (suc k) (omega arith))

-- each step of numbers that rise
pub rises_step : (f : ℕ → ℕ) (k j : ℕ) → rises f k ≡ true → j < k → f j < f (j + 1)
rises_step f k j e h = elim (dec_le (f (j + 1)) (f j)) [
  | yes a ↦ absurd (false≢true (rises_fails f k j h a ∙ e))
  | no a ↦ omega arith
]

-- d steps of numbers that rise
rises_by : (f : ℕ → ℕ) (k i d : ℕ) → rises f k ≡ true → i + d ≤ k → f i + d ≤ f (i + d)
rises_by f k i zero e h = let p : i + 0 ≡ i = omega arith in rw p (omega arith)
rises_by f k i (suc d) e h =
    let p : i + suc d ≡ i + d + 1 = omega arith in
    rw p (omega (arith, rises_by f k i d e (omega arith), rises_step f k (i + d) e (omega arith)))

-- a later one of numbers that rise is above an earlier one by the steps between them
pub rises_gap : (f : ℕ → ℕ) (k i j : ℕ) → rises f k ≡ true → i ≤ j → j ≤ k → f i + (j - i) ≤ f j
rises_gap f k i j e h l =
    let p : i + (j - i) ≡ j = omega arith in
    rw p at (rises_by f k i (j - i) e (omega arith))

-- the first step, and the others
rises_front : (f : ℕ → ℕ) (k : ℕ) → (ltb (f zero) (f (suc zero)) && rises (λ j. f (suc j)) k) ≡ rises f (suc k)
unfolding rises
rises_front f zero = and-true (ltb (f zero) (f (suc zero)))
rises_front f (suc k) = rw (← rises_front f k, and_assoc)

-- the next law for a list that begins with x
rises_list : (x : ℕ) (xs : List ℕ) → list_all (λ p. nat_lt p.0 p.1) (zip (x ∷ xs) xs) ≡ rises (λ l. get_or (x ∷ xs) l 0) (length xs)
unfolding rises
rises_list x [] = refl
rises_list x (y ∷ xs) = rw (rises_list y xs) (rises_front (λ l. get_or (x ∷ (y ∷ xs)) l 0) (length xs))

-- the test of each number of a list and the next one is the test of the list by place
pub rises_all : (xs : List ℕ) → list_all (λ p. nat_lt p.0 p.1) (zip xs (drop 1 xs)) ≡ rises (λ l. get_or xs l 0) (length xs - 1)
unfolding rises
rises_all [] = refl
rises_all (x ∷ xs) = let e : length (x ∷ xs) - 1 ≡ length xs = omega arith in rw e (rises_list x xs)
