-- What `find` finds in a range: the first number that passes a test.
use Rattle.std.specs.Prelude.{Option, Some, None}
use Rattle.std.specs.List.{find, range_with_len}
use mathlib.Core.Path.{◌≡◌, refl, sym, ◌∙◌}
use mathlib.Core.Bool.{Bool, true, false, cond, false≢true}
use mathlib.Core.Logic.{◌⊎◌, inl, inr}
use Prim.Native.Nat.{ℕ, zero, suc, ◌+◌, ◌≤◌, ◌<◌}
use native.Mathlib.Nat.{eq-or-lt_of_le}
use native.Mathlib.Omega.{arith}

-- none of d numbers from k on passes, or i does, and none from k on that is below i
abbrev pub FirstIn : (ℕ → Bool) → ℕ → ℕ → Option ℕ → Type 0
FirstIn f k d None = (j : ℕ) → k ≤ j → j < k + d → f j ≡ true → ⊥
FirstIn f k d (Some i) = (f i ≡ true) × ((j : ℕ) → k ≤ j → f j ≡ true → i ≤ j)

-- a number from k on that passes is above k where k does not
past : (f : ℕ → Bool) (k j : ℕ) → f k ≡ false → f j ≡ true → (k ≡ j) ⊎ (k < j) → k + 1 ≤ j
past f k j e p (inl q) = absurd (false≢true (sym (rw q at e) ∙ p))
past f k j e p (inr q) = omega arith

-- the next law, by what the test of k says
first_by : (f : ℕ → Bool) (k d : ℕ) (b : Bool) (o : Option ℕ) → f k ≡ b → FirstIn f (k + 1) d o → FirstIn f k (suc d) (cond b (Some k) o)
first_by f k d true o e x = (e, λ j a p. a)
first_by f k d false None e x = λ j a b p. x j (past f k j e p (eq-or-lt_of_le a)) (omega arith) p
first_by f k d false (Some i) e x = (x.0, λ j a p. x.1 j (past f k j e p (eq-or-lt_of_le a)) p)

-- it finds the first
pub first_of : (f : ℕ → Bool) (k d : ℕ) → FirstIn f k d (find f (range_with_len k d))
first_of f k zero = λ j a b p. absurd (omega arith)
first_of f k (suc d) = first_by f k d (f k) (find f (range_with_len (k + 1) d)) refl (first_of f (k + 1) d)
