-- Laws of outcomes.
use Rattle.std.specs.Prelude.{Ok, Err}
use mathlib.Core.Path.{◌≡◌, refl, ap}
use Rattle.std.specs.Prelude.{IsErrAnd}
use mathlib.Core.Bool.{Bool, true, false}
use Prim.Native.Nat.{ℕ}
use native.Mathlib.Omega.{arith}
use Rattle.sbr_grid.specs.declared.Refusal.{Refusal}
use Rattle.sbr_grid.specs.Refusals.{Outcome, unless, result_map}

-- what `?` hands on of a refusal
pub passed_on : {A : Type 0} (r : Outcome A) (e : Refusal) → IsErrAnd r (λ x. x ≡ e) → r ≡ Err e
passed_on (Ok a) e h = absurd h
passed_on (Err d) e h = ap Err h

-- what follows a test is asked for only where it is passed
pub unless-same : {A : Type 0} (b : Bool) (e : Refusal) (o p : Outcome A) → (b ≡ true → o ≡ p) → unless b e o ≡ unless b e p
unless-same true e o p h = h refl
unless-same false e o p h = refl

-- an answer has passed the test
pub unless_answered : {A : Type 0} (b : Bool) (e : Refusal) (o : Outcome A) {a : A} → unless b e o ≡ Ok a → (b ≡ true) × (o ≡ Ok a)
unless_answered true e o h = (refl, h)
unless_answered false e o h = let z : ◌≡◌ {A = ℕ} 0 1 = cc in absurd (omega arith)

-- a refusal where all that follows the test is answered is the test's
pub unless_refused : {A : Type 0} (b : Bool) (e d : Refusal) (a : A) → Err d ≡ unless b e (Ok a) → (b ≡ false) × (d ≡ e)
unless_refused true e d a h = let z : ◌≡◌ {A = ℕ} 0 1 = cc in absurd (omega arith)
unless_refused false e d a h = (refl, cc)

module _ {A B : Type 0} (f : A → B) where
  -- what is handed out as a refusal is that refusal
  pub map_refused : (o : Outcome A) (e : Refusal) → Err e ≡ result_map f o → o ≡ Err e
  map_refused (Ok a) e h = let z : ◌≡◌ {A = ℕ} 0 1 = cc in absurd (omega arith)
  map_refused (Err d) e h = cc

  -- what is handed out as an answer is f of a value
  pub map_answered : (o : Outcome A) (b : B) → Ok b ≡ result_map f o → (a : A) × ((o ≡ Ok a) × (b ≡ f a))
  map_answered (Ok a) b h = (a, (refl, cc))
  map_answered (Err e) b h = let z : ◌≡◌ {A = ℕ} 0 1 = cc in absurd (omega arith)
