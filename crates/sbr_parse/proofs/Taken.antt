-- What the step of reading, `take`, has read where it answers, and where it does not.
use Rattle.std.specs.Prelude.{Ok, Err}
use mathlib.Core.Path.{◌≡◌, sym, ap, ◌∙◌}
use Prim.Native.Nat.{ℕ, ◌+◌, ◌-◌, ◌/◌, ◌%◌, ◌^◌, ◌≤◌, ◌<◌}
use native.Mathlib.Nat.{div-eq_of_lt, lt_of_lt_of_le}
use lib.Pow.{pow_mono}
use native.Mathlib.Decide.{dec_le}
use native.Mathlib.Omega.{arith}
use borrow.Author.Tests.{le-leb, lt-leb, leb-true}
use lib.Dec.{leb}
use Rattle.std.specs.Result.{IsErrAnd}
use Rattle.std.proofs.lemmas.Result.{err_from_is_err_and}
use Rattle.bits.specs.declared.Window.{Window}
use Rattle.sbr_grid.specs.declared.Refusal.{Refusal}
use Rattle.sbr_grid.specs.declared.Refusal.TheVariants.{BitsEnd}
use Rattle.sbr_grid.specs.Refusals.{Outcome}
use Rattle.sbr_grid.proofs.Outcomes.{unless_answered}
use Rattle.sbr_parse.specs.Parse.{taken}

-- no bits stand above the 32nd
pub none_above : (v k : ℕ) → v < 2 ^ 32 → 32 ≤ k → 0 ≡ v / 2 ^ k
none_above v k h l = sym (div-eq_of_lt (lt_of_lt_of_le h (pow_mono {i = 32} l)))

-- n bits were taken: the number x, and the bits r behind them
pub record Taken (n : ℕ) (w : Window) (x : ℕ) (r : Window) : Type 0 where
  pub width : w.width ≡ n + r.width
  pub number : x ≡ w.value / 2 ^ r.width % 2 ^ n
  pub value : r.value ≡ w.value

pub took : (n : ℕ) (w : Window) (o : Outcome (ℕ × Window)) (x : ℕ) (r : Window) → o ≡ taken n w → o ≡ Ok (x, r) → Taken n w x r
took n w o x r e h =
    let u = unless_answered (leb n w.width) BitsEnd (Ok (w.value / 2 ^ (w.width - n) % 2 ^ n, record { value = w.value; width = w.width - n })) (sym e ∙ h) in
    let p : (w.value / 2 ^ (w.width - n) % 2 ^ n, record { value = w.value; width = w.width - n }) ≡ (x, r) = cc u.1 in
    let l = leb-true n w.width u.0 in
    let d : w.width - n ≡ r.width = ap (λ (q : ℕ × Window). q.1.width) p in
    record {
      width = omega arith;
      number = sym (ap (λ (q : ℕ × Window). q.0) p) ∙ rw d;
      value = sym (ap (λ (q : ℕ × Window). q.1.value) p);
    }

-- fewer than n bits are there, and what is handed out for that, r, is 7
pub record Stopped {A : Type 0} (n : ℕ) (w : Window) (r : Outcome A) : Type 0 where
  pub few : w.width < n
  pub is : r ≡ Err BitsEnd

pub stopped : {A : Type 0} (n : ℕ) (w : Window) (o : Outcome (ℕ × Window)) (e : Refusal) (r : Outcome A)
    → o ≡ taken n w → o ≡ Err e → IsErrAnd r (λ d. d ≡ e) → Stopped n w r
stopped n w o e r h k f = go (dec_le n w.width) (sym h ∙ k)
  where
    go : Dec (n ≤ w.width) → taken n w ≡ Err e → Stopped n w r
    go (yes l) q = let z : Ok _ ≡ Err e = rw (le-leb n w.width l) at q in cc
    go (no l) q =
        let z = rw (lt-leb n w.width (omega arith)) at q in
        let p = err_from_is_err_and r f in
        record { few = omega arith; is = p.1 ∙ ap Err (p.2 ∙ cc z) }
