-- Sums, peaks, onsets and halves look at the energies of the frame alone: energies that agree there give the same.
use mathlib.Core.Path.{◌≡◌, refl}
use mathlib.Core.Bool.{Bool}
use Prim.Native.Nat.{ℕ, zero, suc, ◌+◌, ◌-◌, ◌/◌, ◌≤◌, ◌<◌}
use native.Mathlib.Omega.{arith}
use native.Mathlib.Decide.{dec_lt}
use borrow.Author.Tests.{lt-ltb, le-ltb}
use lib.Ieee.{Float, nan}
use Rattle.sbr_qmf.specs.Qmf.{SampleAt}
use Rattle.sbr_energy.specs.Energy.{slot_energy, slot_energies}
use Rattle.sbr_energy.proofs.Laws.{energies_at}
use Rattle.sbr_energy.proofs.Alike.{total-same}
use Rattle.sbr_onsets.specs.Onsets.{energy_at, peak_for, is_attack, onsets_from, detect_onsets, halves_alike, onsets_for}

-- two functions agree below m
abbrev pub Agree : (ℕ → Float) → (ℕ → Float) → ℕ → Type 0
Agree e e' m = (i : ℕ) → i < m → e i ≡ e' i

-- the peak of the same numbers
pub peak_same : (e e' : ℕ → Float) (n : ℕ) → Agree e e' n → peak_for e n ≡ peak_for e' n
unfolding peak_for
peak_same e e' zero h = refl
peak_same e e' (suc n) h = rw (peak_same e e' n (λ i l. h i (omega arith)), h n (omega arith))

-- the test of slot s looks at it and at the four before it
pub attack_same : (e e' : ℕ → Float) (peak : Float) (m s : ℕ) → Agree e e' m → 4 ≤ s → s < m → is_attack e peak s ≡ is_attack e' peak s
unfolding is_attack
attack_same e e' peak m s a h l =
    rw (
      total-same (λ i. e (s - 4 + i)) (λ i. e' (s - 4 + i)) 4 (λ i k. a (s - 4 + i) (omega arith)),
      total-same (λ i. e (s - 2 + i)) (λ i. e' (s - 2 + i)) 2 (λ i k. a (s - 2 + i) (omega arith)),
      a s l,
    )

-- the scan from slot s on makes its test at the slots from s to n alone
pub scan_same : (f g : ℕ → Bool) (j k s n : ℕ) → ((i : ℕ) → s ≤ i → i < n → f i ≡ g i) → onsets_from f j k s n ≡ onsets_from g j k s n
unfolding onsets_from
scan_same f g zero k s n a = refl
scan_same f g (suc j) zero s n a = refl
scan_same f g (suc j) (suc k) s n a = elim (dec_lt s n) [
  | yes l ↦
      rw (
        lt-ltb s n l,
        a s (omega arith) l,
        scan_same f g j k (s + 4) n (λ i h. a i (omega arith)),
        scan_same f g j (suc k) (s + 1) n (λ i h. a i (omega arith)),
      )
  | no l ↦ rw (le-ltb s n (omega arith))
]

-- the onsets of a frame of n slots look at n + 8 energies
pub onsets_same : (e e' : ℕ → Float) (n : ℕ) → Agree e e' (n + 8) → onsets_for e n ≡ onsets_for e' n
unfolding detect_onsets
onsets_same e e' n a =
    rw (peak_same e e' (n + 8) a)
    (scan_same _ _ n 3 4 n (λ i h l. attack_same e e' (peak_for e' (n + 8)) (n + 8) i a h (omega arith)))

-- the halves look at n energies
pub halves_same : (e e' : ℕ → Float) (n : ℕ) → Agree e e' n → halves_alike e n ≡ halves_alike e' n
unfolding halves_alike
halves_same e e' n a =
    rw (
      total-same e e' (n / 2) (λ i l. a i (omega arith)),
      total-same (λ i. e (n / 2 + i)) (λ i. e' (n / 2 + i)) (n - n / 2) (λ i l. a (n / 2 + i) (omega arith)),
    )

-- ---- the array of energies in the place of the energies

module _ (x : SampleAt) (kl kh n : ℕ) where
  -- up to its end the array holds the energies
  energies-agree : Agree (energy_at (slot_energies x kl kh (n + 8))) (slot_energy x kl kh) (n + 8)
  energies-agree i h = energies_at x kl kh (n + 8) i nan h

  -- the onsets from the array
  pub onsets-array : onsets_for (energy_at (slot_energies x kl kh (n + 8))) n ≡ onsets_for (slot_energy x kl kh) n
  onsets-array = onsets_same _ _ n energies-agree

  -- the halves from the array
  pub halves-array : halves_alike (energy_at (slot_energies x kl kh (n + 8))) n ≡ halves_alike (slot_energy x kl kh) n
  halves-array = halves_same _ _ n (λ i h. energies-agree i (omega arith))
