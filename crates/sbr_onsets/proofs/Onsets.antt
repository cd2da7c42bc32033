-- Laws of the onsets and of the halves of a frame: the steps of the code, and what a list of onsets is.
use mathlib.Core.Path.{◌≡◌, refl, sym, ◌∙◌}
use mathlib.Core.Bool.{Bool, true, false, cond, ◌&&◌}
use mathlib.Core.List.{List, [], ◌∷◌, ◌++◌, append_assoc, append-nil}
use Prim.Native.Nat.{ℕ, zero, suc, ◌+◌, ◌-◌, ◌/◌, ◌≤◌, ◌<◌}
use native.Mathlib.Omega.{arith}
use native.Mathlib.Decide.{dec_lt}
use native.Mathlib.Numerals.{add-one}
use borrow.Author.Tests.{lt-ltb, le-ltb}
use lib.ListN.{length, set, replicate, length-set}
use lib.Ieee as Ieee
use lib.Ieee.{Float, nan, binary64}
use lib.ListN.{take, drop, length-take, length-drop}
use lib.Seq.{get_or-take, get_or-drop, length-take-le}
use Rattle.std.specs.List.{fold}
use Rattle.std.proofs.lemmas.List.{take_all}
use Rattle.std.proofs.lemmas.List.Sums.{fold_more}
use Rattle.sbr_grid.specs.Grid.{first}
use Rattle.sbr_grid.proofs.First.{first_push, first_fill}
use Rattle.sbr_floats.specs.Floats.{zero64, max_of, total}
use Rattle.sbr_build.specs.declared.Onsets.{Onsets}
use Rattle.sbr_build.specs.Cases.{onset_list, onsets_record, OnsetsFrom}
use Rattle.sbr_build.proofs.OnsetsRecord.{onsets_few, onsets_list, onsets_made}
use Rattle.sbr_onsets.specs.Onsets.{energy_at, one64, half, two64, peak_for, onsets_from, detect_onsets, halves_alike}
use Rattle.sbr_energy.proofs.Alike.{total-same}
use Rattle.sbr_onsets.proofs.OnsetSame.{peak_same}

-- a test that is passed leaves the next one, and one that is not passed is the answer
pub and_passed : (a b : Bool) → a ≡ true → (a && b) ≡ b
and_passed a b e = rw e

pub and_failed : (a b : Bool) → a ≡ false → (a && b) ≡ a
and_failed a b e = rw e

-- one energy more
pub peak_more : (e : ℕ → Float) (n : ℕ) (peak top : Float) → peak ≡ peak_for e n → top ≡ max_of peak (e n) → top ≡ peak_for e (n + 1)
unfolding peak_for
peak_more e n peak top p q = rw (add-one n, ← p) q

-- the sum of the first n of a list is that of its places
pub totals : (xs : List Float) (n : ℕ) → n ≤ length xs → total (energy_at xs) n ≡ fold (Ieee.add binary64) zero64 (take n xs)
unfolding total
totals xs zero h = refl
totals xs (suc n) h = rw (totals xs n (omega arith), ← fold_more (Ieee.add binary64) zero64 xs n nan (omega arith), add-one n)

pub fold_total : (xs : List Float) → fold (Ieee.add binary64) zero64 xs ≡ total (energy_at xs) (length xs)
fold_total xs = sym (rw (take_all (length xs) xs (omega arith)) at (totals xs (length xs) (omega arith)))

-- the sum of the slots from i up to, not including, j: k slots
pub sum_part : (e : List Float) (i j k : ℕ) → j ≡ i + k → j ≤ length e → fold (Ieee.add binary64) zero64 (take (j - i) (drop i e)) ≡ total (λ m. energy_at e (i + m)) k
sum_part e i j k p h =
    let d : j - i ≡ k = omega arith in
    let n : length (take k (drop i e)) ≡ k = omega (arith, length-take k (drop i e), length-drop i e) in
    rw d (fold_total (take k (drop i e)) ∙ rw n (total-same (energy_at (take k (drop i e))) (λ m. energy_at e (i + m)) k
    (λ m l. get_or-take k (drop i e) m nan l ∙ get_or-drop i e m nan)))

-- the peak of the first n
pub peak_part : (e : List Float) (n : ℕ) → n ≤ length e → peak_for (energy_at (take n e)) (length (take n e)) ≡ peak_for (energy_at e) n
peak_part e n h = rw (length-take-le n e h) (peak_same (energy_at (take n e)) (energy_at e) n (λ m l. get_or-take n e m nan l))

-- the two tests of the halves on the sums that the code has computed
pub halves_is : (e : List Float) (n : ℕ) (first second : Float)
    → first ≡ total (energy_at e) (n / 2) → second ≡ total (λ i. energy_at e (n / 2 + i)) (n - n / 2)
    → let ratio = Ieee.div binary64 (Ieee.add binary64 first one64) (Ieee.add binary64 second one64) in
    halves_alike (energy_at e) n ≡ (Ieee.le half ratio && Ieee.le ratio two64)
unfolding halves_alike
halves_is e n first second p q =
    rw (p, q)

-- ---- the scan

-- no onset past the end
pub onsets_end : (f : ℕ → Bool) (j k s n : ℕ) → n ≤ s → onsets_from f j k s n ≡ []
unfolding onsets_from
onsets_end f zero k s n h = refl
onsets_end f (suc j) zero s n h = refl
onsets_end f (suc j) (suc k) s n h = rw (le-ltb s n h)

-- no onset past the last that is wanted
pub onsets_full : (f : ℕ → Bool) (j s n : ℕ) → onsets_from f j 0 s n ≡ []
unfolding onsets_from
onsets_full f zero s n = refl
onsets_full f (suc j) s n = refl

-- as many slots to look at as there are before n, or more, give the same onsets
pub onsets_fuel : (f : ℕ → Bool) (j i k s n : ℕ) → n ≤ s + j → n ≤ s + i → onsets_from f j k s n ≡ onsets_from f i k s n
unfolding onsets_from
onsets_fuel f zero i k s n g h = sym (onsets_end f i k s n (omega arith))
onsets_fuel f (suc j) zero k s n g h = onsets_end f (suc j) k s n (omega arith)
onsets_fuel f (suc j) (suc i) zero s n g h = refl
onsets_fuel f (suc j) (suc i) (suc k) s n g h =
    rw (onsets_fuel f j i k (s + 4) n (omega arith) (omega arith), onsets_fuel f j i (suc k) (s + 1) n (omega arith) (omega arith))

-- one slot with an onset, and one without
pub onsets_hit : (f : ℕ → Bool) (j k s n : ℕ) → n ≤ s + j → s < n → f s ≡ true → onsets_from f j (suc k) s n ≡ s ∷ onsets_from f j k (s + 4) n
unfolding onsets_from
onsets_hit f zero k s n g h e = absurd (omega arith)
onsets_hit f (suc j) k s n g h e = rw (lt-ltb s n h, e, onsets_fuel f j (suc j) k (s + 4) n (omega arith) (omega arith))

pub onsets_miss : (f : ℕ → Bool) (j k s n : ℕ) → n ≤ s + j → s < n → f s ≡ false → onsets_from f j (suc k) s n ≡ onsets_from f j (suc k) (s + 1) n
unfolding onsets_from
onsets_miss f zero k s n g h e = absurd (omega arith)
onsets_miss f (suc j) k s n g h e = rw (lt-ltb s n h, e, onsets_fuel f j (suc j) (suc k) (s + 1) n (omega arith) (omega arith))

-- the onsets found so far in the array, zeros past them, and those from slot s on, are those of the frame
pub record Scan (f : ℕ → Bool) (n count : ℕ) (slot : List ℕ) (s : ℕ) : Type 0 where
  pub few : count ≤ 3
  pub size : length slot ≡ 3
  pub padded : slot ≡ first 0 3 (first 0 count slot)
  pub rest : first 0 count slot ++ onsets_from f n (3 - count) s n ≡ detect_onsets f n

-- before the first slot
pub scan_none : (f : ℕ → Bool) (n : ℕ) → Scan f n 0 (replicate 3 0) 4
unfolding detect_onsets
scan_none f n = record { few = omega arith; size = refl; padded = refl; rest = refl }

module _ {f : ℕ → Bool} {n count : ℕ} {slot : List ℕ} {s : ℕ} (q : Scan f n count slot s) where
  -- past a slot with an onset
  pub scan-hit : count < 3 → s < n → f s ≡ true → Scan f n (count + 1) (set slot count s) (s + 4)
  scan-hit h g e =
      let p : 3 - count ≡ suc (3 - (count + 1)) = omega arith in
      record {
        few = omega arith;
        size = length-set slot count s ∙ q.size;
        padded = first_fill 0 3 count slot s q.size h q.padded;
        rest = rw (first_push 0 count slot s (omega (arith, q.size)), append_assoc)
            (rw (p, onsets_hit f n (3 - (count + 1)) s n (omega arith) g e) at q.rest);
      }

  -- past a slot without one
  pub scan-miss : count < 3 → s < n → f s ≡ false → Scan f n count slot (s + 1)
  scan-miss h g e =
      let p : 3 - count ≡ suc (3 - (count + 1)) = omega arith in
      record {
        few = q.few;
        size = q.size;
        padded = q.padded;
        rest = rw p (rw (p, onsets_miss f n (3 - (count + 1)) s n (omega arith) g e) at q.rest);
      }

  -- where three are found, wherever the scan stands
  pub scan-kept : (u : ℕ) → 3 ≤ count → Scan f n count slot u
  scan-kept u h =
      let p : 3 - count ≡ 0 = omega arith in
      record {
        few = q.few;
        size = q.size;
        padded = q.padded;
        rest = rw (p, onsets_full f n u n) (rw (p, onsets_full f n s n) at q.rest);
      }

  -- no onset is left: the array holds those of the frame
  scan-made : onsets_from f n (3 - count) s n ≡ [] → ◌≡◌ {A = Onsets} (record { count = count; slot = slot }) (onsets_record (detect_onsets f n))
  scan-made e = onsets_made count slot (detect_onsets f n) q.padded (sym (append-nil (first 0 count slot)) ∙ (rw e at q.rest))

  -- the slots end
  pub scan-end : n ≤ s → ◌≡◌ {A = Onsets} (record { count = count; slot = slot }) (onsets_record (detect_onsets f n))
  scan-end h = scan-made (onsets_end f n (3 - count) s n h)

-- ---- what a list of onsets is

-- what holds of both holds of the one that is picked
pick : (P : List ℕ → Type 0) (t : Bool) (a b : List ℕ) → P a → P b → P (cond t a b)
pick P true a b p q = p
pick P false a b p q = q

-- the onsets from slot s on, k at most, lie from lo on
onsets_lie : (f : ℕ → Bool) (j k lo s n : ℕ) → lo ≤ s → OnsetsFrom k lo n (onsets_from f j k s n)
unfolding onsets_from
onsets_lie f zero zero lo s n h = tt
onsets_lie f zero (suc k) lo s n h = tt
onsets_lie f (suc j) zero lo s n h = tt
onsets_lie f (suc j) (suc k) lo s n h = elim (dec_lt s n) [
  | yes l ↦
      rw (lt-ltb s n l)
      (pick (OnsetsFrom (suc k) lo n) (f s) _ _ (h, l, onsets_lie f j k (s + 4) (s + 4) n (omega arith))
      (onsets_lie f j (suc k) lo (s + 1) n (omega arith)))
  | no l ↦ rw (le-ltb s n (omega arith)) tt
]

-- the onsets of a frame of n slots: three at most, the first from slot 4 on, each 4 or more after the one before
pub onsets_apart : (f : ℕ → Bool) (n : ℕ) → OnsetsFrom 3 4 n (detect_onsets f n)
unfolding detect_onsets
onsets_apart f n = onsets_lie f n 3 4 4 n (omega arith)

-- the list of them in the array that holds them
pub onsets_listed : {r : Onsets} (f : ℕ → Bool) (n : ℕ) → r ≡ onsets_record (detect_onsets f n) → onset_list r ≡ detect_onsets f n
onsets_listed f n e = onsets_list e (onsets_few 3 4 n (detect_onsets f n) (onsets_apart f n))
