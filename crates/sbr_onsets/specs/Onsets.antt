-- Onsets of a frame, whether its halves are alike, from the slot energies e, and its lead: `elect_grid` and `detect_onsets` of
-- src/sbr_encoder.rs.
use Rattle.std.specs.Prelude.{Bool, cond, ◌&&◌, List, [], ◌∷◌, ℕ, zero, suc, ◌+◌, ◌-◌, ◌/◌, min, ltb, get_or, ℤ, pos, negsuc, ◌-ℤ◌, Float}
use Rattle.std.specs.Float.Ieee as Ieee
use Rattle.std.specs.Float.{binary64, nan}
use Rattle.std.specs.Float.Ieee.{of_bits}
use Rattle.sbr_floats.specs.Floats.{zero64, floor64, max_of, min_of, total, mean_of}

-- the slot energies in an array
abbrev pub energy_at : List Float → ℕ → Float
energy_at e i = get_or e i nan

-- 8.0, 1e-9, 0.1, 1.0, 0.5, 2.0
abbrev pub eight : Float
eight = of_bits binary64 0x4020_0000_0000_0000

abbrev pub nano : Float
nano = of_bits binary64 0x3e11_2e0b_e826_d695

abbrev pub tenth : Float
tenth = of_bits binary64 0x3fb9_9999_9999_999a

abbrev pub one64 : Float
one64 = of_bits binary64 0x3ff0_0000_0000_0000

abbrev pub half : Float
half = of_bits binary64 0x3fe0_0000_0000_0000

abbrev pub two64 : Float
two64 = of_bits binary64 0x4000_0000_0000_0000

-- the largest of e 0 .. e (n - 1), from 0.0
unfoldable pub peak_for : (ℕ → Float) → ℕ → Float
peak_for e zero = zero64
peak_for e (suc n) = max_of (peak_for e n) (e n)

-- the mean of the k slots before s
abbrev pub mean_before : (ℕ → Float) → ℕ → ℕ → Float
mean_before e k s = mean_of (total (λ i. e (s - k + i)) k) k

-- the smaller of the means of the 4 and of the 2 slots before s
abbrev pub smaller_mean : (ℕ → Float) → ℕ → Float
smaller_mean e s = min_of (mean_before e 4 s) (mean_before e 2 s)

unfoldable pub is_attack : (ℕ → Float) → Float → ℕ → Bool
is_attack e peak s =
    Ieee.lt (Ieee.add binary64 (Ieee.mul binary64 eight (smaller_mean e s)) nano) (e s)
    && Ieee.lt (Ieee.mul binary64 tenth peak) (e s) && Ieee.lt floor64 (e s)

-- the onsets from slot s on and before n, k at most: 4 slots on after one, 1 slot on otherwise; j slots are left to look at
unfoldable pub onsets_from : (ℕ → Bool) → ℕ → ℕ → ℕ → ℕ → List ℕ
onsets_from f zero k s n = []
onsets_from f (suc j) zero s n = []
onsets_from f (suc j) (suc k) s n =
    cond (ltb s n) (cond (f s) (s ∷ onsets_from f j k (s + 4) n) (onsets_from f j (suc k) (s + 1) n)) []

unfoldable pub detect_onsets : (ℕ → Bool) → ℕ → List ℕ
detect_onsets f n = onsets_from f n 3 4 n

-- (first half + 1) / (second half + 1) is within 0.5 to 2, ends included
unfoldable pub halves_alike : (ℕ → Float) → ℕ → Bool
halves_alike e n =
    let h = n / 2 in
    let first = Ieee.add binary64 (total e h) one64 in
    let second = Ieee.add binary64 (total (λ i. e (h + i)) (n - h)) one64 in
    let ratio = Ieee.div binary64 first second in
    Ieee.le half ratio && Ieee.le ratio two64

-- the onsets of a frame; the peak is taken over 8 slots more
abbrev pub onsets_for : (ℕ → Float) → ℕ → List ℕ
onsets_for e n = detect_onsets (is_attack e (peak_for e (n + 8))) n

-- a whole number held to 0 to 3
abbrev pub held_to_three : ℤ → ℕ
held_to_three (pos k) = min k 3
held_to_three (negsuc k) = 0

-- the lead of a frame: the previous border less the slot count, held to 0 to 3
abbrev pub lead_for : ℕ → ℤ → ℕ
lead_for n previous = held_to_three (previous -ℤ pos n)
