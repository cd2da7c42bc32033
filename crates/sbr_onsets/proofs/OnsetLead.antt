-- Laws of the lead, and of the signed numbers that the code finds it with.
use mathlib.Core.Path.{◌≡◌}
use mathlib.Core.Bool.{true}
use Prim.Native.Nat.{ℕ, zero, suc, ◌≤◌}
use native.Mathlib.Omega.{arith}
use native.Mathlib.Decide.{dec_lt}
use borrow.Author.Tests.{lt-ltb, le-ltb}
use lib.IntN.{ℤ, pos, negsuc, ◌-ℤ◌, nat_abs}
use lib.Ieee.{Float}
use mir.Syntax.{w32, w64}
use mir.Val.{SFits, to_z, of_z}
use Rattle.std.specs.Int.{int_max, int_min}
use mir.ValLaws.{to_z-of_z, to_z_pos}
use Rattle.sbr_grid.specs.Times.{is_slot_count}
use Rattle.sbr_build.specs.Cases.{Case}
use Rattle.sbr_onsets.specs.Onsets.{held_to_three, lead_for, onsets_for}
use Rattle.sbr_onsets.proofs.Onsets.{onsets_apart}

-- a number that is held is at most 3
held_small : (z : ℤ) → held_to_three z ≤ 3
held_small (pos k) = omega arith
held_small (negsuc k) = omega arith

-- so is the lead
pub lead_small : (n : ℕ) (previous : ℤ) → lead_for n previous ≤ 3
lead_small n previous = held_small (previous -ℤ pos n)

-- a frame hands its lead and its onsets to the builders
pub frame_case : (n : ℕ) (previous : ℤ) (e : ℕ → Float) → is_slot_count n ≡ true → Case n (lead_for n previous) (onsets_for e n)
frame_case n previous e h = record { slots = h; clamped = lead_small n previous; onsets = onsets_apart _ n }

-- ---- the difference of the code

-- a number of 32 bits in 64
pub fits_wide : (z : ℤ) → SFits w32 z → SFits w64 z
fits_wide z f = record { sfits = omega (arith, f.sfits) }

-- it is itself there
pub wide_is : (z : ℤ) → SFits w32 z → to_z w64 (of_z w64 (to_z w32 (of_z w32 z))) ≡ z
wide_is z f = rw (to_z-of_z w32 z f) (to_z-of_z w64 z (fits_wide z f))

-- less a slot count it fits
past_fits : (z : ℤ) (n : ℕ) → SFits w32 z → n ≤ 16 → SFits w64 (z -ℤ pos n)
past_fits (pos a) zero f h = record { sfits = omega (arith, f.sfits) }
past_fits (pos a) (suc n) f h = elim (dec_lt a (suc n)) [
  | yes l ↦ rw (lt-ltb a (suc n) l) (record { sfits = omega (arith, f.sfits) })
  | no l ↦ rw (le-ltb a (suc n) (omega arith)) (record { sfits = omega (arith, f.sfits) })
]
past_fits (negsuc a) zero f h = rw (lt-ltb 0 (suc a) (omega arith)) (record { sfits = omega (arith, f.sfits) })
past_fits (negsuc a) (suc n) f h = record { sfits = omega (arith, f.sfits) }

module _ (z : ℤ) (n : ℕ) (f : SFits w32 z) (h : n ≤ 16) where
  -- the code's difference fits
  pub code_fits : SFits w64 (to_z w64 (of_z w64 (to_z w32 (of_z w32 z))) -ℤ to_z w64 n)
  code_fits = rw (wide_is z f, to_z_pos w64 n (omega arith)) (past_fits z n f h)

  -- and is the difference
  pub code_is : to_z w64 (of_z w64 (to_z w64 (of_z w64 (to_z w32 (of_z w32 z))) -ℤ to_z w64 n)) ≡ z -ℤ pos n
  code_is = rw (wide_is z f, to_z_pos w64 n (omega arith)) (to_z-of_z w64 (z -ℤ pos n) (past_fits z n f h))

-- the difference, held by the library to 0 to 3
pub lead_is : (z r : ℤ) → r ≡ int_max (pos 0) (int_min z (pos 3)) → nat_abs (to_z w64 (of_z w64 r)) ≡ held_to_three z
lead_is (pos k) r e = elim (dec_lt 3 k) [
  | yes l ↦ rw (e, lt-ltb 3 k l) (omega arith)
  | no l ↦ rw (e, le-ltb 3 k (omega arith), le-ltb k 0 (omega arith), to_z-of_z w64 (pos k) (record { sfits = omega arith })) (omega arith)
]
lead_is (negsuc k) r e = rw e
