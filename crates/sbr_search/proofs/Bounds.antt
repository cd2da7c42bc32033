-- What a case says of a frame's onsets in an array.
use mathlib.Core.List.{List, [], ◌∷◌}
use Prim.Native.Nat.{ℕ, zero, suc, ◌+◌, ◌≤◌, ◌<◌}
use native.Mathlib.Omega.{arith}
use lib.ListN.{get_or}
use Rattle.sbr_grid.specs.Grid.{first}
use Rattle.sbr_grid.proofs.First.{first-length}
use Rattle.sbr_grid.proofs.Slots.{slot_range}
use Rattle.sbr_build.specs.declared.Onsets.{Onsets}
use Rattle.sbr_build.proofs.OnsetsRecord.{onsets_few}
use Rattle.sbr_build.specs.Frames.{FrameBounds}
use Rattle.sbr_build.specs.Cases.{OnsetsFrom, Case, onset_list}

-- the bounds of a frame, and of the count of its onsets
pub record Bounds (n lead : ℕ) (o : Onsets) : Type 0 where
  pub frame : FrameBounds n lead
  pub few : o.count ≤ 3

-- every case is within them
pub bounds : (n lead : ℕ) (o : Onsets) → Case n lead (onset_list o) → Bounds n lead o
bounds n lead o c =
    let s = slot_range n c.slots in
    record {
      frame = record { least = s.0; most = s.1; held = c.clamped };
      few = omega (arith, onsets_few 3 4 n (onset_list o) c.onsets, first-length 0 o.count o.slot);
    }

-- the first onset is at lo or later, and in the frame
first_in : (k lo n i : ℕ) (xs : List ℕ) → 1 ≤ i → OnsetsFrom (suc k) lo n (first 0 i xs) → (lo ≤ get_or xs 0 0) × (get_or xs 0 0 < n)
first_in k lo n zero xs p h = absurd (omega arith)
first_in k lo n (suc i) [] p h = (h.0, h.1)
first_in k lo n (suc i) (x ∷ xs) p h = (h.0, h.1)

-- the second onset is 4 or more after the first, and in the frame
second_in : (k lo n i : ℕ) (xs : List ℕ) → 2 ≤ i → OnsetsFrom (suc (suc k)) lo n (first 0 i xs) → (get_or xs 0 0 + 4 ≤ get_or xs 1 0) × (get_or xs 1 0 < n)
second_in k lo n zero xs p h = absurd (omega arith)
second_in k lo n (suc i) [] p h = first_in k (0 + 4) n i [] (omega arith) h.2
second_in k lo n (suc i) (x ∷ xs) p h = first_in k (x + 4) n i xs (omega arith) h.2

-- the second onset of a case is 4 or more after the first
pub second_onset : (n lead : ℕ) (o : Onsets) → Case n lead (onset_list o) → 2 ≤ o.count
    → (get_or o.slot 0 0 + 4 ≤ get_or o.slot 1 0) × (get_or o.slot 1 0 < n)
second_onset n lead o c h = second_in 1 4 n o.count o.slot h c.onsets
