-- Laws of the sum of a band over slots.
use mathlib.Core.Path.{◌≡◌}
use Prim.Native.Nat.{ℕ, ◌+◌, ◌-◌, ◌*◌, ◌≤◌}
use native.Mathlib.Omega.{arith}
use lib.Ieee as Ieee
use lib.Ieee.{Float, binary64}
use Rattle.sbr_qmf.specs.Qmf.{SampleAt}
use Rattle.sbr_floats.specs.Floats.{zero64, total}
use Rattle.sbr_energy.specs.declared.Start.{Start}
use Rattle.sbr_energy.specs.Energy.{sum_from, slot_start, next_start, band_sum, band_total}
use Rattle.sbr_energy.proofs.Laws.{total_none, total_more}

-- no slot is summed yet
pub slot_none : (f : ℕ → Float) (n : ℕ) → zero64 ≡ total f (n - n)
slot_none f n =
    let e : n - n ≡ 0 = omega arith in
    rw e (total_none f)

-- the sum of w bands from band k of column c on
band_is : (x : SampleAt) (k w c d : ℕ) (start : Start) (a : Float) → start ≡ record { column = d; band = k } → c ≡ d → a ≡ sum_from x w start → a ≡ band_sum x k (k + w) c
band_is x k w c d start a e g h =
    let width : k + w - k ≡ w = omega arith in
    rw (h, e, g, width)

-- the two columns of one slot more, from the places p and q on
pub slot_more : (x : SampleAt) (k w t0 t u : ℕ) (p q : Start) (sum a b : Float) → t0 ≤ t → u ≡ t + 1 → p ≡ slot_start t k → q ≡ next_start p
    → sum ≡ band_total x t0 t k (k + w) → a ≡ sum_from x w p → b ≡ sum_from x w q → Ieee.add binary64 (Ieee.add binary64 sum a) b ≡ band_total x t0 u k (k + w)
slot_more x k w t0 t u p q sum a b h l e f s v z =
    let n : ℕ = 2 * t + 2 - (2 * t0 + 2) in
    let more : 2 * u + 2 - (2 * t0 + 2) ≡ n + 1 + 1 = omega arith in
    let g : q ≡ record { column = 2 * t + 2 + 1; band = k } = rw e at f in
    rw more (total_more _ _ _ _ (total_more _ _ _ _ s (band_is x k w (2 * t0 + 2 + n) (2 * t + 2) p a e (omega arith) v))
    (band_is x k w (2 * t0 + 2 + (n + 1)) (2 * t + 2 + 1) q b g (omega arith) z))
