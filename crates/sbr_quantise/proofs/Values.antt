-- The value of a double out of its octave and its part, for every even power.
use Prim.Native.Nat.{ℕ, ◌+◌, ◌*◌, ◌<◌, ◌≤◌, min}
use mathlib.Core.Path.{◌≡◌, refl, sym, ap, ◌∙◌}
use mathlib.Core.Bool.{Bool, true, false, true≢false}
use native.Mathlib.Nat.{mul-pos}
use native.Mathlib.Omega.{arith}
use lib.Dec.{lit<}
use lib.Ieee.{Float, nan, inf, fin, up, down, lt, of_bits}
use lib.Ieee.Fits.{down_pos}
use borrow.Author.Tests.{le-leb}
use Rattle.sbr_floats.specs.Floats.{floor64}
use Rattle.sbr_quantise.specs.Quantise.{attains, last_up_to, value_by, quantised}
use Rattle.sbr_quantise.specs.Octaves.{parts, Scales}
use Rattle.sbr_quantise.proofs.Largest.{value_at}
use Rattle.sbr_quantise.proofs.Edges.{largest-at}
use Rattle.sbr_quantise.proofs.Octaves.{tested, tested_not}

-- what is not above 64 has the value 0
value_none : (p top : ℕ) (x : Float) → lt floor64 x ≡ false → value_by p top x ≡ 0
unfolding value_by lt of_bits
value_none p top nan h = refl
value_none p top (inf true) h = refl
value_none p top (inf false) h = absurd (true≢false h)
value_none p top (fin true m e) h = refl
value_none p top (fin false m e) h = rw (le-leb (m * up e) (64 * down e) (tested_not m e h))

-- with either step
pub quantised_none : (ampRes : Bool) (x : Float) → lt floor64 x ≡ false → quantised ampRes x ≡ 0
quantised_none true x h = value_none 2 63 x h
quantised_none false x h = value_none 4 127 x h

-- what is above 64 has h for each octave and what its part attains, held to the highest value
pub value_some : (h top : ℕ) (x : Float) (o t j q : ℕ) → (0 < h) × (top ≤ 1018) × (t < parts) → lt floor64 x ≡ true → Scales x o t
    → j ≡ last_up_to (attains (2 * h) (parts + t) parts) h → q ≡ h * o + j → min q top ≡ value_by (2 * h) top x
unfolding value_by lt of_bits
value_some h top nan o t j q b l s i r = absurd s
value_some h top (inf true) o t j q b l s i r = absurd (true≢false s.0)
value_some h top (inf false) o t j q b l s i r =
    let z : h * o ≡ h * 1018 = ap (λ (z : ℕ). h * z) s.1 in
    omega arith
value_some h top (fin true m e) o t j q b l s i r = absurd (true≢false s.0)
value_some h top (fin false m e) o t j q b l s i r =
    let above : 64 * down e < m * up e = tested m e l in
    ap (λ (z : ℕ). min z top) (r ∙ ap (λ (z : ℕ). h * o + z) i)
    ∙ sym (value_at (2 * h) top m e (h * o + last_up_to (attains (2 * h) (parts + t) parts) h) above
    (largest-at h (parts + t) parts (lit< tt) (omega arith) (omega arith) (m * up e) (64 * down e) o (mul-pos (lit< tt) (down_pos e)) (omega arith) s.1))
