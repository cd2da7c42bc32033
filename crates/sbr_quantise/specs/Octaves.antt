-- A double above 64 by its octave and the part of it: what the functions inside the crate say of its bits.
use Rattle.std.specs.Prelude.{◌≡◌, false, ℕ, ◌+◌, ◌*◌, ◌^◌, Float}
use Rattle.std.specs.Float.{nan, inf, fin}
use Rattle.std.specs.Float.Ieee.{up, down}

-- 2 ^ 52, the parts of an octave
abbrev pub parts : ℕ
parts = 4503599627370496

-- it is 64 times 2 ^ octave times 1 + part / 2 ^ 52; infinity counts as octave 1018
abbrev pub Scales : Float → ℕ → ℕ → Type 0
Scales nan octave part = ⊥
Scales (inf negative) octave part = (negative ≡ false) × (octave ≡ 1018)
Scales (fin negative m e) octave part = (negative ≡ false) × (m * up e * parts ≡ (parts + part) * 2 ^ octave * (64 * down e))
