-- Numbers of 64 bits: maximum, minimum, mean and the spread limit (docs/ORDER.md, ON-13, RS-9 to RS-11).
use Rattle.std.specs.Prelude.{Bool, false, cond, not, ◌&&◌, ℕ, zero, suc, ◌*◌, ◌^◌, ltb, pos, Float}
use Rattle.std.specs.Float.Ieee as Ieee
use Rattle.std.specs.Float.{fin, inf, nan, binary64}
use Rattle.std.specs.Float.Ieee.{of_bits, up, down}

-- 0.0
abbrev pub zero64 : Float
zero64 = of_bits binary64 0

-- 64.0, the energy that an onset, a spread band and a quantised value above 0 have to exceed
abbrev pub floor64 : Float
floor64 = of_bits binary64 0x4050_0000_0000_0000

-- f64::max and f64::min: where one is a NaN the other one is taken
abbrev pub max_of : Float → Float → Float
max_of a b = cond (Ieee.is_nan a) b (cond (Ieee.is_nan b) a (cond (Ieee.lt a b) b a))

abbrev pub min_of : Float → Float → Float
min_of a b = cond (Ieee.is_nan a) b (cond (Ieee.is_nan b) a (cond (Ieee.lt b a) b a))

-- f 0 + .. + f (n - 1), from 0.0 and from left to right, one rounding each
unfoldable pub total : (ℕ → Float) → ℕ → Float
total f zero = zero64
total f (suc n) = Ieee.add binary64 (total f n) (f n)

-- a sum over a count
abbrev pub mean_of : Float → ℕ → Float
mean_of sum n = Ieee.div binary64 sum (Ieee.of_int binary64 (pos n))

-- the spread limit: the number's fifth power exceeds 1000, over whole numbers; infinity counts, a NaN does not
unfoldable pub spread_is_high : Float → Bool
spread_is_high nan = false
spread_is_high (inf negative) = not negative
spread_is_high (fin negative m e) = not negative && ltb (1000 * down e ^ 5) ((m * up e) ^ 5)
