-- Quantised energies of envelopes, as `quantise_envelopes` of src/sbr_encoder.rs has them but for its logarithm: an exact rule over whole numbers
-- (docs/ORDER.md, R3).
use Rattle.std.specs.Prelude.{Bool, true, false, cond, List, map, ℕ, zero, suc, ◌*◌, ◌^◌, leb, Float}
use Rattle.std.specs.Float.{nan, inf, fin}
use Rattle.std.specs.Float.Ieee.{up, down}
use Rattle.sbr_grid.specs.Refusals.{Outcome}
use Rattle.sbr_envelopes.specs.Envelopes.{fitted}

-- whether the fraction a / d attains the number q, for the power p: (a / d) ^ p is at least 2 ^ (2 q - 1), both sides times 2 d ^ p
abbrev pub attains : ℕ → ℕ → ℕ → ℕ → Bool
attains p a d q = leb (2 ^ (2 * q) * d ^ p) (2 * a ^ p)

-- the last number up to n that passes a test; 0 where none from 1 on does
unfoldable pub last_up_to : (ℕ → Bool) → ℕ → ℕ
last_up_to t zero = 0
last_up_to t (suc n) = cond (t (suc n)) (suc n) (last_up_to t n)

-- the value of an energy, for the power p and the highest value top. r, the energy m * 2 ^ e over 64, is a / d with a = m * up e and d = 64 * down e. An
-- energy of 64 or less has the value 0, and so have negative ones and a NaN; infinity has the highest
unfoldable pub value_by : ℕ → ℕ → Float → ℕ
value_by p top nan = 0
value_by p top (inf negative) = cond negative 0 top
value_by p top (fin true m e) = 0
value_by p top (fin false m e) = cond (leb (m * up e) (64 * down e)) 0 (last_up_to (attains p (m * up e) (64 * down e)) top)

-- bs_amp_res: where it is set the step is coarse, 3 dB, power 2 and values up to 63; else it is fine, 1.5 dB, power 4 and values up to 127
abbrev pub quantised : Bool → Float → ℕ
quantised ampRes x = cond ampRes (value_by 2 63 x) (value_by 4 127 x)

-- a value for each energy, in their order, where there is room for as many bytes
abbrev pub quantised_in : Bool → List Float → ℕ → Outcome (List ℕ)
quantised_in ampRes es room = fitted room (map (quantised ampRes) es)
