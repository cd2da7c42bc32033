-- What the format of 64 bits says of a finite number.
use Prim.Native.Nat.{ℕ, zero, suc, ◌*◌, ◌^◌, ◌%◌, ◌<◌, ◌≤◌}
use mathlib.Core.Bool.{Bool, ◌&&◌}
use lib.Dec.{T, ltb, leb, eqb, lit<, ltb→lt, leb→le}
use lib.IntN.{ℤ}
use lib.Ieee.{fin, binary64, up, down, fits}
use lib.Ieee.Fits.{and_l, and_r}

-- one other than 0 has at most 53 binary digits, and none under that of 2 ^ -1074
pub in_format : (s : Bool) (n : ℕ) (e : ℤ) → T (fits binary64 (fin s (suc n) e)) → (suc n < 2 ^ 53) × (down e ≤ 2 ^ 1074)
unfolding fits
in_format s n e t =
    let a : Bool = eqb (suc n % 2) 1 in
    let b : Bool = ltb (suc n) (2 ^ 53) in
    let c : Bool = leb (down e) (2 ^ 1074) in
    let u : T (a && b && c) = and_l (a && b && c) (ltb (suc n * up e) (2 ^ 1024 * down e)) t in
    (ltb→lt (suc n) (2 ^ 53) (and_r a b (and_l (a && b) c u)), leb→le (down e) (2 ^ 1074) (and_r (a && b) c u))

-- so at most 53 in any case
pub digits : (s : Bool) (n : ℕ) (e : ℤ) → T (fits binary64 (fin s n e)) → n < 2 ^ 53
digits s zero e t = lit< tt
digits s (suc n) e t = (in_format s n e t).0
