-- Frames in numbers.
use mathlib.Core.Path.{◌≡◌, refl}
use mathlib.Core.Bool.{Bool}
use mathlib.Core.List.{List, [], ◌∷◌, ◌++◌}
use Prim.Native.Nat.{ℕ, ◌+◌, ◌*◌, ◌%◌, ◌^◌, ◌<◌, ◌≤◌}
use native.Mathlib.Omega.{arith}
use lib.Arith.{digits_lt}
use lib.ListN.{length}
use lib.Pow.{shl_exact, pow-add}
use Rattle.std.specs.List.{fold}
use Rattle.std.specs.Int.Bits.{bit_or}
use Rattle.std.proofs.lemmas.Nat.{or_shifted}
use Rattle.bits.specs.Bits.{bit_n, num_from, num_of}
use Rattle.bits.proofs.Numbers.{bit_lt}
use Rattle.run_lines.specs.Number.{with_digit, with_digits}

-- a few flags in a number: none is lost at its top
folded : (v k : ℕ) (l : List Bool) → v < 2 ^ k → k + length l ≤ 64 → fold (λ v f. bit_or (v * 2 % 2 ^ 64) (bit_n f)) v l ≡ num_from v l
unfolding num_from
folded v k [] h l = refl
folded v k (b ∷ r) h l =
    let i = bit_lt b in
    rw (shl_exact k 1 64 h (omega arith), or_shifted v 1 (bit_n b) i)
    (folded (v * 2 + bit_n b) (k + 1) r (rw (pow-add 2 k 1) (digits_lt h i)) (omega arith))

-- five resolutions in a number
pub five_bits : (l : List Bool) → length l ≡ 5 → fold (λ v f. bit_or (v * 2 % 2 ^ 64) (bit_n f)) 0 l ≡ num_of l
five_bits l h = folded 0 0 l (omega arith) (omega arith)

-- digits behind others
pub digits_append : (a : ℕ) (xs ys : List ℕ) → with_digits a (xs ++ ys) ≡ with_digits (with_digits a xs) ys
digits_append a [] ys = refl
digits_append a (x ∷ xs) ys = digits_append (with_digit a x) xs ys
