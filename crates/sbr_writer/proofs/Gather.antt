-- Bits gathered into one number: one field after another, and lists of lengths or flags.
use mathlib.Core.Path.{◌≡◌, refl, sym, ◌∙◌}
use mathlib.Core.Bool.{Bool, true, false}
use mathlib.Core.List.{List, [], ◌∷◌, ◌++◌}
use Prim.Native.Nat.{ℕ, ◌+◌, ◌*◌, ◌%◌, ◌^◌, ◌<◌, ◌≤◌}
use native.Mathlib.Omega.{arith}
use borrow.Author.Tests.{le-leb, lt-leb, leb-true}
use lib.Arith.{digits_lt}
use lib.Dec.{leb}
use native.Mathlib.Nat.{add_assoc, suc-mul, mod-eq_of_lt, lt_of_lt_of_le, mul-le-mul_right}
use lib.Pow.{shl_exact, pow_mono, pow-add}
use lib.ListN.{length, length-append}
use Rattle.std.specs.List.{fold}
use Rattle.std.specs.Int.Bits.{bit_or}
use Rattle.std.proofs.lemmas.Nat.{or_shifted}
use Rattle.std.proofs.lemmas.Bool.{and_parts}
use Rattle.bits.specs.Bits.{bit_n, bit_at, bits_of, num_from, num_of}
use Rattle.bits.specs.declared.Window.{Window}
use Rattle.bits.proofs.Numbers.{num_from_lem, num_after, num_append, num_lt, length-bits_of, bits_num, bit_lt}
use Rattle.sbr_grid.specs.Grid.{ptr_bits}
use Rattle.sbr_grid.proofs.Widths.{pointer_width}
use Rattle.sbr_writer.specs.Syntax.{env_code, twos}
use Rattle.sbr_writer.specs.Write.{every, small}
use Rattle.sbr_writer.specs.Code.{appended, Behind, Space, joined_twos, joined_flags}

-- n digits more make a number below 2 ^ n times larger
num_from-lt : (a m : ℕ) (bs : List Bool) → a < 2 ^ m → num_from a bs < 2 ^ (m + length bs)
num_from-lt a m bs h =
    rw (num_after a bs, pow-add 2 m (length bs))
    (lt_of_lt_of_le (omega (arith, num_lt bs, suc-mul a (2 ^ length bs))) (mul-le-mul_right (2 ^ length bs) h))

pub appended-append : (w : Window) (a b : List Bool) → appended w (a ++ b) ≡ appended (appended w a) b
appended-append w a b = rw (num_append, length-append, ← add_assoc)

pub chain : {v w r : Window} {a b : List Bool} → Behind v a w → Behind w b r → Behind v (a ++ b) r
chain {v} {w} {r} {a} {b} e f = record { is = f.is ∙ rw e.is (sym (appended-append v a b)) }

pub space_after : (w : Window) (bs : List Bool) (m n : ℕ) → Space w m → length bs + n ≤ m → Space (appended w bs) n
space_after w bs m n s h = record { room = omega (arith, s.room); small = num_from-lt w.value w.width bs s.small }

-- after a window that is what another one has with further bits
pub space_then : {v w : Window} {a : List Bool} {m n : ℕ} → Space v m → Behind v a w → length a + n ≤ m → Space w n
space_then {v} {w} {a} {m} {n} s e h = rw e.is (space_after v a m n s h)

pub narrow : {w : Window} {m n : ℕ} → Space w m → n ≤ m → Space w n
narrow s h = record { room = omega (arith, s.room); small = s.small }

-- the same behind a field of n bits
pub space_field : {v w : Window} {m k : ℕ} (n x : ℕ) → Space v m → Behind v (bits_of n x) w → n + k ≤ m → Space w k
space_field {v} {w} {m} {k} n x s e h = space_then {m = m} {n = k} s e (omega (arith, length-bits_of n x))

-- a field shifted in
pub shifted : (w : Window) (n x : ℕ) → Space w n → x < 2 ^ n → (w.value * 2 ^ n) % 2 ^ 32 + x ≡ num_from w.value (bits_of n x)
shifted w n x s h =
    rw (shl_exact w.width n 32 s.small (omega (arith, s.room)), num_from_lem, mod-eq_of_lt h)

pub shifted_fits : (w : Window) (n x : ℕ) → Space w n → x < 2 ^ n → (w.value * 2 ^ n) % 2 ^ 32 + x < 2 ^ 32
shifted_fits w n x s h =
    rw (shifted w n x s h)
    (lt_of_lt_of_le (num_from-lt w.value w.width (bits_of n x) s.small) (pow_mono {j = 32} (omega (arith, s.room, length-bits_of n x))))

pub one_bit : (b : Bool) → bits_of 1 (bit_n b) ≡ b ∷ []
unfolding bits_of bit_at
one_bit true = refl
one_bit false = refl

-- ---- numbers of a list

pub length-twos : (xs : List ℕ) → length (twos xs) ≡ 2 * length xs
unfolding twos
length-twos [] = refl
length-twos (x ∷ xs) = simp length-append (omega (arith, length-twos xs, length-bits_of 2 x))

-- digits that follow a number in the bits above them
shifted_in : (v k n r : ℕ) → v < 2 ^ k → k + n ≤ 32 → r < 2 ^ n → bit_or (v * 2 ^ n % 2 ^ 32) r ≡ v * 2 ^ n + r
shifted_in v k n r h l s = rw (shl_exact k n 32 h l) (or_shifted v n r s)

digit-lt : (v k n r : ℕ) → v < 2 ^ k → r < 2 ^ n → v * 2 ^ n + r < 2 ^ (k + n)
digit-lt v k n r h s = rw (pow-add 2 k n) (digits_lt h s)

folded_flags : (v k : ℕ) (fl : List Bool) → v < 2 ^ k → k + length fl ≤ 32 → fold (λ v f. bit_or (v * 2 % 2 ^ 32) (bit_n f)) v fl ≡ num_from v fl
unfolding num_from
folded_flags v k [] h l = refl
folded_flags v k (b ∷ fl) h l =
    rw (shifted_in v k 1 (bit_n b) h (omega arith) (bit_lt b))
    (folded_flags (v * 2 + bit_n b) (k + 1) fl (digit-lt v k 1 (bit_n b) h (bit_lt b)) (omega arith))

folded_twos : (v k : ℕ) (xs : List ℕ) → small xs ≡ true → v < 2 ^ k → k + 2 * length xs ≤ 32
    → fold (λ v r. bit_or (v * 4 % 2 ^ 32) r) v xs ≡ num_from v (twos xs)
unfolding num_from twos every
folded_twos v k [] e h l = refl
folded_twos v k (x ∷ xs) e h l =
    let s : x < 2 ^ 2 = omega (arith, leb-true x 3 (and_parts (leb x 3) (small xs) e).0) in
    rw (shifted_in v k 2 x h (omega arith) s, num_append v (bits_of 2 x) (twos xs), num_from_lem v 2 x, mod-eq_of_lt s)
    (folded_twos (v * 4 + x) (k + 2) xs (and_parts (leb x 3) (small xs) e).1 (digit-lt v k 2 x h s) (omega arith))

-- the number x has n bits, and they are bs
pub record Packed (x n : ℕ) (bs : List Bool) : Type 0 where
  pub fits : x < 2 ^ n
  pub bits : bits_of n x ≡ bs

packed : (x : ℕ) (bs : List Bool) → x ≡ num_of bs → Packed x (length bs) bs
packed x bs e = record { fits = rw e (num_lt bs); bits = rw e (bits_num bs) }

pub packed_flags : (fl : List Bool) (n : ℕ) → length fl ≡ n → n ≤ 31 → Packed (joined_flags fl) n fl
packed_flags fl n e h = rw e at (packed (joined_flags fl) fl (folded_flags 0 0 fl (omega arith) (omega arith)))

pub packed_twos : (xs : List ℕ) → small xs ≡ true → 2 * length xs ≤ 31 → Packed (joined_twos xs) (2 * length xs) (twos xs)
packed_twos xs e h = rw (length-twos xs) at (packed (joined_twos xs) (twos xs) (folded_twos 0 0 xs e (omega arith) (omega arith)))

-- a field of those bits
pub behind : {w r : Window} {x n : ℕ} {bs : List Bool} → Packed x n bs → Behind w (bits_of n x) r → Behind w bs r
behind p b = rw p.bits at b

-- two numbers, and four, that fit two bits
pub two_small : (a b : ℕ) → a ≤ 3 → b ≤ 3 → small (a ∷ b ∷ []) ≡ true
unfolding every
two_small a b h k = rw (le-leb a 3 h, le-leb b 3 k)

pub four_small : (a b c d : ℕ) → a ≤ 3 → b ≤ 3 → c ≤ 3 → d ≤ 3 → small (a ∷ b ∷ c ∷ d ∷ []) ≡ true
unfolding every
four_small a b c d h j k l = rw (le-leb a 3 h, le-leb b 3 j, le-leb c 3 k, le-leb d 3 l)

pub env_code_low : (n : ℕ) → n ≤ 1 → 0 ≡ env_code n
env_code_low n h = rw (le-leb n 1 h)

pub env_code_two : (n : ℕ) → 1 < n → n ≤ 2 → 1 ≡ env_code n
env_code_two n h k = rw (lt-leb n 1 h, le-leb n 2 k)

pub env_code_more : (n : ℕ) → 2 < n → 2 ≡ env_code n
env_code_more n h = rw (lt-leb n 1 (omega arith), lt-leb n 2 h)

-- a pointer up to the envelope count fits its width
pub pointer_fits : (n p w : ℕ) → p ≤ n → w ≡ ptr_bits n → p < 2 ^ w
pointer_fits n p w l e = rw e (omega (arith, (pointer_width n).holds))
