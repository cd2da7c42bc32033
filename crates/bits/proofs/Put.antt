-- Bits that stand in one byte are put at once, and `a ++ b` is put as `a`, then `b`.
use mathlib.Core.Path.{◌≡◌, refl, sym, ap, ◌∙◌}
use mathlib.Core.Bool.{Bool, false}
use mathlib.Core.List.{List, [], ◌∷◌, ◌++◌, append_assoc, append-nil}
use Prim.Native.Nat.{ℕ, zero, suc, ◌+◌, ◌-◌, ◌*◌, ◌/◌, ◌%◌, ◌^◌, ◌<◌, ◌≤◌}
use native.Mathlib.Nat.{zero-div, add-zero, add-suc}
use native.Mathlib.Decide.{dec_lt}
use native.Mathlib.Omega.{arith}
use lib.Pow.{pow_pos}
use lib.ListN.{length, get_or, set, replicate, take, drop, take-append-drop, length-append, length-replicate}
use lib.Seq.{get_or-set_same, set-get_or, set-set, set_out, lt-length-set, length-take-le}
use Rattle.bits.specs.Bits.{bit_at, with_bit, make_bit, make_bits, bits_of, num_of, rest_bits, put_bits}
use Rattle.bits.proofs.Numbers.{length-bits_of, bits_of_join, bits_num}
use Rattle.bits.proofs.Bytes.{with_low, with_field, low_none, low_next, low_twice, field_low}
use Rattle.bits.proofs.Stream.{make_append}

-- ---- bits up to the end of a byte

-- the bit r of the byte i, with n bits after it
make_first : (l : List ℕ) (i r n : ℕ) (b : Bool) → r + suc n ≡ 8 → make_bit l (8 * i + r) b ≡ set l i (with_bit (get_or l i 0) n b)
unfolding make_bit
make_first l i r n b e =
    let q : (8 * i + r) / 8 ≡ i = omega arith in
    let s : 7 - (8 * i + r) % 8 ≡ n = omega arith in
    rw (q, s)

-- n bits from the bit r of the byte i on, the last ones of that byte
make_within : (l : List ℕ) (i r n v : ℕ) → i < length l → r + n ≡ 8 → make_bits l (8 * i + r) (bits_of n v) ≡ set l i (with_low (get_or l i 0) n v)
unfolding make_bits bits_of
make_within l i r zero v h e = rw (low_none (get_or l i 0) v, set-get_or l i 0)
make_within l i r (suc n) v h e =
    let w = with_bit (get_or l i 0) n (bit_at v n) in
    ap (λ (m : List ℕ). make_bits m (suc (8 * i + r)) (bits_of n v)) (make_first l i r n (bit_at v n) e)
    ∙ rw (← add-suc (8 * i) r, make_within (set l i w) i (suc r) n v (lt-length-set l i w h) (omega arith), get_or-set_same l i w 0 h, low_next (get_or l i 0) n v, set-set)

-- n bits up to the end of their byte are made others at once
make_low : (l : List ℕ) (p n v : ℕ) → p % 8 + n ≡ 8 → p / 8 < length l → make_bits l p (bits_of n v) ≡ set l (p / 8) (with_low (get_or l (p / 8) 0) n v)
make_low l p n v h k =
    let e : 8 * (p / 8) + p % 8 ≡ p = omega arith in
    rw e at (make_within l (p / 8) (p % 8) n v k h)

-- of two numbers that are written there the second stays
low_over : (l : List ℕ) (p n u v : ℕ) → p % 8 + n ≡ 8 → p / 8 < length l → make_bits (make_bits l p (bits_of n u)) p (bits_of n v) ≡ make_bits l p (bits_of n v)
low_over l p n u v h k =
    let w = with_low (get_or l (p / 8) 0) n u in
    rw (make_low l p n u h k, make_low (set l (p / 8) w) p n v h (lt-length-set l (p / 8) w k), make_low l p n v h k, get_or-set_same l (p / 8) w 0 k, low_twice (get_or l (p / 8) 0) n u v, set-set)

-- bits that are made others there stay too, with more after them
low_longer : (l : List ℕ) (p n u : ℕ) (c d : List Bool) → p % 8 + n ≡ 8 → p / 8 < length l → length c ≡ n
    → make_bits (make_bits l p (bits_of n u)) p (c ++ d) ≡ make_bits l p (c ++ d)
low_longer l p n u c d h k e =
    let b : bits_of n (num_of c) ≡ c = rw e at (bits_num c) in
    let o : make_bits (make_bits l p (bits_of n u)) p c ≡ make_bits l p c = rw b at (low_over l p n u (num_of c) h k) in
    rw (make_append (make_bits l p (bits_of n u)) p c d, make_append l p c d, o)

-- bits past the end of the list are not made others
make_outside : (l : List ℕ) (p : ℕ) (bs : List Bool) → length l ≤ p / 8 → make_bits l p bs ≡ l
unfolding make_bits make_bit
make_outside l p [] h = refl
make_outside l p (b ∷ bs) h = ap (λ (m : List ℕ). make_bits m (suc p) bs) (set_out l (p / 8) _ h) ∙ make_outside l (suc p) bs (omega arith)

-- ---- cleared bits

-- bits that are clear are those of 0
zeros : (n : ℕ) → replicate n false ≡ bits_of n 0
unfolding bits_of bit_at
zeros zero = refl
zeros (suc n) = rw (zero-div, zeros n)

-- that the rest of a byte was cleared does not show once as many bits or more are made others from there on
rest_over : (l : List ℕ) (p n : ℕ) (bs : List Bool) → n ≡ rest_bits p → n ≤ length bs → make_bits (make_bits l p (replicate n false)) p bs ≡ make_bits l p bs
unfolding make_bits
rest_over l p zero bs e le = refl
rest_over l p (suc n) bs e le = go (dec_lt (p / 8) (length l))
  where
    go : Dec (p / 8 < length l) → make_bits (make_bits l p (replicate (suc n) false)) p bs ≡ make_bits l p bs
    go (yes k) =
        rw (take-append-drop (suc n) bs, ← zeros (suc n)) at
        (low_longer l p (suc n) 0 (take (suc n) bs) (drop (suc n) bs) (omega arith) k (length-take-le (suc n) bs le))
    go (no k) = ap (λ (m : List ℕ). make_bits m p bs) (make_outside l p (replicate (suc n) false) (omega arith))

-- ---- bits and the rest of their byte

-- one bit or more are put as these and clear ones up to the end of their byte
pub put_make : (l : List ℕ) (p : ℕ) (bs : List Bool) → 0 < length bs → put_bits l p bs ≡ make_bits l p (bs ++ replicate (rest_bits (p + length bs)) false)
unfolding put_bits
put_make l p [] h = absurd (omega arith)
put_make l p (b ∷ bs) h = refl

-- n bits of one byte and the rest of it are put at once
pub put_byte : (l : List ℕ) (p n v : ℕ) → 0 < n → n ≤ 8 - p % 8 → p / 8 < length l
    → put_bits l p (bits_of n v) ≡ set l (p / 8) (with_field (get_or l (p / 8) 0) (8 - p % 8 - n) n v)
put_byte l p n v z h k =
    let len = length-bits_of n v in
    let r : rest_bits (p + length (bits_of n v)) ≡ 8 - p % 8 - n = omega (arith, len) in
    put_make l p (bits_of n v) (omega (arith, len))
    ∙ rw (r, zeros, ← bits_of_join n (8 - p % 8 - n) v 0 (pow_pos _), make_low l p (n + (8 - p % 8 - n)) (v * 2 ^ (8 - p % 8 - n) + 0) (omega arith) k, field_low)

-- n bits and the rest of their byte are no fewer than the rest of the byte before them
rest_covered : (e n : ℕ) → rest_bits e ≤ n + rest_bits (e + n)
rest_covered e n = omega arith

-- one bit or more, and one or more after them
put_two : (l : List ℕ) (p : ℕ) (xs ys : List Bool) → 0 < length xs → 0 < length ys → put_bits l p (xs ++ ys) ≡ put_bits (put_bits l p xs) (p + length xs) ys
put_two l p xs ys hx hy =
    let e = p + length xs in
    let zs = replicate (rest_bits (e + length ys)) false in
    let len = length-append xs ys in
    let r : rest_bits (p + length (xs ++ ys)) ≡ rest_bits (e + length ys) = ap rest_bits (omega (arith, len)) in
    let covered : rest_bits e ≤ length (ys ++ zs) = rw (length-append ys zs, length-replicate (rest_bits (e + length ys)) false) (rest_covered e (length ys)) in
    put_make l p (xs ++ ys) (omega (arith, len))
    ∙ (rw (r, append_assoc, make_append))
    ∙ sym (rest_over (make_bits l p xs) e (rest_bits e) (ys ++ zs) refl covered)
    ∙ sym (put_make (put_bits l p xs) e ys hy ∙ rw (put_make l p xs hx, make_append l p xs (replicate (rest_bits e) false)))

-- to put the bits a ++ b is to put a, then b
pub put_append : (l : List ℕ) (p : ℕ) (xs ys : List Bool) → put_bits l p (xs ++ ys) ≡ put_bits (put_bits l p xs) (p + length xs) ys
unfolding put_bits
put_append l p [] ys = rw add-zero
put_append l p (x ∷ xs) [] = ap (put_bits l p) (append-nil (x ∷ xs))
put_append l p (x ∷ xs) (y ∷ ys) = put_two l p (x ∷ xs) (y ∷ ys) (omega arith) (omega arith)
