-- Bits of a list of bytes that are made others are read back, and the bits before them are kept.
use mathlib.Core.Path.{◌≡◌, refl, ap, ◌∙◌}
use mathlib.Core.Bool.{Bool}
use mathlib.Core.List.{List, [], ◌∷◌, ◌++◌}
use Prim.Native.Nat.{ℕ, zero, suc, ◌+◌, ◌-◌, ◌*◌, ◌/◌, ◌%◌, ◌<◌, ◌≤◌}
use native.Mathlib.Nat.{add-zero, zero-add, add-suc, suc-add}
use native.Mathlib.Decide.{dec_lt, ℕ_discrete}
use native.Mathlib.Omega.{arith}
use lib.ListN.{length, get_or, length-set}
use lib.Seq.{get_or-set_same, get_or-set_other, set_out}
use Rattle.bits.specs.Bits.{bit_at, with_bit, get_bit, make_bit, make_bits, bits_at}
use Rattle.bits.proofs.Bytes.{bit_same, bit_above}

-- a bit that is made another leaves as many bytes as there were
pub length-make_bit : (l : List ℕ) (p : ℕ) (b : Bool) → length (make_bit l p b) ≡ length l
unfolding make_bit
length-make_bit l p b = simp length-set

-- bits that are made others leave as many bytes as there were
pub length-make_bits : (l : List ℕ) (p : ℕ) (bs : List Bool) → length (make_bits l p bs) ≡ length l
unfolding make_bits
length-make_bits l p [] = refl
length-make_bits l p (b ∷ bs) = length-make_bits (make_bit l p b) (suc p) bs ∙ length-make_bit l p b

-- n bits that are read are n bits
pub length-bits_at : (l : List ℕ) (p n : ℕ) → length (bits_at l p n) ≡ n
unfolding bits_at
length-bits_at l p zero = refl
length-bits_at l p (suc n) = ap suc (length-bits_at l (suc p) n)

-- one list of bits after another
pub make_append : (l : List ℕ) (p : ℕ) (xs bs : List Bool) → make_bits l p (xs ++ bs) ≡ make_bits (make_bits l p xs) (p + length xs) bs
unfolding make_bits
make_append l p [] bs = rw add-zero
make_append l p (a ∷ xs) bs = rw (add-suc, ← suc-add p (length xs)) (make_append (make_bit l p a) (suc p) xs bs)

-- m bits are read and then n
pub bits_at-add : (l : List ℕ) (p m n : ℕ) → bits_at l p (m + n) ≡ bits_at l p m ++ bits_at l (p + m) n
unfolding bits_at
bits_at-add l p zero n = rw (zero-add, add-zero)
bits_at-add l p (suc m) n = rw (suc-add m n, add-suc, ← suc-add p m, bits_at-add l (suc p) m n)

-- lists of bytes with the same bits from q on are read alike
pub bits_alike : (l m : List ℕ) (q n : ℕ) → ((i : ℕ) → q ≤ i → i < q + n → get_bit m i ≡ get_bit l i) → bits_at m q n ≡ bits_at l q n
unfolding bits_at
bits_alike l m q zero f = refl
bits_alike l m q (suc n) f =
    rw (f q (omega arith) (omega arith), bits_alike l m (suc q) n (λ i h k. f i (omega arith) (omega arith)))

-- a bit is read back
pub get_same : (l : List ℕ) (p : ℕ) (b : Bool) → p / 8 < length l → get_bit (make_bit l p b) p ≡ b
unfolding get_bit make_bit
get_same l p b h = rw get_or-set_same (bit_same (get_or l (p / 8) 0) (7 - p % 8) b)

-- a bit is kept where it is kept within its byte
get_kept : (l : List ℕ) (p q : ℕ) (b : Bool)
    → (q / 8 ≡ p / 8 → (x : ℕ) → bit_at (with_bit x (7 - p % 8) b) (7 - q % 8) ≡ bit_at x (7 - q % 8)) → get_bit (make_bit l p b) q ≡ get_bit l q
unfolding get_bit make_bit
get_kept l p q b f = go (ℕ_discrete (q / 8) (p / 8)) (dec_lt (p / 8) (length l))
  where
    go : Dec (q / 8 ≡ p / 8) → Dec (p / 8 < length l) → get_bit (make_bit l p b) q ≡ get_bit l q
    go (no n) d = rw (get_or-set_other l (p / 8) (q / 8) (with_bit (get_or l (p / 8) 0) (7 - p % 8) b) 0 n)
    go (yes e) (no n) = rw (set_out l (p / 8) (with_bit (get_or l (p / 8) 0) (7 - p % 8) b) (omega arith))
    go (yes e) (yes h) = rw (e, get_or-set_same) (f e (get_or l (p / 8) 0))

-- a bit before those that are made others is kept
pub get_before : (l : List ℕ) (p q : ℕ) (bs : List Bool) → q < p → get_bit (make_bits l p bs) q ≡ get_bit l q
unfolding make_bits
get_before l p q [] h = refl
get_before l p q (b ∷ bs) h =
    get_before (make_bit l p b) (suc p) q bs (omega arith)
    ∙ get_kept l p q b (λ e x. bit_above x (7 - p % 8) (7 - q % 8) b (omega arith))

-- the bits before them are kept
pub kept_before : (l : List ℕ) (p q n : ℕ) (bs : List Bool) → q + n ≤ p → bits_at (make_bits l p bs) q n ≡ bits_at l q n
kept_before l p q n bs h = bits_alike l (make_bits l p bs) q n (λ i a b. get_before l p i bs (omega arith))

-- they are read back
pub bits_made : (l : List ℕ) (p : ℕ) (bs : List Bool) → p + length bs ≤ 8 * length l → bits_at (make_bits l p bs) p (length bs) ≡ bs
unfolding make_bits bits_at
bits_made l p [] h = refl
bits_made l p (b ∷ bs) h =
    rw (get_before (make_bit l p b) (suc p) p bs (omega arith), get_same l p b (omega arith), bits_made (make_bit l p b) (suc p) bs (omega (arith, length-make_bit l p b)))
