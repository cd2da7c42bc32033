-- Bits of a list of bytes, the most significant bit of a byte first (docs/ORDER.md, WR-2).
use Rattle.std.specs.Prelude.{Bool, true, false, List, [], ◌∷◌, ◌++◌, ℕ, zero, suc, ◌+◌, ◌-◌, ◌*◌, ◌/◌, ◌%◌, ◌^◌, eqb, length, get_or, set, replicate}

abbrev pub bit_n : Bool → ℕ
bit_n true = 1
bit_n false = 0

-- whether the bit of x that counts 2 ^ k is set
unfoldable pub bit_at : ℕ → ℕ → Bool
bit_at x k = eqb (x / 2 ^ k % 2) 1

-- x with that bit made b
unfoldable pub with_bit : ℕ → ℕ → Bool → ℕ
with_bit x k b = (x / 2 ^ k / 2 * 2 + bit_n b) * 2 ^ k + x % 2 ^ k

-- the bit at the position p of a list of bytes
unfoldable pub get_bit : List ℕ → ℕ → Bool
get_bit l p = bit_at (get_or l (p / 8) 0) (7 - p % 8)

-- the list with the bit at the position p made b
unfoldable pub make_bit : List ℕ → ℕ → Bool → List ℕ
make_bit l p b = set l (p / 8) (with_bit (get_or l (p / 8) 0) (7 - p % 8) b)

-- the list with the bits from the position p on made those of the list of bits
unfoldable pub make_bits : List ℕ → ℕ → List Bool → List ℕ
make_bits l p [] = l
make_bits l p (b ∷ bs) = make_bits (make_bit l p b) (suc p) bs

-- the n bits from the position p on
unfoldable pub bits_at : List ℕ → ℕ → ℕ → List Bool
bits_at l p zero = []
bits_at l p (suc n) = get_bit l p ∷ bits_at l (suc p) n

-- how many bits there are from the position e to the end of the byte of the bit before e; none where e begins a byte
abbrev pub rest_bits : ℕ → ℕ
rest_bits e = (8 - e % 8) % 8

-- the list after bits are put at the position p: these bits, those from their end to the end of the byte in which they end cleared, every other one as it
-- was; an empty list of bits clears nothing
unfoldable pub put_bits : List ℕ → ℕ → List Bool → List ℕ
put_bits l p [] = l
put_bits l p (b ∷ bs) = make_bits l p ((b ∷ bs) ++ replicate (rest_bits (p + length (b ∷ bs))) false)

-- the n low bits of a number, the most significant first
unfoldable pub bits_of : ℕ → ℕ → List Bool
bits_of zero v = []
bits_of (suc n) v = bit_at v n ∷ bits_of n v

-- the number whose binary digits are those of a followed by the bits
unfoldable pub num_from : ℕ → List Bool → ℕ
num_from a [] = a
num_from a (b ∷ bs) = num_from (a * 2 + bit_n b) bs

abbrev pub num_of : List Bool → ℕ
num_of bs = num_from 0 bs
