-- What bits that are put leave, bit by bit and byte by byte. One record says it of a field, of a grid (sbr_writer) and of the stream of a run (sbr_run).
use Rattle.std.specs.Prelude.{◌≡◌, Bool, false, List, ◌++◌, ℕ, ◌+◌, ◌-◌, ◌*◌, ◌/◌, ◌≤◌, ◌<◌, length, get_or}
use Rattle.bits.specs.Bits.{get_bit, bits_at, bits_of, put_bits}
use Rattle.bits.specs.Room.{end_of, after_field}

-- the bytes m are the bytes l after bs, one bit or more, was put at the position p; the last bit of bs is in the byte (p + length bs - 1) / 8
pub record BitsPut (l m : List ℕ) (p : ℕ) (bs : List Bool) : Type 0 where
  pub within : p + length bs ≤ 8 * length l
  pub bits : bits_at m p (length bs) ≡ bs
  -- the bits after them in that byte are clear
  pub rest : (q : ℕ) → p + length bs ≤ q → q / 8 ≡ (p + length bs - 1) / 8 → get_bit m q ≡ false
  -- every bit before them is kept, every byte past that one, and the number of bytes
  pub before : (q : ℕ) → q < p → get_bit m q ≡ get_bit l q
  pub past : (i : ℕ) → (p + length bs - 1) / 8 < i → get_or m i 0 ≡ get_or l i 0
  pub size : length m ≡ length l

-- ---- the statement of fields, proved in proofs/After.antt

pub record EveryField : Type 0 where
  -- what `put_bits` leaves: a field of 1 to 32 bits that has room
  pub put : (l : List ℕ) (p w v : ℕ) → 0 < w → w ≤ 32 → p + w ≤ end_of (length l) → BitsPut l (after_field l p w v) p (bits_of w v)
  -- a field of no bits puts and clears nothing
  pub no_bits : (l : List ℕ) (p v : ℕ) → after_field l p 0 v ≡ l
  -- to put the bits a ++ b is to put a, then b
  pub append : (l : List ℕ) (p : ℕ) (a b : List Bool) → put_bits l p (a ++ b) ≡ put_bits (put_bits l p a) (p + length a) b
