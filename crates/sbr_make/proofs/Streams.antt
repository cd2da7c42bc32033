-- The stream of all frames, in 832 bytes.
use mathlib.Core.Path.{◌≡◌, sym, ap, ◌∙◌}
use mathlib.Core.List.{List, [], ◌∷◌, ◌++◌, append-nil}
use Prim.Native.Nat.{ℕ, ◌+◌, ◌/◌, ◌≤◌}
use native.Mathlib.Decide.{dec_lt}
use native.Mathlib.Omega.{arith}
use borrow.Rule.Slice.PartMut.{put_mid}
use lib.ListN.{length, take, set, get_or, length-take, drop_of_length-le}
use lib.Seq.{ext_get_or, get_or-take}
use Rattle.sbr_grid.specs.Grid.{first}
use Rattle.sbr_grid.proofs.First.{first-length, first-get_or, first-get_or_short}
use Rattle.sbr_make.specs.Making.{Making, stream_of}
use Rattle.sbr_make.specs.Code.{InRoom}

-- n bytes that are 0 from k on are their first k with zeros behind them
clear_first : (n k : ℕ) (l : List ℕ) → length l ≡ n → ((i : ℕ) → k ≤ i → get_or l i 0 ≡ 0) → l ≡ first 0 n (take k l)
clear_first n k l e z =
    ext_get_or 0 l (first 0 n (take k l)) (e ∙ sym (first-length 0 n (take k l)))
    (λ i h. elim (dec_lt i k) [
      | yes a ↦ sym (first-get_or 0 n i (take k l) (omega arith) ∙ get_or-take k l i 0 a)
      | no a ↦ z i (omega arith) ∙ sym (first-get_or_short 0 n i (take k l) (omega arith) (omega (arith, length-take k l)))
    ])

-- bytes over the last n of n + 3, the first three of which were written
written_over : (l : List ℕ) (a b c n : ℕ) (ys : List ℕ) → length l ≡ 3 + n → put_mid 3 n (set (set (set l 0 a) 1 b) 2 c) ys ≡ a ∷ b ∷ c ∷ (ys ++ [])
written_over [] a b c n ys h = absurd (omega arith)
written_over (x ∷ []) a b c n ys h = absurd (omega arith)
written_over (x ∷ y ∷ []) a b c n ys h = absurd (omega arith)
written_over (x ∷ y ∷ z ∷ r) a b c n ys h = rw (drop_of_length-le r {i = n} (omega arith))

-- the bytes of a stream, with zeros behind them
pub stream-bytes : (m : Making) (r : InRoom m) (l ys : List ℕ) → length l ≡ 832 → ys ≡ m.bytes
    → put_mid 3 829 (set (set (set l 0 m.slots) 1 (m.begin + m.slots)) 2 m.count) ys ≡ first 0 832 (stream_of m)
stream-bytes m r l ys h e =
    written_over l m.slots (m.begin + m.slots) m.count 829 ys h
    ∙ rw (e, append-nil)
    (ap {B = List ℕ} (λ t. m.slots ∷ (m.begin + m.slots) ∷ m.count ∷ t) (clear_first 829 ((m.position + 7) / 8) m.bytes r.size r.clear))
