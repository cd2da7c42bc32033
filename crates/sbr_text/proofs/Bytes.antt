-- Bytes of a line, one by one.
use mathlib.Core.Path.{◌≡◌, refl}
use mathlib.Core.List.{List, [], ◌∷◌, ◌++◌}
use Prim.Native.Nat.{ℕ, ◌+◌, ◌≤◌, ◌<◌}
use native.Mathlib.Numerals.{add-one}
use lib.ListN.{length, get_or, drop, drop_of_length-le}
use lib.Seq.{drop-cons}
use Rattle.sbr_text.specs.Parts.{LineParts, read_byte, read_bytes}

-- bytes behind others are read after them
pub bytes_append : (s : LineParts) (a b : List ℕ) → read_bytes s (a ++ b) ≡ read_bytes (read_bytes s a) b
unfolding read_bytes
bytes_append s [] b = refl
bytes_append s (x ∷ a) b = bytes_append (read_byte s x) a b

-- to read the next byte leaves what is left to read the same
pub bytes_next : (s t : LineParts) (l : List ℕ) (i : ℕ) → i < length l → t ≡ read_byte s (get_or l i 0)
    → read_bytes t (drop (i + 1) l) ≡ read_bytes s (drop i l)
unfolding read_bytes
bytes_next s t l i h e = rw (e, add-one, drop-cons l i 0 h)

-- behind the last byte nothing is left to read
pub bytes_done : (s : LineParts) (l : List ℕ) (i : ℕ) → length l ≤ i → read_bytes s (drop i l) ≡ s
unfolding read_bytes
bytes_done s l i h = rw (drop_of_length-le l {i = i} h)
