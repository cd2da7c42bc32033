-- Where the bits of a range of bytes end, and what putting a field and looking at bits there comes to.
use Rattle.std.specs.Prelude.{◌≡◌, Bool, cond, ◌&&◌, List, ◌++◌, ℕ, ◌+◌, ◌-◌, ◌*◌, ◌^◌, min, leb, length, Option, Some, None}
use Rattle.bits.specs.Bits.{put_bits, bits_at, bits_of, num_of}
use Rattle.bits.specs.declared.Window.{Window}

-- the position past the last bit of len bytes; a range with more bits than the largest position ends there
unfoldable pub end_of : ℕ → ℕ
end_of len = min (8 * len) (2 ^ 64 - 1)

-- n bits from the position p on lie within len bytes
unfoldable pub room_for : ℕ → ℕ → ℕ → Bool
room_for len p n = leb (p + n) (end_of len)

-- every bit from the position p on
abbrev pub bits_from : List ℕ → ℕ → List Bool
bits_from l p = bits_at l p (end_of (length l) - p)

-- bytes hold the bits bs from the position p on, whatever follows
abbrev pub Holds : List ℕ → ℕ → List Bool → Type 0
Holds l p bs = (rest : List Bool) × (bits_from l p ≡ bs ++ rest)

-- a field of w bits can be put at p: a field has at most 32 bits
abbrev pub is_field_taken : ℕ → ℕ → ℕ → Bool
is_field_taken len p w = leb w 32 && room_for len p w

-- the answer of putting a field, the position after its last bit, and the bytes after it
abbrev pub placed : List ℕ → ℕ → ℕ → Option ℕ
placed l p w = cond (is_field_taken (length l) p w) (Some (p + w)) None

abbrev pub after_field : List ℕ → ℕ → ℕ → ℕ → List ℕ
after_field l p w v = cond (is_field_taken (length l) p w) (put_bits l p (bits_of w v)) l

-- the bits from p on, at most 32 of them, as a number with its width
abbrev pub window_of : List ℕ → ℕ → Window
window_of l p =
    let n = min 32 (end_of (length l) - p) in
    record { value = num_of (bits_at l p n); width = n }
