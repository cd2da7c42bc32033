-- How much of an input a listing depends on.
use Rattle.std.specs.Prelude.{◌≡◌, Bool, true, ◌||◌, List, ◌++◌, ℕ, ◌-◌, ◌≤◌, leb, eqb, length, take, get_or}
use Rattle.sbr_list.specs.Listing.{listing}

-- three bytes, and 255 frames of 26 bits each
abbrev pub most_input : ℕ
most_input = 832

-- what stands behind those changes no listing, where the third byte, which counts the frames, is a byte
abbrev pub EnoughInput : Type 0
EnoughInput = (l : List ℕ) → get_or l 2 0 ≤ 255 → listing (take most_input l) ≡ listing l

-- the letter of a resolution
abbrev pub is_letter : ℕ → Bool
is_letter b = eqb b 72 || eqb b 76

-- a text of no line, or whose last line ends in a letter: every frame is there, as the line of a refusal ends in a digit
unfoldable pub settled : List ℕ → Bool
settled s = leb (length s) 1 || is_letter (get_or s (length s - 2) 0)

-- more input changes no listing of which every frame is there
abbrev pub SettledInput : Type 0
SettledInput = (l m : List ℕ) → settled (listing l) ≡ true → listing (l ++ m) ≡ listing l
