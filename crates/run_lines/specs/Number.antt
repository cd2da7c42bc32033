-- A frame in one number: whether it begins on an attack and its class, three bits, then digits of base 32.
use Rattle.std.specs.Prelude.{◌≡◌, Bool, List, [], ◌∷◌, ◌++◌, ℕ, ◌+◌, ◌*◌, ◌%◌, ◌^◌, ◌<◌, ℤ, pos, negsuc, length, get_or}
use Rattle.std.specs.List.{fold}
use Rattle.bits.specs.Bits.{bit_n, num_of}
use Rattle.sbr_grid.specs.declared.SbrGrid.{SbrGrid}
use Rattle.sbr_grid.specs.declared.TimeGrid.{TimeGrid}
use Rattle.sbr_grid.specs.Grid.{class_code}

-- a number with a digit behind it; it keeps 59 bits, so that the whole fits 64
abbrev pub with_digit : ℕ → ℕ → ℕ
with_digit a d = a % 2 ^ 59 * 32 + d % 32

abbrev pub with_digits : ℕ → List ℕ → ℕ
with_digits a ds = fold with_digit a ds

-- the marks 0, 1, .. are even, -1, -2, .. are odd
abbrev pub mark_number : ℤ → ℕ
mark_number (pos n) = 2 * n
mark_number (negsuc n) = 2 * n + 1

-- resolutions, count of envelopes, borders, noise borders, mark: 12 digits
abbrev pub digits_of : SbrGrid → TimeGrid → List ℕ
digits_of g t = num_of g.freq_res ∷ t.num_env ∷ t.t_e ++ (t.t_q ++ (mark_number t.l_a ∷ []))

unfoldable pub frame_number : SbrGrid → TimeGrid → Bool → ℕ
frame_number g t begins = with_digits (4 * bit_n begins + class_code g.frame_class) (digits_of g t)

-- a frame whose arrays are as long as its record says, and whose parts are digits
pub record Digits (g : SbrGrid) (t : TimeGrid) : Type 0 where
  pub flags : length g.freq_res ≡ 5
  pub borders : length t.t_e ≡ 6
  pub noise : length t.t_q ≡ 3
  pub small : (k : ℕ) → get_or (digits_of g t) k 0 < 32

pub record SameFrame (g h : SbrGrid) (t u : TimeGrid) : Type 0 where
  pub classes : g.frame_class ≡ h.frame_class
  pub flags : g.freq_res ≡ h.freq_res
  pub counts : t.num_env ≡ u.num_env
  pub borders : t.t_e ≡ u.t_e
  pub noise : t.t_q ≡ u.t_q
  pub marks : t.l_a ≡ u.l_a

-- frames that differ in a respect have different numbers
abbrev pub NumberTells : Type 0
NumberTells =
    (g h : SbrGrid) (t u : TimeGrid) (a b : Bool) → Digits g t → Digits h u → frame_number g t a ≡ frame_number h u b
    → SameFrame g h t u × (a ≡ b)
