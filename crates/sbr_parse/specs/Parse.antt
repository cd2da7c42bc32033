-- Reading from bits that are held in one number.
use Rattle.std.specs.Prelude.{Bool, List, [], ◌∷◌, ℕ, zero, suc, ◌-◌, ◌*◌, ◌/◌, ◌%◌, ◌^◌, leb, length, Ok}
use Rattle.bits.specs.Bits.{bits_of}
use Rattle.bits.specs.declared.Window.{Window}
use Rattle.sbr_grid.specs.declared.Refusal.TheVariants.{BitsEnd}
use Rattle.sbr_grid.specs.Refusals.{Outcome, unless}
use Rattle.sbr_grid.specs.Grid.{Grid, record_of}
use Rattle.sbr_parse.specs.declared.Parsed.{Parsed}

-- what a program hands out for a reading: the record, and how many bits are left
abbrev pub parsed : Grid × List Bool → Parsed
parsed r = record { grid = record_of r.0; left = length r.1 }

-- the bits of a window
abbrev pub window_bits : Window → List Bool
window_bits w = bits_of w.width w.value

-- the first n bits of a window as a number, and a window of the bits behind them
abbrev pub taken : ℕ → Window → Outcome (ℕ × Window)
taken n w = unless (leb n w.width) BitsEnd (Ok (w.value / 2 ^ (w.width - n) % 2 ^ n, record { value = w.value; width = w.width - n }))

-- the last k digits of v to the base 4, the most significant first
unfoldable pub twos_of : ℕ → ℕ → List ℕ
twos_of zero v = []
twos_of (suc k) v = v / 2 ^ (2 * k) % 4 ∷ twos_of k v
