-- Bits gathered into one number.
use Rattle.std.specs.Prelude.{◌≡◌, List, [], ◌∷◌, ◌++◌, Bool, false, reverse, ℕ, ◌+◌, ◌*◌, ◌%◌, ◌^◌, ◌≤◌, ◌<◌, length, get_or}
use Rattle.std.specs.List.{fold}
use Rattle.std.specs.Int.Bits.{bit_or}
use Rattle.bits.specs.Bits.{bit_n, bits_of, num_from}
use Rattle.bits.specs.declared.Window.{Window}
use Rattle.sbr_grid.specs.declared.FrameClass.{FrameClass}
use Rattle.sbr_grid.specs.declared.FrameClass.TheVariants.{FixFix, FixVar, VarFix, VarVar}
use Rattle.sbr_grid.specs.Grid.{ptr_bits, Grid, num_env_of}
use Rattle.sbr_writer.specs.Syntax.{twos, env_code}

-- a window with further bits behind its own
abbrev pub appended : Window → List Bool → Window
appended w bs = record { value = num_from w.value bs; width = w.width + length bs }

-- r is that window
pub record Behind (w : Window) (bs : List Bool) (r : Window) : Type 0 where
  pub is : r ≡ appended w bs

-- the bits as a window
abbrev pub window_for : List Bool → Window
window_for bs = appended (record { value = 0; width = 0 }) bs

-- n bits more stay below the 32 that a window has
pub record Space (w : Window) (n : ℕ) : Type 0 where
  pub room : w.width + n ≤ 31
  pub small : w.value < 2 ^ w.width

-- numbers of two bits each as one number, and flags
abbrev pub joined_twos : List ℕ → ℕ
joined_twos xs = fold (λ v r. bit_or (v * 4 % 2 ^ 32) r) 0 xs

abbrev pub joined_flags : List Bool → ℕ
joined_flags fl = fold (λ v f. bit_or (v * 2 % 2 ^ 32) (bit_n f)) 0 fl

-- what FixVar and VarFix send before their flags, and what VarVar sends
abbrev pub side_bits : ℕ → List ℕ → ℕ → List Bool
side_bits bord rel p = twos (bord ∷ length rel ∷ []) ++ (twos rel ++ bits_of (ptr_bits (length rel + 1)) p)

abbrev pub sides_bits : Grid → List Bool
sides_bits g =
    twos (g.var_bord_0 ∷ g.var_bord_1 ∷ length g.rel_bord_0 ∷ length g.rel_bord_1 ∷ [])
    ++ (twos g.rel_bord_0 ++ (twos g.rel_bord_1 ++ bits_of (ptr_bits (num_env_of g)) g.pointer))

-- what each class sends between itself and its flags
unfoldable pub before_flags : FrameClass → Grid → List Bool
before_flags FixFix g = bits_of 2 (env_code (num_env_of g))
before_flags FixVar g = side_bits g.var_bord_1 g.rel_bord_1 g.pointer
before_flags VarFix g = side_bits g.var_bord_0 g.rel_bord_0 g.pointer
before_flags VarVar g = sides_bits g

-- the flags that it sends, in their order
unfoldable pub sent_flags : FrameClass → List Bool → List Bool
sent_flags FixFix flags = get_or flags 0 false ∷ []
sent_flags FixVar flags = reverse flags
sent_flags VarFix flags = flags
sent_flags VarVar flags = flags
