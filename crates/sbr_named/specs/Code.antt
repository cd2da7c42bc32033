-- What the program's inner functions test and make.
use Rattle.std.specs.Prelude.{Bool, ◌&&◌, List, ℕ, ◌+◌, ℤ, pos, negsuc, leb, eqb, length}
use Rattle.std.specs.Int.Signed.{le_z}
use Rattle.std.specs.List.{list_all}
use Rattle.sbr_named.specs.declared.shape.Side.{Side}
use Rattle.sbr_named.specs.declared.shape.Side.TheVariants.{Leading, Trailing}
use Rattle.sbr_named.specs.Shapes.{leading, trailing}

-- a number from low to high; a border that a frame can have, and a mark
abbrev pub within : ℤ → ℤ → ℤ → Bool
within low high z = le_z low z && le_z z high

abbrev pub is_border : ℤ → Bool
is_border b = within (pos 0) (pos 19) b

abbrev pub is_mark : ℤ → Bool
is_mark m = within (negsuc 0) (pos 5) m

-- borders, resolutions and a mark that a frame can have: 1 to 5 envelopes, with one border more
abbrev pub can_be_named : List ℤ → List Bool → ℤ → Bool
can_be_named borders res mark =
    leb 1 (length res) && leb (length res) 5 && eqb (length borders) (length res + 1) && list_all is_border borders && is_mark mark

-- the stored lengths of the k outermost of l envelopes of a side
abbrev pub side_lengths : Side → List ℕ → ℕ → ℕ → List ℕ
side_lengths Leading bs l k = leading bs k
side_lengths Trailing bs l k = trailing bs l k
