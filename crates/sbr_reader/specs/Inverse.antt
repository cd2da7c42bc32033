-- Every frame that a reading accepts can be written again: the statement, proved in proofs/Frames.antt.
use Rattle.std.specs.Prelude.{◌≡◌, Bool, List, ℕ, ◌+◌, length, Ok}
use Rattle.bits.specs.Room.{bits_from}
use Rattle.sbr_grid.specs.Grid.{view_of, record_of}
use Rattle.sbr_writer.specs.Syntax.{grid_bits}
use Rattle.sbr_parse.specs.Inverse.{WrittenAs}
use Rattle.sbr_reader.specs.declared.Carried.{Carried}
use Rattle.sbr_reader.specs.Read.{Accepted, read_grid}

-- its record writes the bits bs that it was read from, up to its position; and a host that hands on the record handed out for it hands on this grid
pub record Rewritten (bs : List Bool) (p : ℕ) (f : Accepted) : Type 0 where
  pub rest : List Bool
  pub written : WrittenAs bs f.grid rest
  pub position : f.position ≡ p + length (grid_bits f.grid)
  pub kept : view_of (record_of f.grid) ≡ f.grid

abbrev pub FrameWrites : Type 0
FrameWrites =
    (l : List ℕ) (p n : ℕ) (c : Carried) (f : Accepted) → read_grid l p n c ≡ Ok f → Rewritten (bits_from l p) p f
