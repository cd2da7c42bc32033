-- Writing and reading sbr_grid() are inverse: the statements, proved in proofs/Inverse.antt.
use Rattle.std.specs.Prelude.{◌≡◌, Bool, true, List, [], ◌++◌, leb, Ok}
use Rattle.sbr_grid.specs.Grid.{by_class, Grid, num_env_of}
use Rattle.sbr_writer.specs.Syntax.{grid_bits}
use Rattle.sbr_writer.specs.Write.{writable}
use Rattle.sbr_parse.specs.Syntax.{received, sbr_grid}

-- a record with the fields that its class does not send cleared
abbrev pub cleared : Grid → Grid
cleared g =
    let c = g.frame_class in
    received c g.freq_res (by_class c 0 0 g.var_bord_0 g.var_bord_0) (by_class c 0 g.var_bord_1 0 g.var_bord_1)
    (by_class c [] [] g.rel_bord_0 g.rel_bord_0) (by_class c [] g.rel_bord_1 [] g.rel_bord_1)
    (by_class c 0 g.pointer g.pointer g.pointer)

-- what any writable record writes is read back, whatever bits follow
abbrev pub ReadsBack : Type 0
ReadsBack = (g : Grid) (rest : List Bool) → writable g ≡ true → sbr_grid (grid_bits g ++ rest) ≡ Ok (cleared g, rest)

-- a record is writable, has what its class does not send cleared, and writes the bits bs up to the rest
pub record WrittenAs (bs : List Bool) (g : Grid) (rest : List Bool) : Type 0 where
  pub fits : writable g ≡ true
  pub clear : cleared g ≡ g
  pub bits : bs ≡ grid_bits g ++ rest

-- every record that was read is so, unless its pointer is above its envelope count: fields of 2 and 3 bits have room for that
abbrev pub WritesBack : Type 0
WritesBack =
    (bs : List Bool) (g : Grid) (rest : List Bool) → sbr_grid bs ≡ Ok (g, rest) → leb g.pointer (num_env_of g) ≡ true
    → WrittenAs bs g rest
