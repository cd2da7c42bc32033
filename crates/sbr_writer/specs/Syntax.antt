-- The bits of sbr_grid(): ISO/IEC 14496-3, Table 4.69, the fields of each class in order.
use Rattle.std.specs.Prelude.{Bool, false, cond, List, [], ◌∷◌, ◌++◌, reverse, ℕ, leb, length, get_or}
use Rattle.bits.specs.Bits.{bits_of}
use Rattle.sbr_grid.specs.declared.FrameClass.{FrameClass}
use Rattle.sbr_grid.specs.declared.FrameClass.TheVariants.{FixFix, FixVar, VarFix, VarVar}
use Rattle.sbr_grid.specs.Grid.{class_code, ptr_bits, Grid, num_env_of}

-- stored relative lengths, two bits each
unfoldable pub twos : List ℕ → List Bool
twos [] = []
twos (r ∷ rs) = bits_of 2 r ++ twos rs

-- the number tmp for which bs_num_env is 2 to the power tmp, of 1, 2 and 4
abbrev pub env_code : ℕ → ℕ
env_code n = cond (leb n 1) 0 (cond (leb n 2) 1 2)

-- bs_pointer and bs_freq_res, the flags in the order in which they are sent
abbrev pub pointer_bits : Grid → List Bool → List Bool
pointer_bits g flags = bits_of (ptr_bits (num_env_of g)) g.pointer ++ flags

-- what follows bs_frame_class
unfoldable pub body_bits : FrameClass → Grid → List Bool
body_bits FixFix g = bits_of 2 (env_code (num_env_of g)) ++ (get_or g.freq_res 0 false ∷ [])
body_bits FixVar g =
    bits_of 2 g.var_bord_1 ++ (bits_of 2 (length g.rel_bord_1) ++ (twos g.rel_bord_1 ++ pointer_bits g (reverse g.freq_res)))
body_bits VarFix g =
    bits_of 2 g.var_bord_0 ++ (bits_of 2 (length g.rel_bord_0) ++ (twos g.rel_bord_0 ++ pointer_bits g g.freq_res))
body_bits VarVar g =
    bits_of 2 g.var_bord_0 ++ (bits_of 2 g.var_bord_1 ++ (bits_of 2 (length g.rel_bord_0) ++ (bits_of 2 (length g.rel_bord_1)
    ++ (twos g.rel_bord_0 ++ (twos g.rel_bord_1 ++ pointer_bits g g.freq_res)))))

unfoldable pub grid_bits : Grid → List Bool
grid_bits g = bits_of 2 (class_code g.frame_class) ++ body_bits g.frame_class g
