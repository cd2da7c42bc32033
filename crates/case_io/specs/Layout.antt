-- How a case holds records: tools/cases.py.
use Rattle.std.specs.Prelude.{Bool, false, not, List, [], ◌∷◌, ℕ, ◌%◌, eqb, get_or}
use Rattle.sbr_grid.specs.declared.SbrGrid.{SbrGrid}
use Rattle.sbr_grid.specs.Grid.{class_of}

abbrev flag_at : List ℕ → ℕ → Bool
flag_at bs k = not (eqb (get_or bs k 0) 0)

-- class, counts of envelopes and noise floors, 5 resolutions, border bytes, each list's count and 4 lengths, pointer
abbrev pub bytes_grid : List ℕ → SbrGrid
bytes_grid bs = record {
  frame_class = class_of (get_or bs 0 0 % 4);
  num_env = get_or bs 1 0;
  num_noise = get_or bs 2 0;
  freq_res = flag_at bs 3 ∷ flag_at bs 4 ∷ flag_at bs 5 ∷ flag_at bs 6 ∷ flag_at bs 7 ∷ [];
  var_bord_0 = get_or bs 8 0;
  var_bord_1 = get_or bs 9 0;
  rel_bord_0 = get_or bs 11 0 ∷ get_or bs 12 0 ∷ get_or bs 13 0 ∷ get_or bs 14 0 ∷ [];
  num_rel_0 = get_or bs 10 0;
  rel_bord_1 = get_or bs 16 0 ∷ get_or bs 17 0 ∷ get_or bs 18 0 ∷ get_or bs 19 0 ∷ [];
  num_rel_1 = get_or bs 15 0;
  pointer = get_or bs 20 0;
  amp_res_override = false;
}
