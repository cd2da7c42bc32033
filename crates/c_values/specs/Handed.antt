-- What C hands in: plain numbers and ranges of bytes. What can't be formed of them is refused by 5: a class above 3, a flag above 1, a
-- range shorter than its count.
use Rattle.std.specs.Prelude.{Bool, false, ◌&&◌, List, map, ℕ, ◌%◌, leb, eqb, length}
use Rattle.sbr_grid.specs.declared.Refusal.TheVariants.{Record}
use Rattle.sbr_grid.specs.Refusals.{Outcome, unless}
use Rattle.sbr_grid.specs.Grid.{class_of, first, Grid, made}
use Rattle.sbr_writer.specs.Write.{every}
use Rattle.c_values.specs.declared.form.Handed.{Handed}

-- what is handed in, by its class, its counts of envelopes and noise floors, border bytes, counts of lengths and pointer
abbrev pub handed : ℕ → ℕ → ℕ → ℕ → ℕ → ℕ → ℕ → ℕ → Handed
handed class env noise b0 b1 rel0 rel1 p = record {
  frame_class = class;
  num_env = env;
  num_noise = noise;
  var_bord_0 = b0;
  var_bord_1 = b1;
  num_rel_0 = rel0;
  num_rel_1 = rel1;
  pointer = p;
}

-- the record that is meant: the class of the two low bits, which are all where the number is at most 3, and the first places of each range, as many as its
-- count says
abbrev pub grid_from : Handed → List ℕ → List ℕ → List ℕ → Grid
grid_from h flags rel0 rel1 =
    made (class_of (h.frame_class % 4)) h.num_noise (map (λ b. eqb b 1) (first 0 h.num_env flags)) h.var_bord_0
    h.var_bord_1 (first 0 h.num_rel_0 rel0) (first 0 h.num_rel_1 rel1) h.pointer false

-- class and the two lists can be formed
unfoldable pub formed : Handed → List ℕ → List ℕ → Bool
formed h rel0 rel1 =
    leb h.frame_class 3 && leb h.num_rel_0 (length rel0) && leb h.num_rel_1 (length rel1)

-- n flags can be formed
unfoldable pub flagged : ℕ → List ℕ → Bool
flagged n flags = leb n (length flags) && every (λ b. leb b 1) (first 0 n flags)

-- a whole record can be formed
abbrev pub formable : Handed → List ℕ → List ℕ → List ℕ → Bool
formable h flags rel0 rel1 = formed h rel0 rel1 && flagged h.num_env flags

-- what stands behind the test that all can be formed, refused by 5 where it can't
abbrev pub forming : {A : Type 0} → Bool → Outcome A → Outcome A
forming ok o = unless ok Record o
