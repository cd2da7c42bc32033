-- The slots of a frame and the record of a time grid: ISO/IEC 14496-3, 4.6.18.3.3.
use Rattle.std.specs.Prelude.{Bool, false, ◌||◌, List, [], ℕ, ◌-◌, eqb, ℤ, pos, negsuc, length}
use Rattle.sbr_grid.specs.Grid.{first}
use Rattle.sbr_grid.specs.declared.TimeGrid.{TimeGrid}

-- numTimeSlots (refusal 1)
unfoldable pub is_slot_count : ℕ → Bool
is_slot_count n = eqb n 15 || eqb n 16

-- t_E, t_Q and l_A of a frame; l_A, the mark, is -1 for none
pub record Times : Type 0 where
  pub t_e : List ℕ
  pub t_q : List ℕ
  pub l_a : ℤ

-- a signed number, a mark or a carried border, is the number k
abbrev pub is_number : ℤ → ℕ → Bool
is_number (pos z) k = eqb z k
is_number (negsuc z) k = false

-- the record of a time grid: places past a count are zero; and the one of which nothing is set
abbrev pub time_record : Times → TimeGrid
time_record t = record {
  num_env = length t.t_e - 1;
  t_e = first 0 6 t.t_e;
  num_noise = length t.t_q - 1;
  t_q = first 0 3 t.t_q;
  l_a = t.l_a;
}

abbrev pub empty_time : TimeGrid
empty_time = time_record (record { t_e = []; t_q = []; l_a = pos 0 })
