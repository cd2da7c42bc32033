-- The readings of another transmitter's frames are as stated.
use mathlib.Core.Path.{refl}
use Rattle.bits.specs.Bits.{bit_at, get_bit, bits_at, num_from}
use Rattle.bits.specs.Room.{end_of}
use Rattle.sbr_grid.specs.Grid.{width_from}
use Rattle.sbr_grid.specs.Times.{is_slot_count}
use Rattle.sbr_time_grid.specs.TimeGrid.{abs_bord_lead, abs_bord_trail, n_rel_lead, n_rel_trail, rel_bord_lead, slot_sum, list_from, t_e_of, rises, middle_border, l_a_of, counts_fit, borders_fit, noise_fits, t_q_of, time_grid}
use Rattle.sbr_parse.specs.Syntax.{◌followed_by◌, flags, field, rel_bords, checked_count, behind_counts, fix_fix, fix_var, sbr_grid}
use Rattle.sbr_reader.specs.Read.{meets, read_grid}
use Rattle.sbr_sample.specs.Seam.{Seam}

pub seam : Seam
unfolding bit_at get_bit bits_at num_from end_of width_from abs_bord_lead abs_bord_trail n_rel_lead n_rel_trail rel_bord_lead slot_sum list_from t_e_of rises middle_border l_a_of is_slot_count counts_fit borders_fit noise_fits t_q_of time_grid read_grid meets sbr_grid ◌followed_by◌ flags field rel_bords checked_count behind_counts fix_fix fix_var
seam = record { listens = (refl, (tt, (refl, tt))); reads = refl; flags = refl }
