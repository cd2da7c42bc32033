-- The definitions of chosen grids and of their time grids, in a form that computes.
use Prim.Native.Nat.{ℕ}
use mathlib.Core.Bool.{Bool}
use mathlib.Core.List.{List}
use Rattle.std.specs.Prelude.{Option}
use Rattle.sbr_grid.specs.Refusals.{Outcome}
use Rattle.sbr_grid.specs.Grid.{Grid}
use Rattle.sbr_grid.specs.Times.{Times, is_slot_count}
use Rattle.sbr_time_grid.specs.TimeGrid.{time_grid, counts_fit, borders_fit, noise_fits, abs_bord_lead, abs_bord_trail, n_rel_lead, n_rel_trail, rel_bord_lead, slot_sum, list_from, t_e_of, rises, middle_border, l_a_of, t_q_of}
use Rattle.sbr_borders.specs.declared.WantedBorder.{WantedBorder}
use Rattle.sbr_build.specs.Build.{fixfix_grid, varvar_grid, shares, varfix_plain}
use Rattle.sbr_attack.specs.Attack.{segments_by, late_attack_varvar, double_attack_grid, fixvar_segs, varfix_segs, fixvar_grid, varfix_grid, variable_grid}
use Rattle.sbr_search.specs.Search.{try_ends, try_shifts, try_from, Best, search, multi_onset_grid}
use Rattle.sbr_borders.specs.Borders.{places, prices, next_shifts, rises_from, last_or, steps_up, steps_down, all_even, reaches}
use Rattle.sbr_choice.specs.Choice.{attack_grid, plain_grid, chosen_grid}

unfoldable pub times_of : ℕ → Grid → Outcome Times
unfolding time_grid is_slot_count counts_fit borders_fit noise_fits abs_bord_lead abs_bord_trail n_rel_lead n_rel_trail rel_bord_lead slot_sum list_from t_e_of rises middle_border l_a_of t_q_of
times_of n g = time_grid n g

unfoldable pub searched : ℕ → ℕ → List WantedBorder → Option Best
unfolding places prices next_shifts rises_from last_or steps_up steps_down all_even reaches try_ends try_shifts try_from search
searched n lead ws = search n lead ws

unfoldable pub chosen_of : Bool → Bool → List ℕ → ℕ → ℕ → Grid
unfolding searched fixfix_grid varvar_grid shares varfix_plain segments_by late_attack_varvar double_attack_grid fixvar_segs varfix_segs fixvar_grid varfix_grid variable_grid multi_onset_grid attack_grid plain_grid chosen_grid
chosen_of variable even os lead n = chosen_grid variable even os lead n
