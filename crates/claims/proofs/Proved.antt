-- The claims hold.
use Rattle.claims.specs.Claims.{Claims}
use Rattle.bits.proofs.After.{every_field}
use Rattle.sbr_grid.proofs.Widths.{pointer_width, leading_width, grid_widths}
use Rattle.sbr_time_grid.proofs.Ends.{ends_near}
use Rattle.sbr_writer.proofs.Puts.{every_write}
use Rattle.sbr_parse.proofs.Inverse.{reads_back, writes_back}
use Rattle.sbr_reader.proofs.Frames.{frame_writes}
use Rattle.sbr_reader.proofs.Flag.{flag_exactly, flag_only_told}
use Rattle.sbr_named.proofs.Chosen.{named_is_first, no_grid_exactly, clearing_keeps}
use Rattle.sbr_named.proofs.Limits.{counts_named}
use Rattle.sbr_choice.proofs.Best.{search_is_least, none_exactly}
use Rattle.sbr_choice.proofs.Cases.{marked_cases}
use Rattle.sbr_choice.proofs.Every.{chosen_is_sound}
use Rattle.sbr_envelopes.proofs.Unread.{energies_unread}
use Rattle.sbr_quantise.proofs.Largest.{value_is_largest, steps_are_largest}
use Rattle.sbr_encoder.proofs.Unread.{elections_unread}
use Rattle.sbr_encoder.proofs.EveryElection.{every_election, never_at_end}
use Rattle.sbr_run.proofs.Term3.{every_call, term3}
use Rattle.sbr_run.proofs.Flags.{every_flag}
use Rattle.sbr_run.proofs.Calls.{calls_are_turns}
use Rattle.c_send.proofs.Streams.{calls_of_c}
use Rattle.sbr_sample.proofs.Sampled.{sampled}
use Rattle.sbr_sample.proofs.Seam.{seam}
use Rattle.sbr_list.proofs.Unprinted.{flag_unprinted}
use Rattle.sbr_list.proofs.Enough.{enough_input}
use Rattle.sbr_list.proofs.Settled.{settled_input}
use Rattle.sbr_text.proofs.Printed.{line_reads}
use Rattle.sbr_make.proofs.Back.{made_is_read, given_back}
use Rattle.sbr_make.proofs.Enough.{enough_text}
use Rattle.run_lines.proofs.Tells.{number_tells}

pub claims : Claims
claims = record {
  elections_unread = elections_unread;
  energies_unread = energies_unread;
  every_field = every_field;
  every_write = every_write;
  enough_input = enough_input;
  settled_input = settled_input;
  flag_unprinted = flag_unprinted;
  named_is_first = named_is_first;
  no_grid_exactly = no_grid_exactly;
  counts_named = counts_named;
  clearing_keeps = clearing_keeps;
  line_reads = line_reads;
  made_is_read = made_is_read;
  given_back = given_back;
  enough_text = enough_text;
  pointer_width = pointer_width;
  leading_width = leading_width;
  grid_widths = grid_widths;
  ends_near = ends_near;
  reads_back = reads_back;
  writes_back = writes_back;
  frame_writes = frame_writes;
  flag_exactly = flag_exactly;
  flag_only_told = flag_only_told;
  search_is_least = search_is_least;
  none_exactly = none_exactly;
  chosen_is_sound = chosen_is_sound;
  marked_cases = marked_cases;
  value_is_largest = value_is_largest;
  steps_are_largest = steps_are_largest;
  every_election = every_election;
  never_at_end = never_at_end;
  every_call = every_call;
  term3 = term3;
  every_flag = every_flag;
  calls_are_turns = calls_are_turns;
  calls_of_c = calls_of_c;
  sample = sampled;
  seam = seam;
  number_tells = number_tells;
}
