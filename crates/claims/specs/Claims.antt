-- Every claim that belongs to no function, a field each, in the order of the three terms. Each stands in the crate that proves it; proofs/Proved.antt
-- gives them, so that none can be lost.
use Rattle.bits.specs.Put.{EveryField}
use Rattle.sbr_grid.specs.Grid.{PointerWidth, LeadingWidth, GridWidths}
use Rattle.sbr_time_grid.specs.TimeGrid.{EndsNear}
use Rattle.sbr_writer.specs.Write.{EveryWrite}
use Rattle.sbr_parse.specs.Inverse.{ReadsBack, WritesBack}
use Rattle.sbr_reader.specs.Inverse.{FrameWrites}
use Rattle.sbr_reader.specs.Flag.{FlagExactly, FlagOnlyTold}
use Rattle.sbr_named.specs.Named.{NamedIsFirst, NoGridExactly, CountsNamed, ClearingKeeps}
use Rattle.sbr_choice.specs.Plans.{SearchIsLeast, NoneExactly}
use Rattle.sbr_choice.specs.Chosen.{ChosenIsSound, MarkedCases}
use Rattle.sbr_envelopes.specs.Unread.{EnergiesUnread}
use Rattle.sbr_quantise.specs.Largest.{ValueIsLargest, StepsAreLargest}
use Rattle.sbr_encoder.specs.Unread.{ElectionsUnread}
use Rattle.sbr_encoder.specs.Electable.{EveryElection, NeverAtEnd}
use Rattle.sbr_run.specs.Term3.{Term3, EveryCall}
use Rattle.sbr_run.specs.Readings.{EveryFlag}
use Rattle.sbr_run.specs.Place.{CallsAreTurns}
use Rattle.c_send.specs.Streams.{CallsOfC}
use Rattle.sbr_sample.specs.Sample.{Sample}
use Rattle.sbr_sample.specs.Seam.{Seam}
use Rattle.sbr_list.specs.Listing.{FlagUnprinted}
use Rattle.sbr_list.specs.Enough.{EnoughInput, SettledInput}
use Rattle.sbr_text.specs.Reads.{LineReads}
use Rattle.sbr_make.specs.Back.{MadeIsRead, GivenBack}
use Rattle.sbr_make.specs.Enough.{EnoughText}
use Rattle.run_lines.specs.Number.{NumberTells}

pub record Claims : Type 1 where
  -- ---- term 1: every call answers or refuses as stated
  -- samples in columns 0 and 1, in bands outside the high table and past the columns that are needed affect no answer
  pub elections_unread : ElectionsUnread
  pub energies_unread : EnergiesUnread
  -- a field, and a grid, leave the rest of the byte in which they end clear and every other bit as it was; a field of no bits leaves all; bits a ++ b are a,
  -- then b
  pub every_field : EveryField
  pub every_write : EveryWrite
  -- bytes past the 832 that 255 frames need change no listing, nor does more input once every frame is there
  pub enough_input : EnoughInput
  pub settled_input : SettledInput
  -- no listing depends on the flag
  pub flag_unprinted : FlagUnprinted
  -- the record for named borders, resolutions and a mark has them, is the reader's, and comes before every other; after 1, 10 is given exactly where no
  -- writable record has them: so outside two to six borders, or unless the resolutions are one fewer. Clearing what a class does not send changes nothing of them
  pub named_is_first : NamedIsFirst
  pub no_grid_exactly : NoGridExactly
  pub counts_named : CountsNamed
  pub clearing_keeps : ClearingKeeps
  -- a line that is printed is read as what it shows; a stream that is made of lines is read as they say; a list of frames with the class and the noise
  -- borders of the grids that are chosen is given back; bytes past the first 65,536 of a text change nothing
  pub line_reads : LineReads
  pub made_is_read : MadeIsRead
  pub given_back : GivenBack
  pub enough_text : EnoughText
  -- ---- term 2: grids, bits and energies are those of the standard and of the Rust
  -- the width of bs_pointer is the least that tells the envelope count + 1 values apart, and what the leading zeros of the count leave of any number of
  -- digits that hold it: 1 bit for one envelope, 2 for two and three, 3 for four and five
  pub pointer_width : PointerWidth
  pub leading_width : LeadingWidth
  pub grid_widths : GridWidths
  -- every time grid ends at most 3 slots past the frame
  pub ends_near : EndsNear
  -- what a record writes is read back, and what was read is written again
  pub reads_back : ReadsBack
  pub writes_back : WritesBack
  pub frame_writes : FrameWrites
  -- a frame read leaves the flag set exactly where its mark is its envelope count: FIXVAR and VARVAR with bs_pointer 1; of the flag handed in depends
  -- only whether the frame begins on an attack
  pub flag_exactly : FlagExactly
  pub flag_only_told : FlagOnlyTold
  -- the border search answers the first of all plans, and none exactly where there is none
  pub search_is_least : SearchIsLeast
  pub none_exactly : NoneExactly
  -- every chosen grid has a time grid from the lead to 0 to 3 slots past the frame, whose mark is not the envelope count; the marked cases
  pub chosen_is_sound : ChosenIsSound
  pub marked_cases : MarkedCases
  -- the value of a finite energy above 64 is the largest number that it attains, held to the highest value: for every power, so for the coarse step and
  -- the fine one
  pub value_is_largest : ValueIsLargest
  pub steps_are_largest : StepsAreLargest
  -- ---- term 3: what any list of turns sends, any receiver reads back
  pub every_election : EveryElection
  -- no elected frame has its mark at its very end
  pub never_at_end : NeverAtEnd
  pub every_call : EveryCall
  pub term3 : Term3
  -- of any bytes: a frame begins on an attack exactly where the frame read before it has one marked at its very end
  pub every_flag : EveryFlag
  -- the calls that a host makes, from C too, are the claim's turns and readings
  pub calls_are_turns : CallsAreTurns
  pub calls_of_c : CallsOfC
  -- a run with its readings, computed and by the claim
  pub sample : Sample
  -- a frame of another transmitter with an attack at its very end, and the next one, which begins on it
  pub seam : Seam
  -- ---- the replays: frames that differ have different numbers, so that a verdict on what is read can fail
  pub number_tells : NumberTells
