-- A stream made of lines of text, in the input format of `gridlist`: slot count, previous border, frame count, a byte each, then the frames' bits. A line
-- names a frame, says the slot count, or is blank. Lines are counted from 1; the first that is refused is told by its number, and no stream is made then.
use Rattle.std.specs.Prelude.{Bool, cond, ◌||◌, List, [], ◌∷◌, ℕ, suc, ◌+◌, ◌-◌, ◌/◌, leb, ltb, eqb, ℤ, pos, nat_abs, length, take, get_or, replicate, Result, Ok, Err}
use Rattle.std.specs.List.{slice_split}
use Rattle.bits.specs.Bits.{put_bits}
use Rattle.sbr_grid.specs.declared.Refusal.{Refusal}
use Rattle.sbr_grid.specs.declared.Refusal.TheVariants.{SlotCount, Room, Record, Chain}
use Rattle.sbr_grid.specs.Refusals.{Outcome, unless}
use Rattle.sbr_grid.specs.Grid.{Grid, first}
use Rattle.sbr_grid.specs.Times.{is_slot_count, is_number}
use Rattle.sbr_writer.specs.Syntax.{grid_bits}
use Rattle.sbr_named.specs.Shapes.{named_grid}
use Rattle.sbr_text.specs.declared.Kind.{Kind}
use Rattle.sbr_text.specs.declared.Kind.TheVariants.{Blank, Slots, Frame, Unreadable}
use Rattle.sbr_text.specs.Parts.{LineParts, read_line, kind_of}
use Rattle.sbr_make.specs.declared.LineRefused.{LineRefused}

-- ---- lines

-- the lines of a text, without their line feeds; behind the last line feed stands one more, which may be empty
unfoldable pub lines_of : List ℕ → List (List ℕ)
lines_of text = slice_split (λ b. eqb b 10) text

-- ---- frames

-- what the lines so far have made: the slot count, how many frames, where the first begins, where the next has to begin, and the bytes with their bits up
-- to a position
pub record Making : Type 0 where
  pub slots : ℕ
  pub count : ℕ
  pub begin : ℕ
  pub next : ℕ
  pub position : ℕ
  pub bytes : List ℕ

-- the most frames, all that a byte counts, and the bytes that they need, with at most 26 bits each
abbrev pub most_frames : ℕ
most_frames = 255

abbrev pub most_bytes : ℕ
most_bytes = 829

-- before the first line: 16 slots, where no line says otherwise, and no frame
abbrev pub no_frames : Making
no_frames = record { slots = 16; count = 0; begin = 0; next = 0; position = 0; bytes = replicate most_bytes 0 }

-- a slot count, before the first frame; 5 behind one, then 1
abbrev pub set_slots : Making → ℕ → Outcome Making
set_slots m n =
    unless (eqb m.count 0) Record
    (unless (is_slot_count n) SlotCount
    (Ok (record { slots = n; count = m.count; begin = m.begin; next = m.next; position = m.position; bytes = m.bytes })))

-- a frame with this first and this last border, for which g is chosen: 9 where it does not begin at the last border of the frame before less the slot
-- count, then 4 where there are as many frames as are taken
abbrev pub add_frame : Making → ℤ → ℤ → Grid → Outcome Making
add_frame m from last g =
    unless (eqb m.count 0 || is_number from m.next) Chain
    (unless (ltb m.count most_frames) Room
    (Ok (record {
      slots = m.slots;
      count = m.count + 1;
      begin = cond (eqb m.count 0) (nat_abs from) m.begin;
      next = nat_abs last - m.slots;
      position = m.position + length (grid_bits g);
      bytes = put_bits m.bytes m.position (grid_bits g);
    })))

abbrev pub add_chosen : Making → List ℤ → Outcome Grid → Outcome Making
add_chosen m bs (Ok g) = add_frame m (get_or bs 0 (pos 0)) (get_or bs (length bs - 1) (pos 0)) g
add_chosen m bs (Err e) = Err e

-- a line that names a frame: its grid is the one for its borders, resolutions and mark
abbrev pub name_frame : Making → List ℤ → List Bool → ℤ → Outcome Making
name_frame m bs res mark = add_chosen m bs (named_grid m.slots bs res mark)

-- what a line adds: 5 where it is no such line, then as its kind
abbrev pub add_by_kind : Making → LineParts → Kind → Outcome Making
add_by_kind m s Blank = Ok m
add_by_kind m s (Slots n) = set_slots m n
add_by_kind m s Frame = name_frame m s.borders s.flags s.mark
add_by_kind m s Unreadable = Err Record

unfoldable pub add_line : Making → LineParts → Outcome Making
add_line m s = add_by_kind m s (kind_of s)

-- ---- the stream

-- what a text makes: a stream, or nothing and the line that is refused
abbrev pub TextOutcome : Type 0
TextOutcome = Result (List ℕ) LineRefused

abbrev pub refused_at : ℕ → Refusal → LineRefused
refused_at i e = record { line = i; why = e }

abbrev pub stream_of : Making → List ℕ
stream_of m = m.slots ∷ (m.begin + m.slots) ∷ m.count ∷ take ((m.position + 7) / 8) m.bytes

abbrev pub or_stopped : ℕ → (Making → TextOutcome) → Outcome Making → TextOutcome
or_stopped i next (Ok m) = next m
or_stopped i next (Err e) = Err (refused_at i e)

-- the longest text that is taken
abbrev pub most_text : ℕ
most_text = 65535

-- the lines behind the first i; `at` is the place of the text where they begin. A line that ends past the longest text is refused by 4, whatever it says:
-- it may have been cut
unfoldable pub made_from : ℕ → ℕ → Making → List (List ℕ) → TextOutcome
made_from i at m [] = Ok (stream_of m)
made_from i at m (l ∷ ls) =
    or_stopped (suc i) (λ a. made_from (suc i) (at + length l + 1) a ls)
    (unless (leb (at + length l) most_text) Room (add_line m (read_line l)))

unfoldable pub text_stream : List ℕ → TextOutcome
text_stream text = made_from 0 0 no_frames (lines_of text)

-- the bytes lent for it: the stream with zeros behind it, as they were where a line is refused
abbrev pub bytes_made : List ℕ → TextOutcome → List ℕ
bytes_made l (Ok s) = first 0 (3 + most_bytes) s
bytes_made l (Err e) = l
