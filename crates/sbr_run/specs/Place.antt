-- What the program hands in and hands out for a turn and for a reading, and that these are the claim's.
use Rattle.std.specs.Prelude.{◌≡◌, Bool, List, ℕ, Float}
use Rattle.sbr_grid.specs.Refusals.{Outcome, value_or, result_map}
use Rattle.sbr_grid.specs.Grid.{record_of}
use Rattle.sbr_grid.specs.Times.{time_record}
use Rattle.sbr_reader.specs.declared.FrameRead.{FrameRead}
use Rattle.sbr_reader.specs.Read.{Accepted, marks_end, carrying, frame_read}
use Rattle.sbr_encoder.specs.Election.{elect}
use Rattle.sbr_run.specs.declared.Place.{Place}
use Rattle.sbr_run.specs.declared.Sending.{Sending}
use Rattle.sbr_run.specs.Run.{Turn, Turned, Terms, Elects, State, last_border, moved, HandsIn}
use Rattle.sbr_run.specs.Readings.{Reading, Receiver, heard, reading_in_terms}

-- a border, the flag beside it and a position as a host carries them
abbrev pub place_of : ℕ → Bool → ℕ → Place
place_of border attack position = record { carried = carrying border attack; position = position }

-- one slot count for election and time grid, the border and position that are carried; a turn does not look at the flag
abbrev pub turn_from : ℕ → List ℕ → List ℕ → List Float → Bool → List ℕ → Place → Turn
turn_from n high low x variable bytes p = record {
  chosen = elect n high low x p.carried.border variable;
  time_slots = n;
  bytes = bytes;
  position = p.position;
}

-- record, time grid and transient flag of a frame that is sent, and what is carried on
abbrev pub sending : Turned → Sending
sending a = record {
  grid = record_of a.sent.grid;
  time = time_record a.sent.time;
  transient = a.transient;
  place = place_of (last_border a.sent.time) (marks_end a.sent.grid a.sent.time) a.wrote.position;
}

-- the bytes after a turn; as before where it is refused
abbrev pub bytes_left : List ℕ → Outcome Turned → List ℕ
bytes_left l o = value_or (λ a. a.wrote.bytes) l o

abbrev pub reading_from : ℕ → List ℕ → Place → Reading
reading_from n bytes p = record { bytes = bytes; position = p.position; slots = n; carried = p.carried }

-- the place behind a frame that was read
abbrev pub behind : FrameRead → Place
behind r = record { carried = r.carried; position = r.position }

-- the place that a host hands in next: that of what was handed out, or the same again where the call is refused; `Place::after_turn` of a turn,
-- `Place::after_reading` of a reading
abbrev pub place_next : {A : Type 0} → (A → Place) → Place → Outcome A → Place
place_next f p o = value_or f p o

-- ---- the calls are the turns and readings of term 3: the statement, proved in proofs/Calls.antt

pub record CallsAreTurns : Type 0 where
  -- `send_frame` with the run's slot count and tables, and the border, position and bytes that the last turn left, makes a turn of the run
  pub hands_in : (r : Terms) (s : State) (x : List Float) (variable : Bool)
      → HandsIn Elects r s (turn_from r.slots r.high r.low x variable s.bytes (place_of s.border s.attack s.position))
  -- what is carried on is what the turn moves; what it hands out is the frame that counts as sent
  pub carries : (s : State) (o : Outcome Turned)
      → place_next (λ a. a.place) (place_of s.border s.attack s.position) (result_map sending o)
      ≡ place_of (moved s o).border (moved s o).attack (moved s o).position
  pub leaves : (s : State) (o : Outcome Turned) → bytes_left s.bytes o ≡ (moved s o).bytes
  pub sends : (a : Turned) → ((sending a).grid ≡ record_of a.sent.grid) × ((sending a).time ≡ time_record a.sent.time)
  -- `receive_frame` with the slot count, those bytes and what the last reading left makes the reading in the run's terms
  pub in_terms : (n : ℕ) (bytes : List ℕ) (c : Receiver) → reading_from n bytes (place_of c.border c.attack c.position) ≡ reading_in_terms n bytes c
  pub keeps : (c : Receiver) (o : Outcome Accepted)
      → place_next behind (place_of c.border c.attack c.position) (result_map frame_read o)
      ≡ place_of (heard c o).border (heard c o).attack (heard c o).position
  pub reads : (f : Accepted)
      → ((frame_read f).grid ≡ record_of f.grid) × ((frame_read f).time ≡ time_record f.time) × ((frame_read f).begins_on_attack ≡ f.begins_on_attack)
