-- A receiver's readings: docs/ORDER.md, T3. The call is that of the public contract: `read_grid`.
use Rattle.std.specs.Prelude.{◌≡◌, Bool, false, List, [], ◌∷◌, map, ℕ, Ok, Err}
use Rattle.sbr_grid.specs.Refusals.{Outcome}
use Rattle.sbr_grid.specs.Grid.{num_env_of}
use Rattle.sbr_grid.specs.Times.{is_number}
use Rattle.sbr_reader.specs.declared.Carried.{Carried}
use Rattle.sbr_reader.specs.Read.{Accepted, read_grid, carrying}
use Rattle.sbr_run.specs.Run.{Sent, Terms, Frame, frame_of, frames_from}

-- a reading: what it hands in
pub record Reading : Type 0 where
  pub bytes : List ℕ
  pub position : ℕ
  pub slots : ℕ
  pub carried : Carried

abbrev pub reading : Reading → Outcome Accepted
reading r = read_grid r.bytes r.position r.slots r.carried

-- what a receiver keeps: border, the flag beside it, and position
pub record Receiver : Type 0 where
  pub border : ℕ
  pub attack : Bool
  pub position : ℕ

-- it starts at a border and a position, the flag clear
abbrev pub tuned_at : ℕ → ℕ → Receiver
tuned_at b q = record { border = b; attack = false; position = q }

-- a reading that answers leaves the frame's last border, whether an attack is marked at its very end, and the position after it; a refused one moves nothing
abbrev pub heard : Receiver → Outcome Accepted → Receiver
heard c (Ok f) = record { border = f.border; attack = f.ends_on_attack; position = f.position }
heard c (Err e) = c

abbrev pub listened : Receiver → List Reading → Receiver
listened c [] = c
listened c (r ∷ rs) = listened (heard c (reading r)) rs

-- what the readings that answer gave, in order
abbrev pub noted : Outcome Accepted → List Accepted → List Accepted
noted (Ok f) fs = f ∷ fs
noted (Err e) fs = fs

abbrev pub read : List Reading → List Accepted
read [] = []
read (r ∷ rs) = noted (reading r) (read rs)

-- a frame that is read begins on an attack where the reading says so
abbrev pub frame_heard : Terms → Accepted → Frame
frame_heard r f = frame_of r f.grid f.time f.begins_on_attack

-- the reading in the run's terms: its slot count n, those bytes, and the border, flag and position that the last one left
abbrev pub reading_in_terms : ℕ → List ℕ → Receiver → Reading
reading_in_terms n bytes c = record { bytes = bytes; position = c.position; slots = n; carried = carrying c.border c.attack }

-- readings that answer are so, refused ones hand in anything
abbrev pub OwnReading : ℕ → List ℕ → Receiver → Reading → Outcome Accepted → Type 0
OwnReading n bytes c r (Ok f) = r ≡ reading_in_terms n bytes c
OwnReading n bytes c r (Err e) = Unit {0}

abbrev pub Readings : ℕ → List ℕ → Receiver → List Reading → Type 0
Readings n bytes c [] = Unit {0}
Readings n bytes c (r ∷ rs) = OwnReading n bytes c r (reading r) × Readings n bytes (heard c (reading r)) rs

-- ---- the flag over a list of readings: the statement, proved in proofs/Flags.antt

-- a frame that is read, as one that another transmitter sent
abbrev pub sent_of : Accepted → Sent
sent_of f = record { grid = f.grid; time = f.time }

-- the flag after frames: that of the last one; the first one where there is none
abbrev pub flag_after : Bool → List Accepted → Bool
flag_after a [] = a
flag_after a (f ∷ fs) = flag_after (is_number f.time.l_a (num_env_of f.grid)) fs

-- whatever bytes are read, and however many readings are refused between: a frame begins on an attack exactly where the mark of the frame read before it is
-- that one's envelope count, the first one where the receiver starts so
pub record FlagsFollow (r : Terms) (c : Receiver) (rs : List Reading) : Type 0 where
  pub begin : map (frame_heard r) (read rs) ≡ frames_from r c.attack (map sent_of (read rs))
  pub left : (listened c rs).attack ≡ flag_after c.attack (read rs)

abbrev pub EveryFlag : Type 0
EveryFlag = (r : Terms) (n : ℕ) (bytes : List ℕ) (c : Receiver) (rs : List Reading) → Readings n bytes c rs → FlagsFollow r c rs
