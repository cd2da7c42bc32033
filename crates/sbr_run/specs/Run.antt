-- A transmitter's run: docs/ORDER.md, T3. The calls are those of the public contracts: `elect`, `time_grid`, `write_grid`.
-- The call that chooses a turn's record is a parameter of the run. That of term 3 is the election, `Elects`.
use Rattle.std.specs.Prelude.{◌≡◌, Bool, false, List, [], ◌∷◌, ◌++◌, ℕ, ◌+◌, ◌-◌, ◌≤◌, ℤ, pos, length, get_or, Float, Ok, Err}
use Rattle.sbr_grid.specs.declared.FrameClass.{FrameClass}
use Rattle.sbr_grid.specs.Refusals.{Outcome}
use Rattle.sbr_grid.specs.Grid.{Grid, num_env_of}
use Rattle.sbr_grid.specs.Times.{Times, is_number}
use Rattle.sbr_time_grid.specs.TimeGrid.{time_grid}
use Rattle.sbr_writer.specs.Syntax.{grid_bits}
use Rattle.sbr_writer.specs.Write.{Wrote, write_grid}
use Rattle.sbr_reader.specs.Read.{marks_end}
use Rattle.sbr_envelopes.specs.Envelopes.{row_lengths}
use Rattle.sbr_encoder.specs.Election.{Elected, elect}

-- ---- a turn

-- a turn: what its choosing call comes to, and what is handed in to the time grid of that record and to its writing
pub record Turn : Type 0 where
  pub chosen : Outcome Elected
  pub time_slots : ℕ
  pub bytes : List ℕ
  pub position : ℕ

-- a record with its time grid
pub record Sent : Type 0 where
  pub grid : Grid
  pub time : Times

-- what a turn comes to where all three calls answer
pub record Turned : Type 0 where
  pub sent : Sent
  pub transient : Bool
  pub wrote : Wrote

-- the next call, where the one before answered
abbrev pub next : {A B : Type 0} → Outcome A → (A → Outcome B) → Outcome B
next (Ok a) f = f a
next (Err e) f = Err e

-- three calls; the one that refuses is the last
unfoldable pub turn : Turn → Outcome Turned
turn t =
    next t.chosen (λ e.
    next (time_grid t.time_slots e.grid) (λ tm.
    next (write_grid t.bytes t.position e.grid) (λ w.
    Ok (record { sent = record { grid = e.grid; time = tm }; transient = e.transient; wrote = w }))))

-- ---- choosing calls

-- what a run keeps: its slot count and its tables
pub record Terms : Type 0 where
  pub slots : ℕ
  pub high : List ℕ
  pub low : List ℕ

-- a choosing call: what it may come to with the run's slot count and tables and a previous border; all else that it takes is free
abbrev pub Choosing : Type 1
Choosing = Terms → ℤ → Outcome Elected → Type 0

-- the election: samples and switch are free
pub record Elects (r : Terms) (previous : ℤ) (o : Outcome Elected) : Type 0 where
  pub samples : List Float
  pub variable : Bool
  pub is : o ≡ elect r.slots r.high r.low samples previous variable

-- ---- lists of turns

-- what is carried from turn to turn: border, the flag beside it, position and bytes
pub record State : Type 0 where
  pub border : ℕ
  pub attack : Bool
  pub position : ℕ
  pub bytes : List ℕ

abbrev pub first_border : Times → ℕ
first_border t = get_or t.t_e 0 0

abbrev pub last_border : Times → ℕ
last_border t = get_or t.t_e (length t.t_e - 1) 0

-- where all calls answer, the frame's last border is carried, with whether an attack is marked at its very end, and the writer's position and bytes are
-- kept; else nothing moves
abbrev pub moved : State → Outcome Turned → State
moved s (Ok a) = record {
  border = last_border a.sent.time;
  attack = marks_end a.sent.grid a.sent.time;
  position = a.wrote.position;
  bytes = a.wrote.bytes;
}
moved s (Err e) = s

abbrev pub after : State → List Turn → State
after s [] = s
after s (t ∷ ts) = after (moved s (turn t)) ts

-- the frames sent, in order
abbrev pub counted : Outcome Turned → List Sent → List Sent
counted (Ok a) fs = a.sent ∷ fs
counted (Err e) fs = fs

abbrev pub sent : List Turn → List Sent
sent [] = []
sent (t ∷ ts) = counted (turn t) (sent ts)

-- the choosing call has the run's slot count and tables and the border that the last turn left, the time grid the slot count, the writing
-- the bytes and the position that the last turn left
pub record HandsIn (By : Choosing) (r : Terms) (s : State) (t : Turn) : Type 0 where
  pub chosen : By r (pos s.border) t.chosen
  pub time_slots : t.time_slots ≡ r.slots
  pub bytes : t.bytes ≡ s.bytes
  pub position : t.position ≡ s.position

-- turns that answer hand these in, refused ones anything
abbrev pub OwnTurn : Choosing → Terms → State → Turn → Outcome Turned → Type 0
OwnTurn By r s t (Ok a) = HandsIn By r s t
OwnTurn By r s t (Err e) = Unit {0}

abbrev pub Turns : Choosing → Terms → State → List Turn → Type 0
Turns By r s [] = Unit {0}
Turns By r s (t ∷ ts) = OwnTurn By r s t (turn t) × Turns By r (moved s (turn t)) ts

-- a run starts with a carried border from N to N + 3, the flag clear, any position and any bytes
pub record Run (By : Choosing) (r : Terms) (s : State) (ts : List Turn) : Type 0 where
  pub from : r.slots ≤ s.border
  pub by : s.border ≤ r.slots + 3
  pub clear : s.attack ≡ false
  pub turns : Turns By r s ts

-- ---- frames and the stream

-- a frame, sent or read: the seven respects in which term 3 says that they are alike
pub record Frame : Type 0 where
  pub class : FrameClass
  pub borders : List ℕ
  pub noise : List ℕ
  pub mark : ℤ
  pub resolutions : List Bool
  pub rows : List ℕ
  pub begins_on_attack : Bool

-- class and resolutions of the record, borders, noise borders and mark of its time grid; a row length for each envelope: the entries of the table of its
-- resolution, less 1; and whether it begins on an attack
abbrev pub frame_of : Terms → Grid → Times → Bool → Frame
frame_of r g t begins = record {
  class = g.frame_class;
  borders = t.t_e;
  noise = t.t_q;
  mark = t.l_a;
  resolutions = g.freq_res;
  rows = row_lengths (length r.high - 1) (length r.low - 1) g.freq_res;
  begins_on_attack = begins;
}

-- frames sent, of which the first begins on an attack where `begins` says so, each other one where the mark of the one before it is that one's envelope
-- count
abbrev pub frames_from : Terms → Bool → List Sent → List Frame
frames_from r begins [] = []
frames_from r begins (f ∷ fs) =
    frame_of r f.grid f.time begins ∷ frames_from r (is_number f.time.l_a (num_env_of f.grid)) fs

-- the frames of a run: the first does not begin on one
abbrev pub frames_sent : Terms → List Sent → List Frame
frames_sent r fs = frames_from r false fs

-- the frames' sbr_grid() one after another
abbrev pub stream : List Sent → List Bool
stream [] = []
stream (f ∷ fs) = grid_bits f.grid ++ stream fs

-- each frame begins where the one before ended, the first at b, and ends 0 to 3 slots past n; the last one ends at e
pub record Meets (n b : ℕ) (f : Sent) : Type 0 where
  pub derived : time_grid n f.grid ≡ Ok f.time
  pub begins : first_border f.time + n ≡ b
  pub from : n ≤ last_border f.time
  pub by : last_border f.time ≤ n + 3

abbrev pub Chain : ℕ → ℕ → List Sent → ℕ → Type 0
Chain n b [] e = e ≡ b
Chain n b (f ∷ fs) e = Meets n b f × Chain n (last_border f.time) fs e
