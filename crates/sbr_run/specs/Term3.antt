-- Term 3: one claim about whole lists of turns and of readings, whatever the samples; and the same for any choosing call whose answers
-- are sound from the lead. Proved in proofs/Term3.antt.
use Rattle.std.specs.Prelude.{◌≡◌, Bool, false, List, ◌++◌, map, ℕ, ◌+◌, ◌-◌, ◌≤◌, ◌<◌, ℤ, length, take, get_or, replicate, Float, Ok, Err}
use Rattle.bits.specs.Room.{Holds}
use Rattle.bits.specs.Put.{BitsPut}
use Rattle.sbr_grid.specs.declared.Refusal.{Refusal}
use Rattle.sbr_grid.specs.declared.Refusal.TheVariants.{Room}
use Rattle.sbr_grid.specs.Grid.{Grid}
use Rattle.sbr_grid.specs.Times.{Times}
use Rattle.sbr_time_grid.specs.TimeGrid.{time_grid}
use Rattle.sbr_writer.specs.Write.{write_grid}
use Rattle.sbr_onsets.specs.Onsets.{lead_for}
use Rattle.sbr_encoder.specs.Election.{Elected}
use Rattle.sbr_encoder.specs.Electable.{Electable, NotAtEnd}
use Rattle.sbr_envelopes.specs.Envelopes.{sum_of, row_lengths, energies}
use Rattle.sbr_run.specs.Run.{Turn, Sent, Terms, Choosing, Elects, State, after, sent, Run, Frame, frames_sent, stream, Chain}
use Rattle.sbr_run.specs.Readings.{Reading, reading, tuned_at, listened, read, frame_heard, reading_in_terms, Readings}

-- ---- the transmitter

-- with the run's slot count n, the time grid never refuses a chosen record, its mark is never the envelope count, and the writer refuses only for room
pub record Sendable (n : ℕ) (g : Grid) : Type 0 where
  pub timed : (t : Times) × (time_grid n g ≡ Ok t)
  pub not_at_end : NotAtEnd n g
  pub room_only : (bytes : List ℕ) (p : ℕ) (e : Refusal) → write_grid bytes p g ≡ Err e → e ≡ Room

-- what the turns leave
pub record Transmitted (r : Terms) (s : State) (ts : List Turn) : Type 0 where
  -- frames meet and end 0 to 3 slots past N; the first begins at the run's first border
  pub chain : Chain r.slots s.border (sent ts) (after s ts).border
  -- no frame begins on an attack, and the flag stays clear
  pub none_begins : map (λ f. f.begins_on_attack) (frames_sent r (sent ts)) ≡ replicate (length (sent ts)) false
  pub clear : (after s ts).attack ≡ false
  -- the stream is the bits from the first position to the last
  pub ends : (after s ts).position ≡ s.position + length (stream (sent ts))
  pub holds : Holds (after s ts).bytes s.position (stream (sent ts))
  -- a run that sent a frame leaves its bytes as its stream leaves them, put at once: the rest of the byte in which it ends is clear
  pub put : 0 < length (sent ts) → BitsPut s.bytes (after s ts).bytes s.position (stream (sent ts))
  -- one that sent none moves nothing
  pub nothing_sent : length (sent ts) ≡ 0 → after s ts ≡ s

-- ---- the receiver

-- readings rs over bytes that hold the stream of fs at q, from the border b with the flag clear; z is what the transmitter is left with
pub record ReadBack (r : Terms) (fs : List Sent) (b : ℕ) (z : State) (bytes : List ℕ) (q : ℕ) (rs : List Reading) : Type 0 where
  -- those that answer give the frames sent, in order from the first, alike in all seven respects; the list ends when all are read
  pub in_order : length (read rs) ≤ length fs → map (frame_heard r) (read rs) ≡ take (length (read rs)) (frames_sent r fs)
  -- while a frame is unread, the next reading in the run's terms is not refused
  pub answers : length (read rs) < length fs
      → (e : Refusal) → reading (reading_in_terms r.slots bytes (listened (tuned_at b q) rs)) ≡ Err e → ⊥
  -- when all are read, border, flag and position are the transmitter's
  pub border : length (read rs) ≡ length fs → (listened (tuned_at b q) rs).border ≡ z.border
  pub attack : length (read rs) ≡ length fs → (listened (tuned_at b q) rs).attack ≡ z.attack
  pub position : length (read rs) ≡ length fs → (listened (tuned_at b q) rs).position ≡ q + length (stream fs)

-- ---- two transmitters

-- frames that differ in class, borders, mark or resolutions
abbrev pub Differ : Frame → Frame → Type 0
Differ a b =
    a.class ≡ b.class → a.borders ≡ b.borders → a.mark ≡ b.mark → a.resolutions ≡ b.resolutions → ⊥

-- neither stream begins the other
pub record Apart (ts ts' : List Turn) : Type 0 where
  pub first : (v : List Bool) → stream (sent ts) ++ v ≡ stream (sent ts') → ⊥
  pub second : (v : List Bool) → stream (sent ts') ++ v ≡ stream (sent ts) → ⊥

-- ---- the claim

-- that of the runs by one choosing call
pub record Term3Of (By : Choosing) : Type 0 where
  pub sendable : (r : Terms) (previous : ℤ) (e : Elected) → By r previous (Ok e) → Sendable r.slots e.grid
  pub transmitted : (r : Terms) (s : State) (ts : List Turn) → Run By r s ts → Transmitted r s ts
  pub read_back : (r : Terms) (s : State) (ts : List Turn) → Run By r s ts
      → (bytes : List ℕ) (q : ℕ) → Holds bytes q (stream (sent ts))
      → (rs : List Reading) → Readings r.slots bytes (tuned_at s.border q) rs
      → ReadBack r (sent ts) s.border (after s ts) bytes q rs
  -- energies that answer for a record answer the sum of its row lengths: for those sent and those read, and any other
  pub energies_count : (n : ℕ) (high low : List ℕ) (x : List Float) (g : Grid) (room : ℕ) (es : List Float)
      → energies n high low x g room ≡ Ok es → length es ≡ sum_of (row_lengths (length high - 1) (length low - 1) g.freq_res)
  -- two runs of one slot count that differ in a frame that both have sent
  pub apart : (r r' : Terms) (s s' : State) (ts ts' : List Turn) → Run By r s ts → Run By r' s' ts' → r.slots ≡ r'.slots
      → (i : ℕ) (d : Frame) → i < length (sent ts) → i < length (sent ts')
      → Differ (get_or (frames_sent r (sent ts)) i d) (get_or (frames_sent r' (sent ts')) i d) → Apart ts ts'

-- term 3: that of the runs by elections
abbrev pub Term3 : Type 0
Term3 = Term3Of Elects

-- a choosing call whose answers are sound from the lead: each has a time grid from there to 0 to 3 slots past the frame, whose mark is not the envelope
-- count, the writer refuses it for room only, a reader of its bits gives the same record, and the record handed out for it has it as its view
abbrev pub SoundChoice : Choosing → Type 0
SoundChoice By = (r : Terms) (previous : ℤ) (e : Elected) → By r previous (Ok e) → Electable r.slots (lead_for r.slots previous) e.grid

-- the claim holds of the runs by every such call
abbrev pub EveryCall : Type 1
EveryCall = (By : Choosing) → SoundChoice By → Term3Of By
