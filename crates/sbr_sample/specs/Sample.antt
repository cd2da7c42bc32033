-- A run of five turns, two of them refused, and its readings: the claim is about something, and its hypotheses are met. Proved in proofs/Sampled.antt.
use Rattle.std.specs.Prelude.{◌≡◌, true, false, List, [], ◌∷◌, ◌++◌, map, ℕ, zero, suc, ◌+◌, ◌-◌, ◌*◌, pos, negsuc, length, take, replicate, Float, Err}
use Rattle.std.specs.Float.{binary64}
use Rattle.std.specs.Float.Ieee.{of_bits}
use Rattle.sbr_grid.specs.declared.FrameClass.TheVariants.{FixFix, FixVar, VarFix}
use Rattle.sbr_grid.specs.declared.Refusal.{Refusal}
use Rattle.sbr_floats.specs.Floats.{zero64}
use Rattle.sbr_encoder.specs.Election.{elect}
use Rattle.sbr_reader.specs.Read.{carrying}
use Rattle.sbr_run.specs.Run.{Turn, Terms, Elects, State, after, sent, Run, Frame, frames_sent}
use Rattle.sbr_run.specs.Readings.{Reading, Receiver, tuned_at, reading, listened, read, frame_heard, reading_in_terms, Readings}
use Rattle.sbr_run.specs.Term3.{Apart}

-- ---- samples

-- 16.0
abbrev pub sixteen : Float
sixteen = of_bits binary64 0x4030_0000_0000_0000

-- a column of 64 bands that is silent, and one that is loud in band 10
abbrev pub quiet : List Float
quiet = replicate 128 zero64

abbrev pub loud : List Float
loud = replicate 20 zero64 ++ (sixteen ∷ sixteen ∷ replicate 106 zero64)

-- n of a column
abbrev pub columns_of : ℕ → List Float → List Float
columns_of zero c = []
columns_of (suc n) c = c ++ columns_of n c

-- 50 columns, loud from slot s on
abbrev pub loud_from : ℕ → List Float
loud_from s = columns_of (2 * s + 2) quiet ++ columns_of (48 - 2 * s) loud

-- ---- turns

abbrev pub terms : Terms
terms = record { slots = 16; high = 10 ∷ 11 ∷ 12 ∷ []; low = 10 ∷ 12 ∷ [] }

abbrev pub turn_at : ℕ → ℕ → State → Turn
turn_at n s c = record {
  chosen = elect n terms.high terms.low (loud_from s) (pos c.border) true;
  time_slots = n;
  bytes = c.bytes;
  position = c.position;
}

-- what is carried: at the start, after each frame and at the end; every bit is set at the start, so that those that are kept and those that are cleared show
abbrev pub start : State
start = record { border = 16; attack = false; position = 3; bytes = 255 ∷ 255 ∷ 255 ∷ 255 ∷ 255 ∷ [] }

abbrev pub after_one : State
after_one = record { border = 16; attack = false; position = 8; bytes = 225 ∷ 255 ∷ 255 ∷ 255 ∷ 255 ∷ [] }

abbrev pub after_two : State
after_two = record { border = 18; attack = false; position = 23; bytes = 225 ∷ 104 ∷ 48 ∷ 255 ∷ 255 ∷ [] }

abbrev pub end : State
end = record { border = 16; attack = false; position = 38; bytes = 225 ∷ 104 ∷ 49 ∷ 86 ∷ 100 ∷ [] }

-- silence; refused, by the slot count 17; loud from slot 15 on; loud from slot 10 on; silence, refused since it has no room
abbrev pub turns : List Turn
turns = turn_at 16 24 start ∷ turn_at 17 24 after_one ∷ turn_at 16 15 after_one ∷ turn_at 16 10 after_two ∷ turn_at 16 24 end ∷ []

-- the frames that are sent
abbrev pub frames : List Frame
frames =
    record {
      class = FixFix;
      borders = 0 ∷ 16 ∷ [];
      noise = 0 ∷ 16 ∷ [];
      mark = negsuc 0;
      resolutions = true ∷ [];
      rows = 2 ∷ [];
      begins_on_attack = false;
    }
    ∷ record {
      class = FixVar;
      borders = 0 ∷ 14 ∷ 16 ∷ 18 ∷ [];
      noise = 0 ∷ 14 ∷ 18 ∷ [];
      mark = pos 1;
      resolutions = false ∷ false ∷ false ∷ [];
      rows = 1 ∷ 1 ∷ 1 ∷ [];
      begins_on_attack = false;
    }
    ∷ record {
      class = VarFix;
      borders = 2 ∷ 10 ∷ 12 ∷ 16 ∷ [];
      noise = 2 ∷ 12 ∷ 16 ∷ [];
      mark = pos 2;
      resolutions = false ∷ false ∷ true ∷ [];
      rows = 1 ∷ 1 ∷ 2 ∷ [];
      begins_on_attack = false;
    }
    ∷ []

-- ---- readings

abbrev pub reading_at : ℕ → ℕ → ℕ → Reading
reading_at n b p = record { bytes = end.bytes; position = p; slots = n; carried = carrying b false }

-- the first frame; refused, by the slot count 17; the second; refused, since it does not meet the border 16; the third; refused, since the bits end
abbrev pub readings : List Reading
readings = reading_at 16 16 3 ∷ reading_at 17 16 8 ∷ reading_at 16 16 8 ∷ reading_at 16 16 23 ∷ reading_at 16 18 23 ∷ reading_at 16 16 38 ∷ []

-- ---- a second run

-- one turn, loud from slot 15 on, at another position: its first frame is FixVar, that of the first run FixFix
abbrev pub other_turns : List Turn
other_turns = turn_at 16 15 after_one ∷ []

-- ---- the sample

-- where the receiver begins
abbrev pub tuned : Receiver
tuned = tuned_at 16 3

pub record Sample : Type 0 where
  -- computed: a run, what it sends and leaves; readings in its terms, of which three answer; a second run
  pub runs : Run Elects terms start turns
  pub sends : frames_sent terms (sent turns) ≡ frames
  pub ends : after start turns ≡ end
  pub listens : Readings 16 end.bytes tuned readings
  pub counts : length (read readings) ≡ 3
  pub runs_too : Run Elects terms after_one other_turns
  -- by term 3, whose hypotheses these meet: the readings give the frames sent and leave the transmitter's border, flag and position; after two readings
  -- the next one is not refused; neither run's stream begins the other's
  pub reads : map (frame_heard terms) (read readings) ≡ frames
  pub hears : listened tuned readings ≡ record { border = end.border; attack = end.attack; position = end.position }
  pub unread : (e : Refusal) → reading (reading_in_terms 16 end.bytes (listened tuned (take 2 readings))) ≡ Err e → ⊥
  pub apart : Apart turns other_turns
