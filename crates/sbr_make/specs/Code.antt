-- What the program holds of the frames so far.
use Rattle.std.specs.Prelude.{◌≡◌, ℕ, ◌+◌, ◌*◌, ◌/◌, ◌≤◌, length, get_or}
use Rattle.sbr_make.specs.declared.Frames.TheInside.{Inside}
use Rattle.sbr_make.specs.Making.{Making, most_frames, most_bytes}

-- the frames that its fields say
abbrev pub making_of : Inside → Making
making_of f = record {
  slots = f.num_time_slots;
  count = f.count;
  begin = f.begin;
  next = f.next;
  position = f.position;
  bytes = f.bytes;
}

-- they are such as lines make: the bits have room, and so has a further frame where one is taken; every byte behind them is 0
pub record InRoom (m : Making) : Type 0 where
  pub count : m.count ≤ most_frames
  pub slots : m.slots ≤ 16
  pub position : m.position ≤ 26 * m.count
  pub begin : m.begin ≤ 19
  pub next : m.next ≤ 19
  pub size : length m.bytes ≡ most_bytes
  pub clear : (i : ℕ) → (m.position + 7) / 8 ≤ i → get_or m.bytes i 0 ≡ 0

-- so it is of every value of the program
abbrev pub HasRoom : Inside → Type 0
HasRoom f = InRoom (making_of f)
