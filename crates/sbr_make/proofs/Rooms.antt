-- Frames that lines make have room.
use Rattle.std.specs.Prelude.{Ok}
use mathlib.Core.Path.{◌≡◌, ◌∙◌}
use mathlib.Core.Bool.{Bool, true, false, cond, ◌||◌}
use mathlib.Core.List.{List}
use Prim.Native.Nat.{ℕ, ◌+◌, ◌-◌, ◌*◌, ◌≤◌, ◌<◌}
use native.Mathlib.Omega.{arith}
use borrow.Author.Tests.{lt-ltb}
use lib.Dec.{eqb}
use lib.IntN.{pos}
use lib.ListN.{length, length-replicate}
use Rattle.bits.specs.Bits.{put_bits}
use Rattle.bits.proofs.Room.{room_back}
use Rattle.bits.proofs.After.{length-put_bits, put_leaves}
use Rattle.sbr_grid.specs.Grid.{Grid}
use Rattle.sbr_grid.specs.Times.{is_slot_count}
use Rattle.sbr_grid.proofs.Slots.{slots_few}
use Rattle.sbr_time_grid.proofs.Borders.{zeros_at}
use Rattle.sbr_writer.specs.Syntax.{grid_bits}
use Rattle.sbr_writer.specs.Write.{writable, write_grid}
use Rattle.sbr_writer.proofs.Puts.{some_bits}
use Rattle.sbr_writer.proofs.Writable.{length_grid}
use Rattle.sbr_make.specs.Making.{Making, no_frames, add_frame}
use Rattle.sbr_make.specs.declared.Frames.TheInside.{Inside}
use Rattle.sbr_make.specs.Code.{making_of, InRoom}

-- before the first line there is room
pub none_room : InRoom no_frames
none_room = record {
  count = omega arith;
  slots = omega arith;
  position = omega arith;
  begin = omega arith;
  next = omega arith;
  size = length-replicate {A = ℕ} 829 0;
  clear = λ i h. zeros_at 829 i;
}

-- what is made with one more frame, of this first and this last border
abbrev pub more : Making → ℕ → ℕ → Grid → Making
more m first last g = record {
  slots = m.slots;
  count = m.count + 1;
  begin = cond (eqb m.count 0) first m.begin;
  next = last - m.slots;
  position = m.position + length (grid_bits g);
  bytes = put_bits m.bytes m.position (grid_bits g);
}

-- either of two numbers up to 19 is one
either_low : (b : Bool) (x y : ℕ) → x ≤ 19 → y ≤ 19 → cond b x y ≤ 19
either_low true x y a b = a
either_low false x y a b = b

module _ (m : Making) (r : InRoom m) (g : Grid) (w : writable g ≡ true) (h : m.count < 255) where
  -- its bits lie within the bytes
  bits_within : m.position + length (grid_bits g) ≤ 8 * length m.bytes
  bits_within = omega (arith, length_grid g w, r.position, r.size)

  -- so the writer writes it
  pub wrote : write_grid m.bytes m.position g
      ≡ Ok (record { bytes = put_bits m.bytes m.position (grid_bits g); position = m.position + length (grid_bits g) })
  unfolding write_grid
  wrote =
      let t = bits_within in
      rw (w, room_back (length m.bytes) m.position (length (grid_bits g)) (record { within = t; holds = omega (arith, r.size) }))

  -- and there is room after it
  pub more_room : (first last : ℕ) → first ≤ 19 → last ≤ 19 → InRoom (more m first last g)
  more_room first last a b = record {
    count = omega arith;
    slots = r.slots;
    position = omega (arith, length_grid g w, r.position);
    begin = either_low (eqb m.count 0) first m.begin a r.begin;
    next = omega (arith, b);
    size = length-put_bits m.bytes m.position (grid_bits g) ∙ r.size;
    clear = λ i k.
        (put_leaves m.bytes m.position (grid_bits g) (some_bits g) bits_within).past i (omega (arith, some_bits g)) ∙ r.clear i (omega arith);
  }

-- what the program holds then is that
pub more_is : (f s : Inside) (first last : ℕ) (g : Grid) (b n q : ℕ) (l : List ℕ)
    → s ≡ record { num_time_slots = f.num_time_slots; count = f.count; begin = b; next = f.next; bytes = l; position = q }
    → b ≡ cond (eqb f.count 0) first f.begin → n ≡ last - s.num_time_slots → q ≡ f.position + length (grid_bits g)
    → l ≡ put_bits f.bytes f.position (grid_bits g)
    → making_of (record { num_time_slots = s.num_time_slots; count = s.count + 1; begin = s.begin; next = n; bytes = s.bytes; position = s.position })
    ≡ more (making_of f) first last g
more_is f s first last g b n q l z c d e h = rw (d, z, c, e, h)

-- a frame that meets the one before it is added where there is a place left for it
pub adds : (m : Making) (first last : ℕ) (g : Grid) → (eqb m.count 0 || eqb first m.next) ≡ true → m.count < 255
    → add_frame m (pos first) (pos last) g ≡ Ok (more m first last g)
adds m first last g e h = rw (e, lt-ltb m.count 255 h)

-- a slot count leaves room
pub slots_room : (m : Making) (n : ℕ) → InRoom m → is_slot_count n ≡ true
    → InRoom (record { slots = n; count = m.count; begin = m.begin; next = m.next; position = m.position; bytes = m.bytes })
slots_room m n r e = record {
  count = r.count;
  slots = slots_few n e;
  position = r.position;
  begin = r.begin;
  next = r.next;
  size = r.size;
  clear = r.clear;
}
