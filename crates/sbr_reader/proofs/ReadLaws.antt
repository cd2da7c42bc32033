-- What reading a frame comes to, way by way as the program goes.
use Rattle.std.specs.Prelude.{Ok, Err}
use mathlib.Core.Path.{◌≡◌, refl, sym, ap, ◌∙◌}
use mathlib.Core.Bool.{Bool, true, false}
use mathlib.Core.List.{List, [], ◌++◌, append-nil}
use Prim.Native.Nat.{ℕ, ◌+◌, ◌-◌, ◌≤◌, min}
use native.Mathlib.Nat.{sub_self}
use native.Mathlib.Decide.{dec_le}
use native.Mathlib.Omega.{arith}
use lib.IntN.{pos}
use lib.ListN.{length, get_or, length-append}
use Rattle.bits.specs.Bits.{bits_at}
use Rattle.bits.specs.Room.{end_of, bits_from, window_of}
use Rattle.bits.proofs.Numbers.{bits_num}
use Rattle.bits.proofs.Stream.{bits_at-add, length-bits_at}
use Rattle.sbr_grid.specs.declared.Refusal.{Refusal}
use Rattle.sbr_grid.specs.declared.Refusal.TheVariants.{SlotCount, Chain}
use Rattle.sbr_grid.specs.Refusals.{Outcome}
use Rattle.sbr_grid.specs.Grid.{Grid, num_env_of, view_of, record_of}
use Rattle.sbr_grid.proofs.First.{first-get_or}
use Rattle.sbr_grid.proofs.Laws.{view_record}
use Rattle.sbr_grid.proofs.Number.{number_so}
use Rattle.sbr_grid.proofs.Slots.{slots_few}
use Rattle.sbr_grid.specs.Times.{Times, is_number, is_slot_count, time_record}
use Rattle.sbr_time_grid.specs.TimeGrid.{time_grid}
use Rattle.sbr_time_grid.proofs.Ends.{time_ends, time_passes}
use Rattle.sbr_writer.specs.Syntax.{grid_bits}
use Rattle.sbr_parse.specs.Syntax.{sbr_grid}
use Rattle.sbr_parse.specs.Parse.{window_bits}
use Rattle.sbr_reader.specs.Read.{Accepted, marks_end, meets, timed, parsed, read_grid, carrying, left_by}
use Rattle.sbr_reader.specs.declared.Carried.{Carried}
use Rattle.sbr_parse.proofs.Inverse.{sent}
use Rattle.sbr_parse.proofs.Window.{behind, prefix_reads}

-- no bits behind what is left
behind_none : {A : Type 0} (o : Outcome (A × List Bool)) → behind [] o ≡ o
behind_none (Ok x) = rw (append-nil x.1)
behind_none (Err e) = refl

-- ---- the window

module _ (l : List ℕ) (p : ℕ) where
  -- its bits are the first of those from p on
  pub window-held : window_bits (window_of l p) ≡ bits_at l p (window_of l p).width
  window-held = let n = min 32 (end_of (length l) - p) in rw (length-bits_at l p n) at (bits_num (bits_at l p n))

  -- reading e bits is reading the first of them, at most 32, with the others behind what is left
  first_reads : (e : ℕ) → let n = min 32 e in sbr_grid (bits_at l p e) ≡ behind (bits_at l (p + n) (e - n)) (sbr_grid (bits_at l p n))
  unfolding bits_at
  first_reads e = go (dec_le e 32)
    where
      go : Dec (e ≤ 32) → sbr_grid (bits_at l p e) ≡ behind (bits_at l (p + min 32 e) (e - min 32 e)) (sbr_grid (bits_at l p (min 32 e)))
      go (yes h) = let q : min 32 e ≡ e = omega arith in rw (q, sub_self) (sym (behind_none (sbr_grid (bits_at l p e))))
      go (no h) =
          let n = min 32 e in
          let q : n + (e - n) ≡ e = omega arith in
          ap sbr_grid (rw q at (bits_at-add l p n (e - n))) ∙ prefix_reads (bits_at l p n) (bits_at l (p + n) (e - n)) (omega (arith, length-bits_at l p n))

  -- so is reading all the bits from p on
  pub window-reads : let n = (window_of l p).width in sbr_grid (bits_from l p) ≡ behind (bits_at l (p + n) (end_of (length l) - p - n)) (sbr_grid (window_bits (window_of l p)))
  window-reads = rw window-held (first_reads (end_of (length l) - p))

  -- ---- the ways out

  module _ (n : ℕ) (c : Carried) where
    -- 1: the slot count
    pub read-slots : is_slot_count n ≡ false → read_grid l p n c ≡ Err SlotCount
    unfolding read_grid
    read-slots h = rw h

    -- 7 and 8: the bits
    pub read-bits : is_slot_count n ≡ true → (e : Refusal) → sbr_grid (window_bits (window_of l p)) ≡ Err e → read_grid l p n c ≡ Err e
    unfolding read_grid
    read-bits h e k = rw (h, window-reads, k)

    -- a record was read: what is left is the time grid
    pub read-record : is_slot_count n ≡ true → (g : Grid) (r : List Bool) → sbr_grid (window_bits (window_of l p)) ≡ Ok (g, r)
        → read_grid l p n c ≡ timed n c g (p + ((window_of l p).width - length r)) (time_grid n g)
    unfolding read_grid
    read-record h g r k =
        let e = end_of (length l) - p in
        let w = min 32 e in
        let ys = bits_at l (p + w) (e - w) in
        let q : length (bits_from l p) - length (r ++ ys) ≡ w - length r =
        omega (arith, length-bits_at l p e, length-append r ys, length-bits_at l (p + w) (e - w)) in
        rw (h, window-reads, k) (rw q)

-- 9: a frame that does not begin at the carried border
pub meets_not : (n : ℕ) (c : Carried) (g : Grid) (q : ℕ) (t : Times) → is_number c.border (get_or t.t_e 0 0 + n) ≡ false → meets n c g q t ≡ Err Chain
unfolding meets
meets_not n c g q t h = rw h

-- the frame of a record, a position after it and a time grid, from a flag
abbrev pub frame_of : Bool → Grid → ℕ → Times → Accepted
frame_of a g q t = record {
  grid = g;
  time = t;
  begins_on_attack = a;
  position = q;
  border = get_or t.t_e (num_env_of g) 0;
  ends_on_attack = marks_end g t;
}

-- a frame that does
pub meets_so : (n : ℕ) (c : Carried) (g : Grid) (q : ℕ) (t : Times) → is_number c.border (get_or t.t_e 0 0 + n) ≡ true
    → meets n c g q t ≡ Ok (frame_of c.attack g q t)
unfolding meets
meets_so n c g q t h = rw h

-- a record whose bits stand at a position, and whose time grid begins at the carried border, is read there
pub record_read : (l : List ℕ) (p n : ℕ) (c : Carried) (g : Grid) (t : Times) (rest : List Bool) → bits_from l p ≡ grid_bits g ++ rest
    → sbr_grid (grid_bits g ++ rest) ≡ Ok (g, rest) → time_grid n g ≡ Ok t → c.border ≡ pos (get_or t.t_e 0 0 + n)
    → read_grid l p n c ≡ Ok (frame_of c.attack g (p + length (grid_bits g)) t)
unfolding read_grid
record_read l p n c g t rest e r d m =
    let k : length (bits_from l p) - length rest ≡ length (grid_bits g) = omega (arith, ap length e, length-append (grid_bits g) rest) in
    rw (time_passes n g t d).slots (
    ap (parsed n c p (length (bits_from l p))) (ap sbr_grid e ∙ r) ∙ ap (timed n c g (p + (length (bits_from l p) - length rest))) d
    ∙ rw k (meets_so n c g (p + length (grid_bits g)) t (number_so c.border (get_or t.t_e 0 0 + n) m)))

-- a record that was read is the view of the record that is handed out
pub read_view : (bs : List Bool) (g : Grid) (r : List Bool) → sbr_grid bs ≡ Ok (g, r) → view_of (record_of g) ≡ g
read_view bs g r h = let s = (sent bs g r h).2.held in view_record g s.0 s.1 s.2

-- what is left is no more than there was
pub read_left : (bs : List Bool) (g : Grid) (r : List Bool) → sbr_grid bs ≡ Ok (g, r) → length r ≤ length bs
read_left bs g r h = let s = sent bs g r h in omega (arith, ap length s.1, length-append s.0 r)

-- ---- what a frame leaves

-- the record of a time grid has what the frame leaves
pub record Leaving (g : Grid) (t : Times) : Type 0 where
  pub few : (time_record t).num_env ≤ 5
  pub small : get_or (time_record t).t_e (time_record t).num_env 0 ≤ 255
  pub is : left_by (time_record t) ≡ carrying (get_or t.t_e (num_env_of g) 0) (marks_end g t)

pub leaving : (n : ℕ) (g : Grid) (t : Times) → time_grid n g ≡ Ok t → Leaving g t
leaving n g t e =
    let m = time_ends n g t e in
    let s = slots_few n (time_passes n g t e).slots in
    let k : length t.t_e - 1 ≡ num_env_of g = omega arith in
    let b = first-get_or 0 6 (num_env_of g) t.t_e (omega arith) in
    record { few = omega arith; small = rw (k, b) (omega arith); is = rw (k, b) }
