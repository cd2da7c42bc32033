-- What is known past each test of `read_grid`.
use Rattle.std.specs.Prelude.{Ok}
use mathlib.Core.Path.{◌≡◌, sym, ap, ◌∙◌}
use mathlib.Core.Bool.{Bool, true}
use mathlib.Core.List.{List}
use Prim.Native.Nat.{ℕ, ◌+◌, ◌-◌, ◌≤◌, ◌<◌}
use native.Mathlib.Omega.{arith}
use lib.ListN.{length, get_or}
use Rattle.bits.specs.Room.{window_of}
use Rattle.bits.specs.declared.Window.{Window}
use Rattle.bits.proofs.Numbers.{length-bits_of}
use Rattle.sbr_grid.specs.declared.TimeGrid.{TimeGrid}
use Rattle.sbr_grid.specs.Refusals.{Outcome, result_map}
use Rattle.sbr_grid.specs.declared.SbrGrid.{SbrGrid}
use Rattle.sbr_grid.specs.Grid.{Grid, view_of, record_of}
use Rattle.sbr_grid.specs.Times.{Times, is_slot_count, time_record}
use Rattle.sbr_grid.proofs.Outcomes.{map_answered}
use Rattle.sbr_grid.proofs.First.{first-get_or}
use Rattle.sbr_grid.proofs.Slots.{slots_few}
use Rattle.sbr_time_grid.specs.TimeGrid.{time_grid}
use Rattle.sbr_time_grid.proofs.Ends.{Ends, time_ends}
use Rattle.sbr_parse.specs.Parse.{parsed, window_bits}
use Rattle.sbr_parse.specs.Syntax.{sbr_grid}
use Rattle.sbr_parse.specs.declared.Parsed.{Parsed}
use Rattle.sbr_reader.specs.Read
use Rattle.sbr_reader.specs.Read.{Accepted, read_grid, carrying, frame_read}
use Rattle.sbr_reader.specs.declared.FrameRead.{FrameRead}
use Rattle.sbr_reader.specs.declared.Carried.{Carried}
use Rattle.sbr_reader.proofs.ReadLaws.{read-record, read_view, read_left, Leaving, leaving}

-- what is handed out for an accepted frame
pub handed_out : (f : Accepted) (g : SbrGrid) (t : TimeGrid) (a : Bool) (q : ℕ) (z : Carried)
    → g ≡ record_of f.grid → t ≡ time_record f.time → a ≡ f.begins_on_attack → q ≡ f.position → z ≡ carrying f.border f.ends_on_attack
    → ◌≡◌ {A = Outcome FrameRead} (Ok (record { grid = g; time = t; begins_on_attack = a; position = q; carried = z })) (Ok (frame_read f))
handed_out f g t a q z d e h k l = rw (d, e, h, k, l)

-- ---- the tests

module _ (l : List ℕ) (q n : ℕ) (w : Window) (p : Parsed) where
  -- past the tests of the slot count and of the bits: the record that was read, and the bits that are left
  pub record Got : Type 0 where
    pub grid : Grid
    pub rest : List Bool
    -- past the first test the slot count is one of the two
    pub slots : is_slot_count n ≡ true
    pub seen : w ≡ window_of l q
    pub syntax : sbr_grid (window_bits (window_of l q)) ≡ Ok (grid, rest)
    -- what was parsed
    pub record_is : p ≡ parsed (grid, rest)

  pub got : is_slot_count n ≡ true → w ≡ window_of l q → Ok p ≡ result_map parsed (sbr_grid (window_bits w)) → Got
  got s e h =
      let x = map_answered parsed (sbr_grid (window_bits w)) p h in
      record { grid = x.0.0; rest = x.0.1; slots = s; seen = e; syntax = ap (λ v. sbr_grid (window_bits v)) (sym e) ∙ x.1.0; record_is = x.1.1 }

  -- what was parsed has that record
  pub viewed : (x : Got) → view_of p.grid ≡ x.grid
  viewed x = ap (λ (y : Parsed). view_of y.grid) x.record_is ∙ read_view _ _ _ x.syntax

  -- reading comes to what is made of the time grid
  pub record_read : (c : Carried) (x : Got) → read_grid l q n c ≡ Read.timed n c x.grid (q + ((window_of l q).width - length x.rest)) (time_grid n x.grid)
  record_read c x = read-record l q n c x.slots x.grid x.rest x.syntax

  -- past the test of the time grid too: the time grid, its bounds and what it leaves, and the number of bits that are left
  pub record Timed (d : TimeGrid) : Type 0 where
    pub got : Got
    pub times : Times
    pub is : time_grid n got.grid ≡ Ok times
    -- the time grid that was derived, whole
    pub time : d ≡ time_record times
    -- a slot count is at most 16
    pub few : n ≤ 16
    -- the first and the last border are within bounds
    pub ends : Ends n got.grid times
    -- a border that was derived
    pub border : (i : ℕ) → i < 6 → get_or d.t_e i 0 ≡ get_or times.t_e i 0
    -- what it leaves
    pub leaves : Leaving got.grid times
    -- the width that was seen is the window's
    pub wide : w.width ≡ (window_of l q).width
    -- the number of bits that are left is at most that width
    pub rest : p.left ≡ length got.rest
    pub left : p.left ≤ w.width

  pub timed : (x : Got) (d : TimeGrid) → Ok d ≡ result_map time_record (time_grid n (view_of p.grid)) → Timed d
  timed x d h =
      let t = map_answered time_record (time_grid n (view_of p.grid)) d h in
      let is : time_grid n x.grid ≡ Ok t.0 = ap (time_grid n) (sym (viewed x)) ∙ t.1.0 in
      let wide : w.width ≡ (window_of l q).width = ap (λ (y : Window). y.width) x.seen in
      let rest : p.left ≡ length x.rest = ap (λ (y : Parsed). y.left) x.record_is in
      let v = window_of l q in
      record {
        got = x;
        times = t.0;
        is = is;
        time = t.1.1;
        few = slots_few n x.slots;
        ends = time_ends n x.grid t.0 is;
        border = λ i b. ap (λ (y : TimeGrid). get_or y.t_e i 0) t.1.1 ∙ first-get_or 0 6 i t.0.t_e b;
        leaves = leaving n x.grid t.0 is;
        wide = wide;
        rest = rest;
        left = omega (arith, rest, wide, length-bits_of v.width v.value, read_left _ _ _ x.syntax);
      }
