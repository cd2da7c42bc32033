-- Frames that lines name, one behind the other, and what bytes that hold their bits are read as.
use Rattle.std.specs.Prelude.{Ok}
use mathlib.Core.Path.{◌≡◌, sym, ap, ◌∙◌}
use mathlib.Core.Bool.{Bool}
use mathlib.Core.List.{List, [], ◌∷◌, ◌++◌, map, append_assoc}
use Prim.Native.Nat.{ℕ, ◌+◌, ◌-◌, ◌*◌, ◌≤◌}
use native.Mathlib.Omega.{arith}
use lib.IntN.{ℤ, pos, nat_abs}
use lib.ListN.{length, get_or, length-append, length-map, get_or-map}
use Rattle.bits.specs.Room.{Holds}
use Rattle.bits.proofs.Held.{holds_past}
use Rattle.sbr_grid.specs.Refusals.{value_or}
use Rattle.sbr_grid.specs.Grid.{Grid, num_env_of}
use Rattle.sbr_grid.specs.Times.{Times}
use Rattle.sbr_time_grid.specs.TimeGrid.{time_grid}
use Rattle.sbr_time_grid.proofs.Ends.{time_ends}
use Rattle.sbr_writer.specs.Syntax.{grid_bits}
use Rattle.sbr_writer.proofs.Writable.{length_grid}
use Rattle.sbr_reader.specs.Read.{read_grid, carrying}
use Rattle.sbr_reader.proofs.ReadLaws.{frame_of, record_read}
use Rattle.sbr_named.specs.Shapes.{named_grid}
use Rattle.sbr_named.proofs.Chosen.{named_is_first}
use Rattle.sbr_text.specs.Parts.{LineParts}
use Rattle.sbr_make.specs.Back.{ReadLines}

-- the grid that is chosen for a line, whose frame begins at b
pub record Link (n b : ℕ) (s : LineParts) : Type 0 where
  pub grid : Grid
  pub chosen : named_grid n s.borders s.flags s.mark ≡ Ok grid
  pub begins : get_or s.borders 0 (pos 0) ≡ pos b

-- where the frame behind that of a line begins
abbrev pub next_start : ℕ → LineParts → ℕ
next_start n s = nat_abs (get_or s.borders (length s.borders - 1) (pos 0)) - n

-- lines of which each frame begins where the one before it says
abbrev pub Links : ℕ → ℕ → List LineParts → Type 0
Links n b [] = Unit {0}
Links n b (s ∷ ss) = Link n b s × Links n (next_start n s) ss

-- the bits of the frames that lines name
unfoldable pub line_bits : ℕ → List LineParts → List Bool
line_bits n [] = []
line_bits n (s ∷ ss) = value_or grid_bits [] (named_grid n s.borders s.flags s.mark) ++ line_bits n ss

-- those of the first are its grid's
pub first_bits : (n : ℕ) (s : LineParts) (ss : List LineParts) (g : Grid) → named_grid n s.borders s.flags s.mark ≡ Ok g
    → line_bits n (s ∷ ss) ≡ grid_bits g ++ line_bits n ss
unfolding line_bits
first_bits n s ss g e = rw e

-- a frame takes at most 26 bits
pub bits_few : (n b : ℕ) (ss : List LineParts) → Links n b ss → length (line_bits n ss) ≤ 26 * length ss
unfolding line_bits
bits_few n b [] x = omega arith
bits_few n b (s ∷ ss) x =
    let f = named_is_first n s.borders s.flags s.mark x.0.grid x.0.chosen in
    rw x.0.chosen (
    omega (arith, length-append (grid_bits x.0.grid) (line_bits n ss), length_grid x.0.grid f.has.fits, bits_few n (next_start n s) ss x.1))

-- ---- their borders

-- a border among those that a line names
pub named_border : (t : List ℕ) (bs : List ℤ) (i : ℕ) → map pos t ≡ bs → get_or bs i (pos 0) ≡ pos (get_or t i 0)
named_border t bs i e = rw (← e) (get_or-map pos t i 0)

-- where the next frame begins, by the last border
pub next_is : (n : ℕ) (g : Grid) (t : Times) (s : LineParts) → time_grid n g ≡ Ok t → map pos t.t_e ≡ s.borders
    → get_or t.t_e (num_env_of g) 0 ≡ next_start n s + n
next_is n g t s e b =
    let z = time_ends n g t e in
    let k : length s.borders - 1 ≡ num_env_of g = rw (← b, length-map) (omega arith) in
    rw (k, named_border t.t_e s.borders (num_env_of g) b) (omega arith)

-- ---- how they are read

-- what stands at the first line's bits is read as its frame
pub record Read (n b : ℕ) (s : LineParts) (ss : List LineParts) (g : Grid) (l : List ℕ) (p : ℕ) (a : Bool) : Type 0 where
  pub time : Times
  pub derived : time_grid n g ≡ Ok time
  pub borders : map pos time.t_e ≡ s.borders
  pub flags : g.freq_res ≡ s.flags
  pub mark : time.l_a ≡ s.mark
  pub read : read_grid l p n (carrying (b + n) a) ≡ Ok (frame_of a g (p + length (grid_bits g)) time)
  pub border : get_or time.t_e (num_env_of g) 0 ≡ next_start n s + n
  pub rest : Holds l (p + length (grid_bits g)) (line_bits n ss)

-- the frame of the first line is read
pub front : (n b : ℕ) (s : LineParts) (ss : List LineParts) (x : Link n b s) (l : List ℕ) (p : ℕ) (a : Bool) → Holds l p (line_bits n (s ∷ ss))
    → Read n b s ss x.grid l p a
front n b s ss x l p a h =
    let g = x.grid in
    let f = named_is_first n s.borders s.flags s.mark g x.chosen in
    let t = f.has.time in
    let bits = rw (first_bits n s ss g x.chosen) at h in
    let z = named_border t.t_e s.borders 0 f.has.same_borders in
    let m : b ≡ get_or t.t_e 0 0 = ap nat_abs (sym x.begins ∙ z) in
    record {
      time = t;
      derived = f.has.derived;
      borders = f.has.same_borders;
      flags = f.has.same_flags;
      mark = f.has.same_mark;
      read = record_read l p n (carrying (b + n) a) g t _ (bits.1 ∙ append_assoc (grid_bits g) (line_bits n ss) bits.0) (f.read _) f.has.derived (ap (λ k. pos (k + n)) m);
      border = next_is n g t s f.has.derived f.has.same_borders;
      rest = holds_past l p (grid_bits g) (line_bits n ss) bits;
    }

-- bytes that hold the bits of lines are read as these lines
pub read_lines : (n b : ℕ) (ss : List LineParts) (l : List ℕ) (p : ℕ) (a : Bool) → Links n b ss → Holds l p (line_bits n ss)
    → ReadLines n l p (carrying (b + n) a) ss
read_lines n b [] l p a x h = tt
read_lines n b (s ∷ ss) l p a x h =
    let g = x.0.grid in
    let d = front n b s ss x.0 l p a h in (
      record {
        frame = frame_of a g (p + length (grid_bits g)) d.time;
        read = d.read;
        borders = d.borders;
        flags = d.flags;
        mark = d.mark;
        chosen = x.0.chosen;
      },
      rw d.border (read_lines n (next_start n s) ss l (p + length (grid_bits g)) _ x.1 d.rest),
    )
