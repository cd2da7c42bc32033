-- A line that is printed is read as what it shows: the statement, proved in proofs/Printed.antt.
use Rattle.std.specs.Prelude.{◌≡◌, Bool, List, [], ◌∷◌, ◌++◌, map, ℕ, ◌≤◌, ◌<◌, ℤ, pos, nat_abs, length, get_or}
use Rattle.sbr_reader.specs.Read.{Accepted}
use Rattle.sbr_list.specs.Listing.{signed, spaced, resolution, stroke, frame_line}
use Rattle.sbr_list.specs.Line.{Short}
use Rattle.sbr_text.specs.declared.Kind.TheVariants.{Frame}
use Rattle.sbr_text.specs.Parts.{LineParts, read_line, kind_of}

-- the short line of a frame: borders / mark / resolutions
abbrev pub named_line : List ℕ → ℤ → List Bool → List ℕ
named_line bs mark res = spaced bs ++ (stroke ++ (signed mark ++ (stroke ++ map resolution res)))

-- a line names these borders, resolutions and mark
pub record Names (s : LineParts) (bs : List ℕ) (res : List Bool) (mark : ℤ) : Type 0 where
  pub kind : kind_of s ≡ Frame
  pub borders : s.borders ≡ map pos bs
  pub flags : s.flags ≡ res
  pub marked : s.mark ≡ mark

-- numbers of at most three digits, as many as a line holds
pub record Legible (bs : List ℕ) (res : List Bool) (mark : ℤ) : Type 0 where
  pub borders : length bs ≤ 7
  pub small : (i : ℕ) → get_or bs i 0 < 1000
  pub flags : length res ≤ 6
  pub marked : nat_abs mark < 1000

-- the short line, and the line l that `gridlist` prints of frame number i, before its line feed
pub record LineReads : Type 0 where
  pub short : (bs : List ℕ) (res : List Bool) (mark : ℤ) → Legible bs res mark → Names (read_line (named_line bs mark res)) bs res mark
  pub long : (i : ℕ) (f : Accepted) (l : List ℕ) → Short i f → frame_line i f ≡ l ++ (10 ∷ [])
      → Names (read_line l) f.time.t_e f.grid.freq_res f.time.l_a
