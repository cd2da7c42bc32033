-- What a receiver reads of a stream that is made, and what `gridlist` prints of it: the statements, proved in proofs/Back.antt.
use Rattle.std.specs.Prelude.{◌≡◌, Bool, true, false, List, [], ◌∷◌, ◌++◌, map, ◌⊎◌, ℕ, zero, suc, ◌≤◌, pos, length, drop, get_or, Ok}
use Rattle.sbr_grid.specs.Grid.{Grid}
use Rattle.sbr_grid.specs.Times.{Times, is_slot_count}
use Rattle.sbr_time_grid.specs.TimeGrid.{time_grid}
use Rattle.std.specs.List.{list_all}
use Rattle.sbr_reader.specs.declared.Carried.{Carried}
use Rattle.sbr_reader.specs.Read.{Accepted, read_grid, carrying, starting}
use Rattle.sbr_named.specs.Shapes.{named_grid}
use Rattle.sbr_list.specs.Listing.{decimal, listing}
use Rattle.sbr_text.specs.declared.Kind.{Kind}
use Rattle.sbr_text.specs.declared.Kind.TheVariants.{Blank, Slots, Frame, Unreadable}
use Rattle.sbr_text.specs.Parts.{LineParts, read_line, kind_of}
use Rattle.sbr_make.specs.Making.{lines_of, most_frames, text_stream}

-- ---- a stream that is made is read as its lines

-- the lines that name a frame
abbrev pub if_frame : LineParts → Kind → List LineParts → List LineParts
if_frame s Blank ss = ss
if_frame s (Slots n) ss = ss
if_frame s Frame ss = s ∷ ss
if_frame s Unreadable ss = ss

unfoldable pub frame_lines : List (List ℕ) → List LineParts
frame_lines [] = []
frame_lines (l ∷ ls) = if_frame (read_line l) (kind_of (read_line l)) (frame_lines ls)

-- the slot count that lines say: that of the last one that says one, else n
abbrev pub slots_after : ℕ → Kind → ℕ
slots_after n Blank = n
slots_after n (Slots k) = k
slots_after n Frame = n
slots_after n Unreadable = n

unfoldable pub slots_said : ℕ → List (List ℕ) → ℕ
slots_said n [] = n
slots_said n (l ∷ ls) = slots_said (slots_after n (kind_of (read_line l))) ls

-- whether a line can be read
abbrev pub is_readable : Kind → Bool
is_readable Blank = true
is_readable (Slots n) = true
is_readable Frame = true
is_readable Unreadable = false

-- readings one after another, each from what the last one left, give the grids that are chosen for these lines, with their borders, resolutions and marks
pub record ReadLine (n : ℕ) (l : List ℕ) (p : ℕ) (c : Carried) (s : LineParts) : Type 0 where
  pub frame : Accepted
  pub read : read_grid l p n c ≡ Ok frame
  pub borders : map pos frame.time.t_e ≡ s.borders
  pub flags : frame.grid.freq_res ≡ s.flags
  pub mark : frame.time.l_a ≡ s.mark
  pub chosen : named_grid n s.borders s.flags s.mark ≡ Ok frame.grid

abbrev pub ReadLines : ℕ → List ℕ → ℕ → Carried → List LineParts → Type 0
ReadLines n l p c [] = Unit {0}
ReadLines n l p c (s ∷ ss) =
    (r : ReadLine n l p c s) × ReadLines n l r.frame.position (carrying r.frame.border r.frame.ends_on_attack) ss

-- a stream is made of lines that can all be read; it has the slot count that they say, 16 where none does, counts its frames, and is read as its lines
pub record IsRead (text s : List ℕ) : Type 0 where
  pub readable : list_all (λ l. is_readable (kind_of (read_line l))) (lines_of text) ≡ true
  pub slots : get_or s 0 0 ≡ slots_said 16 (lines_of text)
  pub slot_count : is_slot_count (get_or s 0 0) ≡ true
  pub count : get_or s 2 0 ≡ length (frame_lines (lines_of text))
  pub lines : ReadLines (get_or s 0 0) (drop 3 s) 0 (starting (pos (get_or s 1 0))) (frame_lines (lines_of text))

abbrev pub MadeIsRead : Type 0
MadeIsRead = (text s : List ℕ) → text_stream text ≡ Ok s → IsRead text s

-- ---- a list that `gridlist` prints is given back

-- of k frames from p on each has the class and the noise borders of the grid that is chosen for its borders, resolutions and mark; so has every frame for
-- which that grid was written
pub record OwnChoice (n : ℕ) (l : List ℕ) (p : ℕ) (c : Carried) : Type 0 where
  pub frame : Accepted
  pub read : read_grid l p n c ≡ Ok frame
  pub grid : Grid
  pub chosen : named_grid n (map pos frame.time.t_e) frame.grid.freq_res frame.time.l_a ≡ Ok grid
  pub class : grid.frame_class ≡ frame.grid.frame_class
  pub noise : (t : Times) → time_grid n grid ≡ Ok t → t.t_q ≡ frame.time.t_q

abbrev pub OwnChoices : ℕ → List ℕ → ℕ → ℕ → Carried → Type 0
OwnChoices n l zero p c = Unit {0}
OwnChoices n l (suc k) p c =
    (r : OwnChoice n l p c) × OwnChoices n l k r.frame.position (carrying r.frame.border r.frame.ends_on_attack)

-- the slot count in a line of its own, which a list of 16 slots may leave out
abbrev pub SaysSlots : ℕ → List ℕ → Type 0
SaysSlots n head = (head ≡ decimal n ++ (10 ∷ [])) ⊎ ((head ≡ []) × (n ≡ 16))

-- the list of such frames makes a stream whose list it is
pub record ListedAgain (text list : List ℕ) : Type 0 where
  pub bytes : List ℕ
  pub made : text_stream text ≡ Ok bytes
  pub listed : listing bytes ≡ list

abbrev pub GivenBack : Type 0
GivenBack =
    (n b k : ℕ) (l head : List ℕ) → is_slot_count n ≡ true → k ≤ most_frames → OwnChoices n l k 0 (starting (pos b)) → SaysSlots n head
    → ListedAgain (head ++ listing (n ∷ b ∷ k ∷ l)) (listing (n ∷ b ∷ k ∷ l))
