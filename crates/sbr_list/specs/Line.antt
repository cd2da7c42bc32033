-- One line of the listing as the program holds it: at most 64 bytes.
use Rattle.std.specs.Prelude.{false, List, ◌++◌, ℕ, ◌+◌, ◌≤◌, ◌<◌, length, get_or, take}
use Rattle.std.specs.Int.Signed.{mag}
use Rattle.sbr_grid.specs.declared.SbrGrid.{SbrGrid}
use Rattle.sbr_grid.specs.Grid.{first, view_of}
use Rattle.sbr_grid.specs.declared.TimeGrid.{TimeGrid}
use Rattle.sbr_grid.specs.Times.{Times}
use Rattle.sbr_reader.specs.Read.{Accepted}
use Rattle.sbr_list.specs.Listing.{spaced, signed, stroke}

-- a text behind that of a line, as far as there is room
unfoldable pub with_text : List ℕ → List ℕ → List ℕ
with_text w text = take 64 (w ++ text)

-- numbers of at most two digits
abbrev pub Small : List ℕ → Type 0
Small l = (k : ℕ) → get_or l k 0 < 100

-- a time grid of few and small numbers
pub record ShortTimes (t : Times) : Type 0 where
  pub borders : length t.t_e ≤ 6
  pub small : Small t.t_e
  pub noise : length t.t_q ≤ 3
  pub small_noise : Small t.t_q
  pub mark : mag t.l_a < 100

-- a frame whose line has at most 64 bytes
pub record Short (i : ℕ) (f : Accepted) : Type 0 where
  pub number : i < 1000
  pub times : ShortTimes f.time
  pub flags : length f.grid.freq_res ≤ 5

-- borders / noise borders / mark
abbrev pub times_text : Times → List ℕ
times_text t = spaced t.t_e ++ (stroke ++ (spaced t.t_q ++ (stroke ++ signed t.l_a)))

-- the time grid of a record
abbrev pub times_of : TimeGrid → Times
times_of t = record {
  t_e = first 0 (t.num_env + 1) t.t_e;
  t_q = first 0 (t.num_noise + 1) t.t_q;
  l_a = t.l_a;
}

-- what a line shows of a frame, by its two records
abbrev pub shown_of : SbrGrid → TimeGrid → Accepted
shown_of g t = record { grid = view_of g; time = times_of t; begins_on_attack = false; position = 0; border = 0; ends_on_attack = false }
