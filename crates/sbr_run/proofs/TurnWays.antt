-- The ways out of a turn, one law for each, and what the program hands out for a frame that is sent.
use Rattle.std.specs.Prelude.{Ok, Err}
use mathlib.Core.Path.{◌≡◌, ap, ◌∙◌}
use Prim.Native.Nat.{ℕ, ◌-◌, ◌≤◌}
use native.Mathlib.Omega.{arith}
use lib.ListN.{length, get_or}
use Rattle.sbr_grid.specs.declared.Refusal.{Refusal}
use Rattle.sbr_grid.specs.Refusals.{result_map}
use Rattle.sbr_grid.specs.Grid.{Grid, num_env_of, view_of, record_of}
use Rattle.sbr_grid.specs.declared.TimeGrid.{TimeGrid}
use Rattle.sbr_grid.specs.Times.{Times, time_record}
use Rattle.sbr_time_grid.specs.TimeGrid.{time_grid}
use Rattle.sbr_time_grid.proofs.Ends.{time_ends}
use Rattle.sbr_writer.specs.Write.{Wrote, write_grid}
use Rattle.sbr_reader.specs.Read.{marks_end, carrying, left_by}
use Rattle.sbr_reader.proofs.ReadLaws.{leaving}
use Rattle.sbr_encoder.specs.declared.Election.{Election}
use Rattle.sbr_encoder.specs.Election.{Elected, election}
use Rattle.sbr_grid.proofs.Outcomes.{map_answered}
use Rattle.sbr_run.specs.Run.{Turn, Turned, turn, last_border}

-- ---- the ways out

-- what a turn comes to, from what its calls answer
abbrev pub turned : Elected → Times → Wrote → Turned
turned e tm w = record { sent = record { grid = e.grid; time = tm }; transient = e.transient; wrote = w }

module _ (t : Turn) where
  -- the choosing call refuses
  pub choice-refuses : (w : Refusal) → t.chosen ≡ Err w → turn t ≡ Err w
  unfolding turn
  choice-refuses w a = rw a

  module _ (e : Elected) (a : t.chosen ≡ Ok e) where
    -- the record has no time grid
    pub time-refuses : (w : Refusal) → time_grid t.time_slots e.grid ≡ Err w → turn t ≡ Err w
    unfolding turn
    time-refuses w b = rw (a, b)

    module _ (tm : Times) (b : time_grid t.time_slots e.grid ≡ Ok tm) where
      -- the writer refuses it
      pub write-refuses : (w : Refusal) → write_grid t.bytes t.position e.grid ≡ Err w → turn t ≡ Err w
      unfolding turn
      write-refuses w d = rw (a, b, d)

      -- the frame is sent
      pub sends : (w : Wrote) → write_grid t.bytes t.position e.grid ≡ Ok w → turn t ≡ Ok (turned e tm w)
      unfolding turn
      sends w d = rw (a, b, d)

-- ---- what a time grid leaves

-- the record of a time grid has few envelopes, and its last border is carried
pub record Timed (g : Grid) (t : Times) (r : TimeGrid) : Type 0 where
  pub few : r.num_env ≤ 5
  pub small : get_or r.t_e r.num_env 0 ≤ 255
  pub left : left_by r ≡ carrying (last_border t) (marks_end g t)

pub timed : (n : ℕ) (g : Grid) (t : Times) (r : TimeGrid) → time_grid n g ≡ Ok t → r ≡ time_record t → Timed g t r
timed n g t r h w =
    let l = leaving n g t h in
    let k : num_env_of g ≡ length t.t_e - 1 = omega (arith, (time_ends n g t h).count) in
    record {
      few = rw w l.few;
      small = rw w l.small;
      left = ap left_by w ∙ l.is ∙ ap (λ (i : ℕ). carrying (get_or t.t_e i 0) (marks_end g t)) k;
    }

-- ---- what was elected

-- a record whose view is the chosen grid
pub record Chosen (t : Turn) (r : Election) : Type 0 where
  pub elected : Elected
  pub is : t.chosen ≡ Ok elected
  pub whole : r ≡ election elected
  pub view : view_of r.grid ≡ elected.grid

pub chosen : (t : Turn) (r : Election) → ((e : Elected) → t.chosen ≡ Ok e → view_of (record_of e.grid) ≡ e.grid) → Ok r ≡ result_map election t.chosen → Chosen t r
chosen t r kept h =
    let m = map_answered election t.chosen r h in
    record { elected = m.0; is = m.1.0; whole = m.1.1; view = ap (λ (x : Election). view_of x.grid) m.1.1 ∙ kept m.0 m.1.0 }
