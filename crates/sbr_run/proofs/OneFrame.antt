-- One frame: what a turn that answers says, and that a receiver which stands at its bits reads it.
use Rattle.std.specs.Prelude.{Ok, Err}
use mathlib.Core.Path.{◌≡◌, refl, sym, ap, ◌∙◌, subst}
use mathlib.Core.Bool.{Bool, true, false}
use mathlib.Core.List.{List, ◌++◌}
use Prim.Native.Nat.{ℕ, zero, suc, ◌+◌, ◌≤◌}
use native.Mathlib.Omega.{arith}
use borrow.Author.Tests.{le-ltb}
use lib.IntN.{pos}
use lib.ListN.{length, get_or}
use Rattle.bits.specs.Room.{bits_from}
use Rattle.sbr_grid.specs.Refusals.{Outcome}
use Rattle.sbr_grid.specs.Grid.{Grid, num_env_of}
use Rattle.sbr_grid.specs.Times.{Times, is_slot_count}
use Rattle.sbr_time_grid.specs.TimeGrid.{time_grid}
use Rattle.sbr_time_grid.proofs.Ends.{time_ends, time_passes}
use Rattle.sbr_writer.specs.Syntax.{grid_bits}
use Rattle.sbr_writer.specs.Write.{Wrote, write_grid}
use Rattle.sbr_parse.specs.Syntax.{sbr_grid}
use Rattle.sbr_reader.specs.Read.{Accepted, marks_end, read_grid, carrying}
use Rattle.sbr_reader.proofs.ReadLaws.{record_read}
use Rattle.sbr_grid.proofs.Number.{number_not}
use Rattle.sbr_onsets.specs.Onsets.{lead_for}
use Rattle.sbr_encoder.specs.Election.{Elected}
use Rattle.sbr_encoder.specs.Electable.{Electable}
use Rattle.sbr_encoder.proofs.EveryElection.{not_at_end}
use Rattle.sbr_run.specs.Run.{Turn, Sent, Turned, next, turn, Terms, Choosing, State, HandsIn, last_border, Meets}
use Rattle.sbr_run.specs.Term3.{SoundChoice}

-- ---- a turn that answers

-- the call before the next one answered
pub next_answered : {A B : Type 0} (o : Outcome A) (f : A → Outcome B) (b : B) → next o f ≡ Ok b → (a : A) × (o ≡ Ok a) × (f a ≡ Ok b)
next_answered (Ok a) f b e = (a, refl, e)
next_answered (Err r) f b e = let z : ◌≡◌ {A = ℕ} 0 1 = cc in absurd (omega arith)

pub record Calls (t : Turn) (a : Turned) : Type 0 where
  pub elected : Elected
  pub chose : t.chosen ≡ Ok elected
  pub same : elected.grid ≡ a.sent.grid
  pub times : time_grid t.time_slots a.sent.grid ≡ Ok a.sent.time
  pub writes : write_grid t.bytes t.position a.sent.grid ≡ Ok a.wrote

last_call : (g : Grid) (tm : Times) (b : Bool) (w : Wrote) (a : Turned)
    → ◌≡◌ {A = Outcome Turned} (Ok (record { sent = record { grid = g; time = tm }; transient = b; wrote = w })) (Ok a)
    → ◌≡◌ {A = Turned} (record { sent = record { grid = g; time = tm }; transient = b; wrote = w }) a
last_call g tm b w a e = cc

-- the three calls of a turn that answers
pub calls : (t : Turn) (a : Turned) → turn t ≡ Ok a → Calls t a
unfolding turn
calls t a e =
    let p = next_answered {A = Elected} _ _ a e in
    let q = next_answered {A = Times} _ _ a p.2 in
    let r = next_answered {A = Wrote} _ _ a q.2 in
    let l = last_call p.0.grid q.0 p.0.transient r.0 a r.2 in
    let g : p.0.grid ≡ a.sent.grid = ap (λ (x : Turned). x.sent.grid) l in
    record {
      elected = p.0;
      chose = p.1;
      same = g;
      times = ap (time_grid t.time_slots) (sym g) ∙ q.1 ∙ ap (λ (x : Turned). Ok x.sent.time) l;
      writes = ap (write_grid t.bytes t.position) (sym g) ∙ r.1 ∙ ap (λ (x : Turned). Ok x.wrote) l;
    }

-- ---- a frame that a receiver can read

-- it meets the border b, its bits are read back as its record, and no attack is marked at its very end
pub record Good (n b : ℕ) (f : Sent) : Type 0 where
  pub slots : is_slot_count n ≡ true
  pub frame_meets : Meets n b f
  pub reads : (rest : List Bool) → sbr_grid (grid_bits f.grid ++ rest) ≡ Ok (f.grid, rest)
  pub last : get_or f.time.t_e (num_env_of f.grid) 0 ≡ last_border f.time
  pub clear : marks_end f.grid f.time ≡ false

-- what its reading gives, from a flag
abbrev pub got : Sent → Bool → ℕ → Accepted
got f a q = record {
  grid = f.grid;
  time = f.time;
  begins_on_attack = a;
  position = q + length (grid_bits f.grid);
  border = last_border f.time;
  ends_on_attack = marks_end f.grid f.time;
}

-- a receiver that stands at its bits, with the border that it meets and any flag, reads it
pub read_ok : (n b : ℕ) (a : Bool) (q : ℕ) (bytes : List ℕ) (f : Sent) (rest : List Bool) → Good n b f → bits_from bytes q ≡ grid_bits f.grid ++ rest
    → read_grid bytes q n (carrying b a) ≡ Ok (got f a q)
read_ok n b a q bytes f rest h e =
    let m = h.frame_meets in
    record_read bytes q n (carrying b a) f.grid f.time rest e (h.reads rest) m.derived (ap pos (sym m.begins)) ∙ rw h.last

-- ---- a chosen frame is one

-- what the run carries is within reach
pub record InReach (n : ℕ) (s : State) : Type 0 where
  pub from : n ≤ s.border
  pub by : s.border ≤ n + 3

-- the lead is the carried border less the slot count
lead_is : (n b : ℕ) → n ≤ b → b ≤ n + 3 → lead_for n (pos b) + n ≡ b
lead_is zero b l u = omega arith
lead_is (suc n) b l u = rw (le-ltb b (suc n) l) (omega arith)

-- a record that is sound from the lead gives one
good_by : (n : ℕ) (s : State) (f : Sent) → InReach n s → Electable n (lead_for n (pos s.border)) f.grid → time_grid n f.grid ≡ Ok f.time → Good n s.border f
good_by n s f i el tm =
    let sr = el.sound in
    let same : sr.time ≡ f.time = cc (sr.derived, tm) in
    let ends = time_ends n f.grid f.time tm in
    let last : get_or f.time.t_e (num_env_of f.grid) 0 ≡ last_border f.time = ap (λ (k : ℕ). get_or f.time.t_e k 0) (omega (arith, ends.count)) in
    record {
      slots = (time_passes n f.grid f.time tm).slots;
      frame_meets = record {
        derived = tm;
        begins = ap (λ (k : ℕ). k + n) (ap (λ (x : Times). get_or x.t_e 0 0) (sym same) ∙ sr.starts) ∙ lead_is n s.border i.from i.by;
        from = omega (arith, sr.ends_from, last, ap (λ (x : Times). get_or x.t_e (num_env_of f.grid) 0) same);
        by = omega (arith, sr.ends_by, last, ap (λ (x : Times). get_or x.t_e (num_env_of f.grid) 0) same);
      };
      reads = el.reads;
      last = last;
      clear = number_not f.time.l_a (num_env_of f.grid) (not_at_end n _ f.grid sr f.time tm);
    }

-- so a turn that answers and hands in the run's things sends such a frame
pub good_frame : (By : Choosing) → SoundChoice By → (r : Terms) (s : State) (t : Turn) (a : Turned) → InReach r.slots s → HandsIn By r s t → turn t ≡ Ok a → Good r.slots s.border a.sent
good_frame By sound r s t a i h e =
    let c = calls t a e in
    let z = pos s.border in
    good_by r.slots s a.sent i
    (subst (λ (g : Grid). Electable r.slots (lead_for r.slots z) g) c.same (sound r z c.elected (subst (By r z) c.chose h.chosen)))
    (subst (λ (k : ℕ). time_grid k a.sent.grid ≡ Ok a.sent.time) h.time_slots c.times)
