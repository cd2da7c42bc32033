-- A list of readings: what it gives and leaves, over bytes that hold the frames' bits.
use Rattle.std.specs.Prelude.{Ok, Err}
use mathlib.Core.Path.{◌≡◌, refl, sym, ap, ◌∙◌, subst}
use mathlib.Core.Bool.{Bool, false}
use mathlib.Core.List.{List, [], ◌∷◌, ◌++◌, map, append_assoc}
use Prim.Native.Nat.{ℕ, zero, suc, ◌+◌, ◌≤◌, ◌<◌}
use native.Mathlib.Omega.{arith}
use lib.ListN.{length, take, drop, length-append}
use Rattle.bits.specs.Room.{Holds}
use Rattle.bits.proofs.Held.{holds_past}
use Rattle.sbr_grid.specs.declared.Refusal.{Refusal}
use Rattle.sbr_grid.specs.Refusals.{Outcome}
use Rattle.sbr_writer.specs.Syntax.{grid_bits}
use Rattle.sbr_reader.specs.Read.{Accepted, marks_end, read_grid, carrying}
use Rattle.sbr_run.specs.Run.{Sent, Terms, State, Frame, frame_of, frames_from, stream}
use Rattle.sbr_run.specs.Readings.{Reading, reading, Receiver, tuned_at, heard, listened, noted, read, frame_heard, reading_in_terms, OwnReading, Readings}
use Rattle.sbr_run.specs.Term3.{ReadBack}
use Rattle.sbr_run.proofs.OneFrame.{Good, got, read_ok}
use Rattle.sbr_run.proofs.Transmit.{GoodChain}

-- the frame at the front is read
pub front : (n b : ℕ) (a : Bool) (q : ℕ) (bytes : List ℕ) (f : Sent) (fs : List Sent) → Good n b f → Holds bytes q (stream (f ∷ fs))
    → read_grid bytes q n (carrying b a) ≡ Ok (got f a q)
front n b a q bytes f fs g h = read_ok n b a q bytes f (stream fs ++ h.0) g (h.1 ∙ append_assoc (grid_bits f.grid) (stream fs) h.0)

-- ---- lists of readings

-- what readings leave of the frames fs that stand from the receiver's position on; z is what the transmitter is left with
pub record Heard (r : Terms) (bytes : List ℕ) (c : Receiver) (rs : List Reading) (fs : List Sent) (z : State) : Type 0 where
  pub frames : map (frame_heard r) (read rs) ≡ take (length (read rs)) (frames_from r c.attack fs)
  pub chain : GoodChain r.slots (listened c rs).border (listened c rs).attack (drop (length (read rs)) fs) z
  pub holds : Holds bytes (listened c rs).position (stream (drop (length (read rs)) fs))
  pub passed : (listened c rs).position + length (stream (drop (length (read rs)) fs)) ≡ c.position + length (stream fs)

abbrev Hears : Terms → List ℕ → List Reading → Type 0
Hears r bytes rs =
    (c : Receiver) (fs : List Sent) (z : State) → GoodChain r.slots c.border c.attack fs z → Holds bytes c.position (stream fs)
    → Readings r.slots bytes c rs → length (read rs) ≤ length fs → Heard r bytes c rs fs z

-- the same, by what the first reading comes to
record By (r : Terms) (bytes : List ℕ) (c : Receiver) (rs : List Reading) (fs : List Sent) (z : State) (o : Outcome Accepted) : Type 0 where
  frames : map (frame_heard r) (noted o (read rs)) ≡ take (length (noted o (read rs))) (frames_from r c.attack fs)
  chain : GoodChain r.slots (listened (heard c o) rs).border (listened (heard c o) rs).attack (drop (length (noted o (read rs))) fs) z
  holds : Holds bytes (listened (heard c o) rs).position (stream (drop (length (noted o (read rs))) fs))
  passed : (listened (heard c o) rs).position + length (stream (drop (length (noted o (read rs))) fs)) ≡ c.position + length (stream fs)

-- what the first reading gives, where it gives the frame f
abbrev front_read : Receiver → Sent → Outcome Accepted
front_read c f = Ok (got f c.attack c.position)

-- the first reading gives the first frame
gives : (r : Terms) (bytes : List ℕ) (rs : List Reading) → Hears r bytes rs → (c : Receiver) (f : Sent) (fs : List Sent) (z : State) → GoodChain r.slots c.border c.attack (f ∷ fs) z
    → Holds bytes c.position (stream (f ∷ fs)) → Readings r.slots bytes (heard c (front_read c f)) rs → length (read rs) ≤ length fs → By r bytes c rs (f ∷ fs) z (front_read c f)
gives r bytes rs ih c f fs z g h own l =
    let d = ih (heard c (front_read c f)) fs z g.1 (holds_past bytes c.position (grid_bits f.grid) (stream fs) h) own l in
    record {
      frames = ap {B = List Frame} (λ gs. frame_of r f.grid f.time c.attack ∷ gs) d.frames;
      chain = d.chain;
      holds = d.holds;
      passed = omega (arith, d.passed, length-append (grid_bits f.grid) (stream fs));
    }

more : (r : Terms) (bytes : List ℕ) (x : Reading) (rs : List Reading) → Hears r bytes rs → (c : Receiver) (fs : List Sent) (z : State) → GoodChain r.slots c.border c.attack fs z
    → Holds bytes c.position (stream fs) → (o : Outcome Accepted) → reading x ≡ o → OwnReading r.slots bytes c x o → Readings r.slots bytes (heard c o) rs → length (noted o (read rs)) ≤ length fs
    → By r bytes c rs fs z o
more r bytes x rs ih c fs z g h (Err e) q own rest l =
    let d = ih c fs z g h rest l in record { frames = d.frames; chain = d.chain; holds = d.holds; passed = d.passed }
more r bytes x rs ih c [] z g h (Ok a) q own rest l = absurd (omega arith)
more r bytes x rs ih c (f ∷ fs) z g h (Ok a) q own rest l =
    let is : got f c.attack c.position ≡ a = cc (sym (front r.slots c.border c.attack c.position bytes f fs g.0 h) ∙ ap reading (sym own) ∙ q) in
    subst (λ (y : Accepted). Readings r.slots bytes (heard c (Ok y)) rs → By r bytes c rs (f ∷ fs) z (Ok y)) is
    (λ own'. gives r bytes rs ih c f fs z g h own' (omega arith)) rest

pub hears : (r : Terms) (bytes : List ℕ) (rs : List Reading) → Hears r bytes rs
hears r bytes [] = λ c fs z g h own l. record { frames = refl; chain = g; holds = h; passed = refl }
hears r bytes (x ∷ rs) = λ c fs z g h own l.
    let d = more r bytes x rs (hears r bytes rs) c fs z g h (reading x) refl own.0 own.1 l in
    record { frames = d.frames; chain = d.chain; holds = d.holds; passed = d.passed }

-- ---- what a receiver may rely on

-- as many frames as records
pub length-frames : (r : Terms) (a : Bool) (fs : List Sent) → length (frames_from r a fs) ≡ length fs
length-frames r a [] = refl
length-frames r a (f ∷ fs) = ap suc (length-frames r (marks_end f.grid f.time) fs)

-- no frame is left where as many were read
none_left : (fs : List Sent) (k : ℕ) → k ≡ length fs → drop k fs ≡ []
none_left [] zero e = refl
none_left [] (suc k) e = refl
none_left (f ∷ fs) zero e = absurd (omega arith)
none_left (f ∷ fs) (suc k) e = none_left fs k (omega arith)

not_refused : (n : ℕ) (bytes : List ℕ) (c : Receiver) (fs : List Sent) (z : State) → 0 < length fs → GoodChain n c.border c.attack fs z → Holds bytes c.position (stream fs)
    → (x : Refusal) → reading (reading_in_terms n bytes c) ≡ Err x → ⊥
not_refused n bytes c [] z l g h x q = absurd (omega arith)
not_refused n bytes c (f ∷ fs) z l g h x q =
    let a = front n c.border c.attack c.position bytes f fs g.0 h in
    let y : ◌≡◌ {A = ℕ} 0 1 = cc in absurd (omega arith)

length-drop_less : (fs : List Sent) (k : ℕ) → k < length fs → 0 < length (drop k fs)
length-drop_less [] k h = absurd (omega arith)
length-drop_less (f ∷ fs) zero h = omega arith
length-drop_less (f ∷ fs) (suc k) h = length-drop_less fs k (omega arith)

pub read_back_by : (r : Terms) (fs : List Sent) (b : ℕ) (z : State) (bytes : List ℕ) (q : ℕ) (rs : List Reading) → GoodChain r.slots b false fs z → Holds bytes q (stream fs)
    → Readings r.slots bytes (tuned_at b q) rs → ReadBack r fs b z bytes q rs
read_back_by r fs b z bytes q rs g h own =
    let n = r.slots in
    let c = tuned_at b q in
    let d : length (read rs) ≤ length fs → Heard r bytes c rs fs z = hears r bytes rs c fs z g h own in
    let ended : length (read rs) ≡ length fs → GoodChain n (listened c rs).border (listened c rs).attack [] z = λ l.
    subst (λ (gs : List Sent). GoodChain n (listened c rs).border (listened c rs).attack gs z) (none_left fs (length (read rs)) l) (d (omega arith)).chain in
    record {
      in_order = λ l. (d l).frames;
      answers = λ l x.
          let w = d (omega arith) in
          not_refused n bytes (listened c rs) (drop (length (read rs)) fs) z (length-drop_less fs (length (read rs)) l) w.chain w.holds x;
      border = λ l. sym (ended l).0;
      attack = λ l. sym (ended l).1;
      position = λ l.
          let w = d (omega arith) in
          let e = ap (λ (gs : List Sent). length (stream gs)) (none_left fs (length (read rs)) l) in
          omega (arith, w.passed, e);
    }
