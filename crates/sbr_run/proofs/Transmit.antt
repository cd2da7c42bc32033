-- A list of turns: what it leaves.
use Rattle.std.specs.Prelude.{Ok, Err}
use mathlib.Core.Path.{◌≡◌, refl, sym, ap, ◌∙◌, subst}
use mathlib.Core.Bool.{Bool, false}
use mathlib.Core.List.{List, [], ◌∷◌, map}
use Prim.Native.Nat.{ℕ, ◌+◌, ◌*◌, ◌^◌, ◌≤◌, ◌<◌}
use native.Mathlib.Nat.{add-zero}
use native.Mathlib.Omega.{arith}
use lib.IntN.{ℤ}
use lib.ListN.{length, replicate, length-append}
use Rattle.bits.specs.Bits.{put_bits}
use Rattle.bits.specs.Room.{end_of, bits_from, Holds}
use Rattle.bits.proofs.Held.{holds_read}
use Rattle.bits.proofs.Put.{put_append}
use Rattle.bits.proofs.After.{length-put_bits, put_leaves}
use Rattle.bits.proofs.Room.{room}
use Rattle.sbr_grid.specs.Refusals.{Outcome}
use Rattle.sbr_writer.specs.Syntax.{grid_bits}
use Rattle.sbr_writer.proofs.Puts.{puts, some_bits}
use Rattle.sbr_reader.specs.Read.{marks_end}
use Rattle.sbr_encoder.specs.Election.{Elected}
use Rattle.sbr_run.specs.Run.{Turn, Sent, Turned, turn, Terms, Choosing, State, last_border, moved, after, counted, sent, OwnTurn, Turns, Run, Frame, frames_from, stream, Chain}
use Rattle.sbr_run.specs.Term3.{Transmitted, SoundChoice}
use Rattle.sbr_run.proofs.OneFrame.{calls, Good, InReach, good_frame}

-- frames that a receiver can read, each from what the one before left; z has what the last one leaves
abbrev pub GoodChain : ℕ → ℕ → Bool → List Sent → State → Type 0
GoodChain n b a [] z = (z.border ≡ b) × (z.attack ≡ a)
GoodChain n b a (f ∷ fs) z = Good n b f × GoodChain n (last_border f.time) (marks_end f.grid f.time) fs z

pub chain_of : (n b : ℕ) (a : Bool) (fs : List Sent) (z : State) → GoodChain n b a fs z → Chain n b fs z.border
chain_of n b a [] z c = c.0
chain_of n b a (f ∷ fs) z c = (c.0.frame_meets, chain_of n (last_border f.time) (marks_end f.grid f.time) fs z c.1)

-- from a clear flag they leave it clear, and none begins on an attack
chain_clear : (n b : ℕ) (a : Bool) (fs : List Sent) (z : State) → GoodChain n b a fs z → a ≡ false → z.attack ≡ false
chain_clear n b a [] z c e = c.1 ∙ e
chain_clear n b a (f ∷ fs) z c e = chain_clear n (last_border f.time) (marks_end f.grid f.time) fs z c.1 c.0.clear

chain_begins : (r : Terms) (n b : ℕ) (a : Bool) (fs : List Sent) (z : State) → GoodChain n b a fs z → a ≡ false
    → map (λ (f : Frame). f.begins_on_attack) (frames_from r a fs) ≡ replicate (length fs) false
chain_begins r n b a [] z c e = refl
chain_begins r n b a (f ∷ fs) z c e =
    let rest = chain_begins r n (last_border f.time) (marks_end f.grid f.time) fs z c.1 c.0.clear in
    λ i. e i ∷ rest i

-- the frames' bits put at the first position, one after another
pub record Left (n : ℕ) (s z : State) (fs : List Sent) : Type 0 where
  pub chain : GoodChain n s.border s.attack fs z
  pub ends : z.position ≡ s.position + length (stream fs)
  pub bytes : z.bytes ≡ put_bits s.bytes s.position (stream fs)
  pub fits : 0 < length fs → (s.position + length (stream fs) ≤ 8 * length s.bytes) × (s.position + length (stream fs) < 2 ^ 64)

-- a state that leaves no frame
pub left_none : (n : ℕ) (s : State) → Left n s s []
unfolding put_bits
left_none n s = record { chain = (refl, refl); ends = sym (add-zero s.position); bytes = refl; fits = λ h. absurd (omega arith) }

-- where no frame is sent, nothing is moved
left_nothing : (n : ℕ) (s z : State) (fs : List Sent) → length fs ≡ 0 → Left n s z fs → z ≡ s
unfolding put_bits
left_nothing n s z (f ∷ fs) e w = absurd (omega arith)
left_nothing n s z [] e w =
    let position : z.position ≡ s.position = w.ends ∙ add-zero s.position in
    λ i. record { border = w.chain.0 i; attack = w.chain.1 i; position = position i; bytes = w.bytes i }

-- the room of all frames, from that of the first and that of the others
fit : (f : Sent) (fs : List Sent) (p len len' : ℕ) → (p + length (grid_bits f.grid) ≤ 8 * len) × (p + length (grid_bits f.grid) < 2 ^ 64) → len' ≡ len
    → (0 < length fs → (p + length (grid_bits f.grid) + length (stream fs) ≤ 8 * len') × (p + length (grid_bits f.grid) + length (stream fs) < 2 ^ 64))
    → (p + length (stream (f ∷ fs)) ≤ 8 * len) × (p + length (stream (f ∷ fs)) < 2 ^ 64)
fit f [] p len len' a e h = omega (arith, a, length-append (grid_bits f.grid) (stream []))
fit f (g ∷ fs) p len len' a e h = let k = h (omega arith) in omega (arith, k, e, length-append (grid_bits f.grid) (stream (g ∷ fs)))

-- one frame more in front
pub left_more : (n : ℕ) (s z : State) (f : Sent) (fs : List Sent) → Good n s.border f
    → (s.position + length (grid_bits f.grid) ≤ 8 * length s.bytes) × (s.position + length (grid_bits f.grid) < 2 ^ 64)
    → Left n (record {
      border = last_border f.time;
      attack = marks_end f.grid f.time;
      position = s.position + length (grid_bits f.grid);
      bytes = put_bits s.bytes s.position (grid_bits f.grid);
    }) z fs
    → Left n s z (f ∷ fs)
left_more n s z f fs g a w =
    let c = grid_bits f.grid in
    record {
      chain = (g, w.chain);
      ends = omega (arith, w.ends, length-append c (stream fs));
      bytes = w.bytes ∙ sym (put_append s.bytes s.position c (stream fs));
      fits = λ h. fit f fs s.position (length s.bytes) _ a (length-put_bits s.bytes s.position c) w.fits;
    }

-- one turn, by what it comes to
step : (By : Choosing) → SoundChoice By → (r : Terms) (s z : State) (t : Turn) (fs : List Sent) (o : Outcome Turned) → InReach r.slots s → turn t ≡ o → OwnTurn By r s t o → Left r.slots (moved s o) z fs
    → Left r.slots s z (counted o fs)
step By sound r s z t fs (Err e) i q own w = w
step By sound r s z t fs (Ok a) i q own w =
    let p = puts t.bytes t.position a.sent.grid a.wrote (calls t a q).writes in
    let k = room (length t.bytes) t.position (length (grid_bits a.sent.grid)) p.room in
    let c = grid_bits a.sent.grid in
    let bytes : a.wrote.bytes ≡ put_bits s.bytes s.position c = p.bytes ∙ λ j. put_bits (own.bytes j) (own.position j) c in
    let position : a.wrote.position ≡ s.position + length c = p.position ∙ ap (λ (x : ℕ). x + length c) own.position in
    left_more r.slots s z a.sent fs (good_frame By sound r s t a i own q)
    (omega (arith, k.within, k.holds, own.position, ap length own.bytes))
    (subst (λ (x : State). Left r.slots x z fs) (λ j. record { border = last_border a.sent.time; attack = marks_end a.sent.grid a.sent.time; position = position j; bytes = bytes j }) w)

-- what is carried stays within reach
reach : (By : Choosing) → SoundChoice By → (r : Terms) (s : State) (t : Turn) (o : Outcome Turned) → InReach r.slots s → turn t ≡ o → OwnTurn By r s t o → InReach r.slots (moved s o)
reach By sound r s t (Err e) i q own = i
reach By sound r s t (Ok a) i q own = let m = (good_frame By sound r s t a i own q).frame_meets in record { from = m.from; by = m.by }

pub transmit : (By : Choosing) → SoundChoice By → (r : Terms) (s : State) (ts : List Turn) → InReach r.slots s → Turns By r s ts → Left r.slots s (after s ts) (sent ts)
transmit By sound r s [] i h = left_none r.slots s
transmit By sound r s (t ∷ ts) i h =
    step By sound r s (after (moved s (turn t)) ts) t (sent ts) (turn t) i refl h.0
    (transmit By sound r (moved s (turn t)) ts (reach By sound r s t (turn t) i refl h.0) h.1)

-- ---- the bytes

-- bytes with bits put into them hold these
held : (l : List ℕ) (p : ℕ) (bs : List Bool) → 0 < length bs → p + length bs ≤ 8 * length l → p + length bs < 2 ^ 64 → Holds (put_bits l p bs) p bs
unfolding end_of
held l p bs some a b = holds_read (put_bits l p bs) p bs (omega (arith, length-put_bits l p bs)) (put_leaves l p bs some a).bits

-- frames have bits
stream_bits : (fs : List Sent) → 0 < length fs → 0 < length (stream fs)
stream_bits [] h = absurd (omega arith)
stream_bits (f ∷ fs) h = omega (arith, some_bits f.grid, length-append (grid_bits f.grid) (stream fs))

-- the run's own bytes hold its stream
holds_by : (n : ℕ) (s z : State) (fs : List Sent) → Left n s z fs → Holds z.bytes s.position (stream fs)
holds_by n s z [] w = (bits_from z.bytes s.position, refl)
holds_by n s z (f ∷ fs) w =
    let k = w.fits (omega arith) in
    subst (λ (m : List ℕ). Holds m s.position (stream (f ∷ fs))) (sym w.bytes) (held s.bytes s.position (stream (f ∷ fs)) (stream_bits (f ∷ fs) (omega arith)) k.0 k.1)

pub run_left : (By : Choosing) → SoundChoice By → (r : Terms) (s : State) (ts : List Turn) → Run By r s ts → Left r.slots s (after s ts) (sent ts)
run_left By sound r s ts u = transmit By sound r s ts (record { from = u.from; by = u.by }) u.turns

-- the chain of a run, from a clear flag
pub run_chain : (n : ℕ) (s z : State) (fs : List Sent) → s.attack ≡ false → Left n s z fs → GoodChain n s.border false fs z
run_chain n s z fs e w = subst (λ (a : Bool). GoodChain n s.border a fs z) e w.chain

pub written : (r : Terms) (s : State) (ts : List Turn) → s.attack ≡ false → Left r.slots s (after s ts) (sent ts) → Transmitted r s ts
written r s ts clear w =
    let str = stream (sent ts) in
    let c = run_chain r.slots s (after s ts) (sent ts) clear w in
    record {
      chain = chain_of r.slots s.border false (sent ts) (after s ts) c;
      none_begins = chain_begins r r.slots s.border false (sent ts) (after s ts) c refl;
      clear = chain_clear r.slots s.border false (sent ts) (after s ts) c refl;
      ends = w.ends;
      holds = holds_by r.slots s (after s ts) (sent ts) w;
      put = λ h. rw w.bytes (put_leaves s.bytes s.position str (stream_bits (sent ts) h) (w.fits h).0);
      nothing_sent = λ e. left_nothing r.slots s (after s ts) (sent ts) e w;
    }

-- ---- two calls

-- where one choosing call comes to nothing that another may not come to, its runs are runs by the other
module _ (By By' : Choosing) (within : (r : Terms) (previous : ℤ) (o : Outcome Elected) → By r previous o → By' r previous o) where
  own-within : (r : Terms) (s : State) (t : Turn) (o : Outcome Turned) → OwnTurn By r s t o → OwnTurn By' r s t o
  own-within r s t (Err e) h = tt
  own-within r s t (Ok a) h = record { chosen = within r _ _ h.chosen; time_slots = h.time_slots; bytes = h.bytes; position = h.position }

  turns-within : (r : Terms) (s : State) (ts : List Turn) → Turns By r s ts → Turns By' r s ts
  turns-within r s [] h = tt
  turns-within r s (t ∷ ts) h = (own-within r s t (turn t) h.0, turns-within r (moved s (turn t)) ts h.1)

  pub run-within : (r : Terms) (s : State) (ts : List Turn) → Run By r s ts → Run By' r s ts
  run-within r s ts u = record { from = u.from; by = u.by; clear = u.clear; turns = turns-within r s ts u.turns }
