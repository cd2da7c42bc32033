-- What lines that were all added have made: the frames that they name, of which the bytes hold the bits.
use Rattle.std.specs.Prelude.{Ok, Err}
use mathlib.Core.Path.{◌≡◌, refl, sym, ap, ◌∙◌, subst}
use mathlib.Core.Bool.{Bool, true, ◌||◌}
use mathlib.Core.List.{List, [], ◌∷◌}
use Prim.Native.Nat.{ℕ, suc, ◌+◌, ◌-◌, ◌/◌, ◌≤◌, ◌<◌}
use native.Mathlib.Nat.{zero-add, add-zero}
use native.Mathlib.Decide.{ℕ_discrete}
use native.Mathlib.Omega.{arith}
use borrow.Author.Tests.{eq-eqb, ne_eqb, eqb-true, ltb-true, lt-ltb}
use lib.Dec.{leb, eqb, ltb}
use lib.IntN.{pos, nat_abs}
use lib.ListN.{length, take, get_or, replicate, length-append, length-replicate, length-take}
use Rattle.bits.specs.Bits.{put_bits}
use Rattle.bits.specs.Room.{Holds}
use Rattle.bits.proofs.Put.{put_append}
use Rattle.bits.proofs.After.{length-put_bits}
use Rattle.sbr_grid.specs.Refusals.{Outcome}
use Rattle.sbr_grid.specs.Grid.{Grid}
use Rattle.sbr_grid.specs.Times.{is_slot_count, is_number}
use Rattle.sbr_grid.proofs.Number.{number_is, number_so}
use Rattle.sbr_grid.proofs.Outcomes.{unless_answered}
use Rattle.sbr_writer.specs.Syntax.{grid_bits}
use Rattle.std.specs.List.{list_all}
use Rattle.sbr_named.specs.Shapes.{named_grid}
use Rattle.sbr_named.proofs.Chosen.{named_is_first}
use Rattle.sbr_text.specs.declared.Kind.{Kind}
use Rattle.sbr_text.specs.declared.Kind.TheVariants.{Blank, Slots, Frame, Unreadable}
use Rattle.sbr_text.specs.Parts.{LineParts, read_line, kind_of}
use Rattle.sbr_make.specs.Making.{Making, most_bytes, no_frames, add_chosen, add_by_kind, add_line, TextOutcome, stream_of, or_stopped, most_text, made_from}
use Rattle.sbr_make.specs.Back.{if_frame, frame_lines, slots_after, slots_said, is_readable}
use Rattle.sbr_make.proofs.Rooms.{more}
use Rattle.sbr_make.proofs.Holds.{put_holds}
use Rattle.sbr_make.proofs.Links.{next_start, Links, line_bits, first_bits, bits_few, named_border}

-- ---- one line

-- with another slot count
abbrev pub with_slots : Making → ℕ → Making
with_slots m n = record { slots = n; count = m.count; begin = m.begin; next = m.next; position = m.position; bytes = m.bytes }

-- with a frame more, of this line and grid
abbrev pub added : Making → LineParts → Grid → Making
added m s g = more m (nat_abs (get_or s.borders 0 (pos 0))) (nat_abs (get_or s.borders (length s.borders - 1) (pos 0))) g

-- whether a line's frame begins where it has to; the first one may begin anywhere
abbrev chained : Making → LineParts → Bool
chained m s = eqb m.count 0 || is_number (get_or s.borders 0 (pos 0)) m.next

-- a line that added a frame
record Adds (m : Making) (s : LineParts) (a : Making) : Type 0 where
  grid : Grid
  chosen : named_grid m.slots s.borders s.flags s.mark ≡ Ok grid
  chain : chained m s ≡ true
  room : m.count < 255
  is : added m s grid ≡ a

-- what it added, by the choice
adds : (m a : Making) (s : LineParts) (o : Outcome Grid) → named_grid m.slots s.borders s.flags s.mark ≡ o
    → add_chosen m s.borders o ≡ Ok a → Adds m s a
adds m a s (Err e) c h = let z : ◌≡◌ {A = ℕ} 0 1 = cc in absurd (omega arith)
adds m a s (Ok g) c h =
    let x = unless_answered (chained m s) _ _ h in
    let y = unless_answered (ltb m.count 255) _ _ x.1 in
    record { grid = g; chosen = c; chain = x.0; room = ltb-true m.count 255 y.0; is = cc y.1 }

-- a line that names a frame for which g is chosen adds it
pub adds_frame : (m : Making) (s : LineParts) (g : Grid) → kind_of s ≡ Frame → named_grid m.slots s.borders s.flags s.mark ≡ Ok g
    → (0 < m.count → get_or s.borders 0 (pos 0) ≡ pos m.next) → m.count < 255 → add_line m s ≡ Ok (added m s g)
unfolding add_line
adds_frame m s g k c e h =
    let t : chained m s ≡ true = elim (ℕ_discrete m.count 0) [
      | yes q ↦ rw (eq-eqb m.count 0 q)
      | no q ↦ rw (ne_eqb m.count 0 q) (number_so _ m.next (e (omega arith)))
    ] in
    rw (k, c, t, lt-ltb m.count 255 h)

-- ---- all lines

-- what lines with the frames ss make of m: the stream s, by its slot count, where the first of ss begins and where the stream's first frame does. Once m
-- has a frame these are as m says; before, the last two are the same
record Makes (m : Making) (ss : List LineParts) (s : List ℕ) : Type 0 where
  slots : ℕ
  first : ℕ
  begin : ℕ
  links : Links slots first ss
  kept : 0 < m.count → (slots ≡ m.slots) × (first ≡ m.next) × (begin ≡ m.begin)
  fresh : m.count ≡ 0 → begin ≡ first
  few : m.count + length ss ≤ 255
  stream : let bs = line_bits slots ss in
      s ≡ slots ∷ (begin + slots) ∷ (m.count + length ss) ∷ take ((m.position + length bs + 7) / 8) (put_bits m.bytes m.position bs)

-- no line is left: the first border is any that fits
none_by : (m : Making) (b : ℕ) → (0 < m.count → b ≡ m.next) → (m.count ≡ 0 → m.begin ≡ b) → m.count ≤ 255 → Makes m [] (stream_of m)
unfolding line_bits put_bits
none_by m b e f h = record {
  slots = m.slots;
  first = b;
  begin = m.begin;
  links = tt;
  kept = λ k. (refl, e k, refl);
  fresh = f;
  few = omega arith;
  stream = simp add-zero;
}

-- and there is one
none_left : (m : Making) → m.count ≤ 255 → Makes m [] (stream_of m)
none_left m h = elim (ℕ_discrete m.count 0) [
  | yes e ↦ none_by m m.begin (λ k. absurd (omega arith)) (λ k. refl) h
  | no e ↦ none_by m m.next (λ k. refl) (λ k. absurd (e k)) h
]

-- a first line that says the slot count, before any frame
slots-first : (m : Making) (n : ℕ) (ss : List LineParts) (s : List ℕ) → m.count ≡ 0
    → Makes (with_slots m n) ss s → Makes m ss s
slots-first m n ss s e d = record {
  slots = d.slots;
  first = d.first;
  begin = d.begin;
  links = d.links;
  kept = λ k. absurd (omega arith);
  fresh = d.fresh;
  few = d.few;
  stream = d.stream;
}

-- a first line that names a frame
frame_first : (m : Making) (p : LineParts) (ss : List LineParts) (s : List ℕ) (g : Grid) → named_grid m.slots p.borders p.flags p.mark ≡ Ok g
    → chained m p ≡ true → Makes (added m p g) ss s → Makes m (p ∷ ss) s
frame_first m p ss s g c t d =
    let z = get_or p.borders 0 (pos 0) in
    let k = d.kept (omega arith) in
    let n = d.slots in
    let chosen : named_grid n p.borders p.flags p.mark ≡ Ok g = rw k.0 c in
    let has = (named_is_first n p.borders p.flags p.mark g chosen).has in
    let whole = named_border has.time.t_e p.borders 0 has.same_borders in
    let bits = first_bits n p ss g chosen in
    record {
      slots = n;
      first = nat_abs z;
      begin = d.begin;
      links = (
        record { grid = g; chosen = chosen; begins = whole ∙ ap (λ y. pos (nat_abs y)) (sym whole) },
        subst (λ b. Links n b ss) (k.1 ∙ ap (λ q. next_start q p) (sym k.0)) d.links,
      );
      kept = λ h.
          let e = ne_eqb m.count 0 (λ q. omega arith) in
          (k.0, ap nat_abs (number_is z m.next (rw e at t)), rw e at k.2);
      fresh = λ h. rw (eq-eqb m.count 0 h) at k.2;
      few = omega (arith, d.few);
      stream =
          let u : m.count + 1 + length ss ≡ m.count + suc (length ss) = omega arith in
          let v : m.position + length (grid_bits g) + length (line_bits n ss) ≡ m.position + (length (grid_bits g) + length (line_bits n ss)) = omega arith in
          d.stream ∙ rw (u, v, bits, put_append, length-append);
    }

-- a first line, by its kind
line_first : (m a : Making) (p : LineParts) (k : Kind) (ss : List LineParts) (s : List ℕ) → m.count ≤ 255 → add_by_kind m p k ≡ Ok a
    → (a.count ≤ 255 → Makes a ss s) → Makes m (if_frame p k ss) s
line_first m a p Blank ss s h e f = let z : m ≡ a = cc in subst (λ x. Makes x ss s) (sym z) (f (rw z at h))
line_first m a p (Slots n) ss s h e f =
    let x = unless_answered (eqb m.count 0) _ _ e in
    let y = unless_answered (is_slot_count n) _ _ x.1 in
    let z : with_slots m n ≡ a = cc y.1 in
    slots-first m n ss s (eqb-true m.count 0 x.0) (subst (λ y. y.count ≤ 255 → Makes y ss s) (sym z) f h)
line_first m a p Frame ss s h e f =
    let x = adds m a p (named_grid m.slots p.borders p.flags p.mark) refl e in
    frame_first m p ss s x.grid x.chosen x.chain (subst (λ y. y.count ≤ 255 → Makes y ss s) (sym x.is) f (omega (arith, x.room)))
line_first m a p Unreadable ss s h e f = let z : ◌≡◌ {A = ℕ} 0 1 = cc in absurd (omega arith)

-- the next law, by what the first line comes to
not_stopped : (i : ℕ) (next : Making → TextOutcome) (o : Outcome Making) (s : List ℕ) → or_stopped i next o ≡ Ok s
    → (a : Making) × (o ≡ Ok a) × (next a ≡ Ok s)
not_stopped i next (Ok a) s e = (a, refl, e)
not_stopped i next (Err x) s e = let z : ◌≡◌ {A = ℕ} 0 1 = cc in absurd (omega arith)

-- of lines that make a stream the first one is added, and the others to what it leaves
went_on : (i at : ℕ) (m : Making) (l : List ℕ) (ls : List (List ℕ)) (s : List ℕ) → made_from i at m (l ∷ ls) ≡ Ok s
    → (a : Making) × (add_line m (read_line l) ≡ Ok a) × (made_from (suc i) (at + length l + 1) a ls ≡ Ok s)
unfolding made_from
went_on i at m l ls s e =
    let x = not_stopped (suc i) (λ a. made_from (suc i) (at + length l + 1) a ls) _ s e in
    (x.0, (unless_answered (leb (at + length l) most_text) _ _ x.1).1, x.2)

-- what lines make of which none is refused
makes : (i at : ℕ) (m : Making) (ls : List (List ℕ)) (s : List ℕ) → m.count ≤ 255 → made_from i at m ls ≡ Ok s → Makes m (frame_lines ls) s
unfolding made_from frame_lines add_line
makes i at m [] s h e = let z : stream_of m ≡ s = cc in subst (λ t. Makes m [] t) z (none_left m h)
makes i at m (l ∷ ls) s h e =
    let x = went_on i at m l ls s e in
    line_first m x.0 (read_line l) (kind_of (read_line l)) (frame_lines ls) s h x.1 (λ f. makes (suc i) (at + length l + 1) x.0 ls s f x.2)

-- a line of kind k that is added to frames of n slots leaves the slot count that it says, and can be read
record Says (n : ℕ) (k : Kind) (a : Making) : Type 0 where
  slots : a.slots ≡ slots_after n k
  taken : is_slot_count a.slots ≡ true
  readable : is_readable k ≡ true

line_says : (m a : Making) (p : LineParts) (k : Kind) → is_slot_count m.slots ≡ true → add_by_kind m p k ≡ Ok a → Says m.slots k a
line_says m a p Blank h e = let z : m ≡ a = cc in subst (Says m.slots Blank) z (record { slots = refl; taken = h; readable = refl })
line_says m a p (Slots n) h e =
    let x = unless_answered (eqb m.count 0) _ _ e in
    let y = unless_answered (is_slot_count n) _ _ x.1 in
    let z : with_slots m n ≡ a = cc y.1 in
    subst (Says m.slots (Slots n)) z (record { slots = refl; taken = y.0; readable = refl })
line_says m a p Frame h e =
    let x = adds m a p (named_grid m.slots p.borders p.flags p.mark) refl e in
    subst (Says m.slots Frame) x.is (record { slots = refl; taken = h; readable = refl })
line_says m a p Unreadable h e = let z : ◌≡◌ {A = ℕ} 0 1 = cc in absurd (omega arith)

-- so do lines that make a stream, with n slots before them
pub record Said (n : ℕ) (ls : List (List ℕ)) (s : List ℕ) : Type 0 where
  pub slots : get_or s 0 0 ≡ slots_said n ls
  pub taken : is_slot_count (get_or s 0 0) ≡ true
  pub readable : list_all (λ l. is_readable (kind_of (read_line l))) ls ≡ true

pub said : (i at : ℕ) (m : Making) (ls : List (List ℕ)) (s : List ℕ) → is_slot_count m.slots ≡ true → made_from i at m ls ≡ Ok s → Said m.slots ls s
unfolding made_from slots_said add_line
said i at m [] s h e = let z : stream_of m ≡ s = cc in subst (Said m.slots []) z (record { slots = refl; taken = h; readable = refl })
said i at m (l ∷ ls) s h e =
    let x = went_on i at m l ls s e in
    let y = line_says m x.0 (read_line l) (kind_of (read_line l)) h x.1 in
    let z = said (suc i) (at + length l + 1) x.0 ls s y.taken x.2 in
    record { slots = z.slots ∙ ap (λ n. slots_said n ls) y.slots; taken = z.taken; readable = rw y.readable z.readable }

-- ---- the stream

-- a stream carries the frames that lines name: slot count, where the first begins and the slot count, how many, then at most 829 bytes that hold their
-- bits
pub record Carries (ss : List LineParts) (s : List ℕ) : Type 0 where
  pub slots : ℕ
  pub first : ℕ
  pub bytes : List ℕ
  pub links : Links slots first ss
  pub holds : Holds bytes 0 (line_bits slots ss)
  pub size : length bytes ≤ most_bytes
  pub is : s ≡ slots ∷ (first + slots) ∷ length ss ∷ bytes

-- a stream that is made carries the frames of its lines
pub carries : (i at n : ℕ) (ls : List (List ℕ)) (s : List ℕ) → made_from i at (with_slots no_frames n) ls ≡ Ok s → Carries (frame_lines ls) s
carries i at n ls s e =
    let d = makes i at (with_slots no_frames n) ls s (omega arith) e in
    let ss = frame_lines ls in
    let bs = line_bits d.slots ss in
    let r = length-replicate {A = ℕ} most_bytes 0 in
    record {
      slots = d.slots;
      first = d.first;
      bytes = take ((length bs + 7) / 8) (put_bits (replicate most_bytes 0) 0 bs);
      links = d.links;
      holds = put_holds (replicate most_bytes 0) bs (omega (arith, r, d.few, bits_few d.slots d.first ss d.links)) (omega (arith, r));
      size = simp length-take (omega (arith, r, length-put_bits (replicate most_bytes 0) 0 bs));
      is = simp (d.fresh refl, zero-add) at d.stream;
    }
