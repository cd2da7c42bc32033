-- The turns of the loop over frames.
use Rattle.std.specs.Prelude.{Ok, Err}
use mathlib.Core.Path.{◌≡◌, refl, ap, ◌∙◌}
use mathlib.Core.Bool.{false}
use mathlib.Core.List.{List, [], ◌∷◌, ◌++◌}
use Prim.Native.Nat.{ℕ, suc, ◌+◌, ◌-◌, ◌*◌, ◌≤◌, ◌<◌}
use native.Mathlib.Omega.{arith}
use lib.IntN.{pos}
use lib.ListN.{length, get_or, take, drop, length-append, length-drop}
use lib.Seq.{sets, length-sets, take_all}
use Rattle.sbr_grid.specs.declared.Refusal.{Refusal}
use Rattle.sbr_grid.specs.declared.Refusal.TheVariants.{BitsEnd}
use Rattle.sbr_grid.specs.Refusals.{result_map}
use Rattle.sbr_grid.specs.Grid.{record_of}
use Rattle.sbr_grid.proofs.Laws.{view_record}
use Rattle.sbr_grid.proofs.First.{first-first}
use Rattle.sbr_grid.proofs.Outcomes.{map_answered, map_refused}
use Rattle.sbr_grid.specs.Times.{time_record}
use Rattle.sbr_reader.specs.declared.FrameRead.{FrameRead}
use Rattle.sbr_reader.specs.declared.Carried.{Carried}
use Rattle.sbr_reader.specs.Read.{Accepted, read_grid, carrying, starting, frame_read}
use Rattle.sbr_list.specs.Listing.{frame_line, refusal_line, lines_from, listing, over}
use Rattle.sbr_list.specs.Line.{Short, shown_of}
use Rattle.sbr_list.proofs.Whole.{length_frame, length_refusal}
use Rattle.sbr_list.proofs.Pages.{sets_append, sets_over}
use Rattle.sbr_list.proofs.Bounds.{Shows, frame_shows}

-- the lines from frame i on, where a frame is read, where it is refused, and where there is none
lines_frame : (l : List ℕ) (n k i p : ℕ) (c : Carried) (f : Accepted) → i < k → read_grid l p n c ≡ Ok f
    → lines_from l n (k - i) i p c ≡ frame_line i f ++ lines_from l n (k - (i + 1)) (i + 1) f.position (carrying f.border f.ends_on_attack)
unfolding lines_from
lines_frame l n k i p c f h e = let s : k - i ≡ suc (k - (i + 1)) = omega arith in rw (s, e)

lines_refused : (l : List ℕ) (n k i p : ℕ) (c : Carried) (e : Refusal) → i < k → read_grid l p n c ≡ Err e
    → lines_from l n (k - i) i p c ≡ refusal_line i e
unfolding lines_from
lines_refused l n k i p c e h f = let s : k - i ≡ suc (k - (i + 1)) = omega arith in rw (s, f)

lines_none : (l : List ℕ) (n k i p : ℕ) (c : Carried) → k ≤ i → lines_from l n (k - i) i p c ≡ []
unfolding lines_from
lines_none l n k i p c h = let s : k - i ≡ 0 = omega arith in rw s

-- before frame i: the lines to come, put at the place reached, make the whole
pub record Reached (l : List ℕ) (n k : ℕ) (c₀ : Carried) (page₀ page : List ℕ) (at p : ℕ) (c : Carried) (i : ℕ) : Type 0 where
  pub turn : i ≤ k
  pub few : at ≤ 64 * i
  pub size : length page ≡ length page₀
  pub text : sets page at (lines_from l n (k - i) i p c) ≡ sets page₀ 0 (lines_from l n k 0 0 c₀)
  pub long : at + length (lines_from l n (k - i) i p c) ≡ length (lines_from l n k 0 0 c₀)

-- a line that is a text
pub record Holds (w t : List ℕ) : Type 0 where
  pub text : w ≡ t
  pub len : length w ≡ length t
  pub few : length w ≤ 64

holds : (w t : List ℕ) → w ≡ t → length t ≤ 64 → Holds w t
holds w t e h = let n : length w ≡ length t = ap length e in record { text = e; len = n; few = omega arith }

-- what a reading that answers tells
pub record Read (l : List ℕ) (p n : ℕ) (c : Carried) (r : FrameRead) (i : ℕ) : Type 0 where
  pub frame : Accepted
  pub outcome : read_grid l p n c ≡ Ok frame
  pub short : Short i frame
  pub shown : shown_of r.grid r.time ≡ record { grid = frame.grid; time = frame.time; begins_on_attack = false; position = 0; border = 0; ends_on_attack = false }
  pub position : r.position ≡ frame.position
  pub carried : r.carried ≡ carrying frame.border frame.ends_on_attack

-- the records of a frame show the frame
shown_frame : (f : Accepted) (i : ℕ) → Shows i f
    → shown_of (record_of f.grid) (time_record f.time) ≡ record { grid = f.grid; time = f.time; begins_on_attack = false; position = 0; border = 0; ends_on_attack = false }
shown_frame f i s =
    let a : length f.time.t_e - 1 + 1 ≡ length f.time.t_e = omega (arith, s.first) in
    let b : length f.time.t_q - 1 + 1 ≡ length f.time.t_q = omega (arith, s.first_noise) in
    rw (
      view_record f.grid s.short.flags s.rel0 s.rel1,
      a,
      b,
      first-first 0 6 f.time.t_e s.short.times.borders,
      first-first 0 3 f.time.t_q s.short.times.noise,
    )

pub read_given : (l : List ℕ) (p n : ℕ) (c : Carried) (r : FrameRead) (i : ℕ) → Ok r ≡ result_map frame_read (read_grid l p n c) → i < 1000 → Read l p n c r i
read_given l p n c r i h k =
    let f = map_answered frame_read (read_grid l p n c) r h in
    let s = frame_shows l p n c f.0 i f.1.0 k in
    record {
      frame = f.0;
      outcome = f.1.0;
      short = s.short;
      shown = ap (λ x. shown_of x.grid x.time) f.1.1 ∙ shown_frame f.0 i s;
      position = ap (λ x. x.position) f.1.1;
      carried = ap (λ x. x.carried) f.1.1;
    }

-- the line that is put for a frame, and the one for a refusal
module _ (l : List ℕ) (p n : ℕ) (c : Carried) (r : FrameRead) (i : ℕ) (h : Read l p n c r i) where
  pub shown-short : Short i (shown_of r.grid r.time)
  shown-short =
      let s = h.short in
      rw h.shown (record { number = s.number; times = s.times; flags = s.flags })

  pub frame-holds : (w : List ℕ) → w ≡ frame_line i (shown_of r.grid r.time) → Holds w (frame_line i h.frame)
  unfolding frame_line
  frame-holds w e = holds w _ (e ∙ ap (frame_line i) h.shown) (length_frame i h.frame h.short)

pub refusal_holds : (i : ℕ) (e : Refusal) (w : List ℕ) → w ≡ refusal_line i e → Holds w (refusal_line i e)
refusal_holds i e w h = holds w _ h (length_refusal i e)

module _ (l : List ℕ) (n k : ℕ) (c₀ : Carried) (page₀ : List ℕ) where
  module _ (page : List ℕ) (at p : ℕ) (c : Carried) (i : ℕ) (s : Reached l n k c₀ page₀ page at p c i) where
    -- after a frame more
    pub reached-frame : i < k → (r : FrameRead) (h : Read l p n c r i) (w : List ℕ) → Holds w (frame_line i h.frame) → (q : ℕ) (next : List ℕ)
        → q ≡ at + length w → next ≡ sets page at w → Reached l n k c₀ page₀ next q r.position r.carried (i + 1)
    reached-frame d r h w t q next e f =
        let line = frame_line i h.frame in
        let rest = lines_from l n (k - (i + 1)) (i + 1) h.frame.position (carrying h.frame.border h.frame.ends_on_attack) in
        let m = lines_frame l n k i p c h.frame d h.outcome in
        record {
          turn = omega arith;
          few = omega (arith, s.few, t.few);
          size = rw f (length-sets page at w) ∙ s.size;
          text = rw (h.position, h.carried, f, e, t.text, ← (sets_append page at line rest), ← m) s.text;
          long = rw (h.position, h.carried) (omega (arith, s.long, t.len, length-append line rest, ap length m));
        }

    -- the whole is there: the text from frame i on is t, and it is put
    pub reached-end : (t : List ℕ) → lines_from l n (k - i) i p c ≡ t → at + length t ≤ length page₀ → (q : ℕ) (next : List ℕ)
        → q ≡ at + length t → next ≡ sets page at t
        → (q ≡ length (lines_from l n k 0 0 c₀)) × (next ≡ over (lines_from l n k 0 0 c₀) page₀)
    reached-end t m d q next e f =
        let z : at + length t ≡ length (lines_from l n k 0 0 c₀) = rw m at s.long in
        (e ∙ z, rw f ((rw m at s.text) ∙ sets_over page₀ (lines_from l n k 0 0 c₀) (omega arith)))

    pub reached-refused : i < k → k ≤ 255 → 16384 ≤ length page₀ → (x : Refusal) → Err x ≡ result_map frame_read (read_grid l p n c)
        → (w : List ℕ) → Holds w (refusal_line i x) → (q : ℕ) (next : List ℕ) → q ≡ at + length w → next ≡ sets page at w
        → (q ≡ length (lines_from l n k 0 0 c₀)) × (next ≡ over (lines_from l n k 0 0 c₀) page₀)
    reached-refused d g a x h w t q next e f =
        let o = map_refused frame_read (read_grid l p n c) x h in
        reached-end (refusal_line i x) (lines_refused l n k i p c x d o) (omega (arith, s.few, t.len, t.few)) q next
        (omega (arith, t.len)) (rw t.text at f)

    -- after the last frame
    pub reached-all : k ≤ i → k ≤ 255 → 16384 ≤ length page₀ → (at ≡ length (lines_from l n k 0 0 c₀)) × (page ≡ over (lines_from l n k 0 0 c₀) page₀)
    reached-all d g a = reached-end [] (lines_none l n k i p c d) (omega (arith, s.few, s.turn)) at page (omega arith) refl

-- a listing of fewer than three bytes, and one of more
listing_short : (l : List ℕ) → length l < 3 → listing l ≡ refusal_line 0 BitsEnd
unfolding listing
listing_short [] h = refl
listing_short (a ∷ []) h = refl
listing_short (a ∷ b ∷ []) h = refl
listing_short (a ∷ b ∷ c ∷ l) h = absurd (omega arith)

listing_long : (l : List ℕ) → 3 ≤ length l → listing l ≡ lines_from (drop 3 l) (get_or l 0 0) (get_or l 2 0) 0 0 (starting (pos (get_or l 1 0)))
unfolding listing
listing_long [] h = absurd (omega arith)
listing_long (a ∷ []) h = absurd (omega arith)
listing_long (a ∷ b ∷ []) h = absurd (omega arith)
listing_long (a ∷ b ∷ c ∷ l) h = refl

-- the two ways of `list_grids`
pub listed_short : (l page next : List ℕ) (w : List ℕ) (q : ℕ) → length l < 3 → 64 ≤ length page → Holds w (refusal_line 0 BitsEnd)
    → q ≡ 0 + length w → next ≡ sets page 0 w → (q ≡ length (listing l)) × (next ≡ over (listing l) page)
listed_short l page next w q h s t e f =
    rw (listing_short l h) (omega (arith, t.len), f ∙ rw t.text (sets_over page (refusal_line 0 BitsEnd) (omega (arith, t.len, t.few))))

pub listed_long : (l page next bits : List ℕ) (n k : ℕ) (c : Carried) (q : ℕ) → 3 ≤ length l → bits ≡ take (length l - 3) (drop 3 l) → n ≡ get_or l 0 0 → k ≡ get_or l 2 0
    → c ≡ starting (pos (get_or l 1 0)) → q ≡ length (lines_from bits n k 0 0 c) → next ≡ over (lines_from bits n k 0 0 c) page
    → (q ≡ length (listing l)) × (next ≡ over (listing l) page)
listed_long l page next bits n k c q h a b d e f g =
    let z : bits ≡ drop 3 l = a ∙ take_all (length l - 3) (drop 3 l) (omega (arith, length-drop 3 l)) in
    rw (listing_long l h, ← z, ← b, ← d, ← e) (f, g)
