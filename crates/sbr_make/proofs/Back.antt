-- The claims of specs/Back.antt: a stream that is made is read as its lines, and a list of grids such as are chosen is given back.
use Rattle.std.specs.Prelude.{Ok}
use mathlib.Core.Path.{◌≡◌, refl, sym, ap, ◌∙◌, subst}
use mathlib.Core.Bool.{true, false}
use mathlib.Core.List.{List, ◌∷◌, ◌++◌}
use mathlib.Core.Logic.{inl, inr}
use Prim.Native.Nat.{ℕ, ◌+◌, ◌≤◌}
use native.Mathlib.Omega.{arith}
use native.Mathlib.Decide.{ℕ_discrete}
use lib.IntN.{pos}
use lib.ListN.{length, get_or}
use lib.Seq.{append_snoc}
use Rattle.bits.specs.Room.{Holds}
use Rattle.sbr_grid.specs.Times.{is_slot_count}
use Rattle.sbr_grid.proofs.Slots.{slot_range}
use Rattle.sbr_reader.specs.Read.{starting}
use Rattle.sbr_list.specs.Listing.{decimal, lines_from, listing}
use Rattle.sbr_list.proofs.Lines.{decimal_two}
use Rattle.sbr_text.specs.Parts.{LineParts, read_byte, read_bytes, read_line, kind_of}
use Rattle.sbr_make.specs.Making.{lines_of, no_frames, add_line, stream_of, made_from, text_stream}
use Rattle.sbr_make.specs.Back.{frame_lines, IsRead, MadeIsRead, SaysSlots, GivenBack}
use Rattle.sbr_make.proofs.Links.{Links, line_bits, read_lines}
use Rattle.sbr_make.proofs.Carries.{with_slots, said, Carries, carries}
use Rattle.sbr_make.proofs.Plain.{first-line, plain_decimal}
use Rattle.sbr_make.proofs.Firsts.{made-on}
use Rattle.sbr_make.proofs.Printed.{Lists, printed-short, all-added, listed-again}

-- every stream that is made is read as its lines
pub made_is_read : MadeIsRead
unfolding text_stream is_slot_count
made_is_read text s e =
    let d = carries 0 0 16 (lines_of text) s e in
    let f = said 0 0 no_frames (lines_of text) s refl e in
    subst (IsRead text) (sym d.is) (record {
      readable = f.readable;
      slots = rw d.is at f.slots;
      slot_count = rw d.is at f.taken;
      count = refl;
      lines = read_lines d.slots d.first (frame_lines (lines_of text)) d.bytes 0 false d.links d.holds;
    })

-- ---- a list that is given back

-- what a line with a slot count adds before the first frame
slots_said_lem : (n : ℕ) → is_slot_count n ≡ true → add_line no_frames (read_line (decimal n)) ≡ Ok (with_slots no_frames n)
unfolding add_line kind_of read_line read_bytes read_byte decimal is_slot_count
slots_said_lem n h = elim (ℕ_discrete n 15) [
  | yes e ↦ rw e
  | no e ↦ let z : n ≡ 16 = omega (arith, slot_range n h) in rw z
]

-- the slot count in front, or no line for 16 slots
begun : (n : ℕ) (head t : List ℕ) → is_slot_count n ≡ true → SaysSlots n head
    → (i : ℕ) × (at : ℕ) × (made_from 0 0 no_frames (lines_of (head ++ t)) ≡ made_from i at (with_slots no_frames n) (lines_of t)) × (at ≤ 3)
begun n head t h (inl e) =
    let r = slot_range n h in
    let two : length (decimal n) ≡ 2 = rw (decimal_two n (omega arith) (omega arith)) in (
      1,
      0 + length (decimal n) + 1,
      ap (λ x. made_from 0 0 no_frames (lines_of (x ++ t))) e
          ∙ ap (made_from 0 0 no_frames) (ap lines_of (append_snoc (decimal n) 10 t) ∙ first-line (decimal n) t (plain_decimal n))
          ∙ made-on 0 0 no_frames (decimal n) (lines_of t) (omega arith) (with_slots no_frames n) (slots_said_lem n h),
      omega arith,
    )
begun n head t h (inr e) = (0, 0, rw (e.0, e.1) refl, omega arith)

-- a stream that carries the frames of lines is listed as they are
stream_listed : (n : ℕ) (t : List ℕ) (ss : List LineParts) (s : List ℕ) → Lists n 0 ss t → Carries ss s → get_or s 0 0 ≡ n → listing s ≡ t
unfolding listing
stream_listed n t ss s f d e =
    let same : d.slots ≡ n = ap (λ (y : List ℕ). get_or y 0 0) (sym d.is) ∙ e in
    ap listing d.is
    ∙ subst (λ m. Links m d.first ss → Holds d.bytes 0 (line_bits m ss) → listing (m ∷ (d.first + m) ∷ length ss ∷ d.bytes) ≡ t)
    (sym same) (f d.bytes d.first 0 false) d.links d.holds

-- the list of such frames makes a stream whose list it is
pub given_back : GivenBack
unfolding text_stream listing
given_back n b k l head h few x said =
    let t = lines_from l n k 0 0 (starting (pos b)) in
    let g = begun n head t h said in
    let z = all-added n l k g.0 g.1 0 0 (starting (pos b)) (with_slots no_frames n) refl (omega arith) (omega arith) x (λ q. absurd (omega arith))
    (omega (arith, g.3, printed-short n l k 0 0 (starting (pos b)) x (omega arith))) in
    record {
      bytes = stream_of z.0;
      made = g.2 ∙ z.1;
      listed =
          stream_listed n t (frame_lines (lines_of t)) (stream_of z.0) (listed-again n l k 0 0 (starting (pos b)) x (omega arith))
          (carries g.0 g.1 n (lines_of t) (stream_of z.0) z.1) z.2;
    }
