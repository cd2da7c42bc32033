-- A list that was printed: each of its lines adds its frame, and what is made of it is listed as it is.
use Rattle.std.specs.Prelude.{Ok}
use mathlib.Core.Path.{◌≡◌, refl, sym, ap, ◌∙◌, subst}
use mathlib.Core.Bool.{Bool}
use mathlib.Core.List.{List, [], ◌∷◌, ◌++◌, map}
use Prim.Native.Nat.{ℕ, zero, suc, ◌+◌, ◌*◌, ◌≤◌, ◌<◌}
use native.Mathlib.Omega.{arith}
use borrow.Author.Tests.{le-leb}
use lib.IntN.{pos, nat_abs}
use lib.ListN.{length, get_or, length-append}
use Rattle.bits.specs.Room.{Holds}
use Rattle.sbr_grid.specs.Grid.{Grid}
use Rattle.sbr_time_grid.specs.TimeGrid.{time_grid}
use Rattle.sbr_writer.specs.Syntax.{grid_bits}
use Rattle.sbr_reader.specs.declared.Carried.{Carried}
use Rattle.sbr_reader.specs.Read.{Accepted, marks_end, read_grid, carrying}
use Rattle.sbr_reader.proofs.ReadLaws.{frame_of}
use Rattle.sbr_reader.proofs.Told.{told_frame}
use Rattle.sbr_named.specs.Shapes.{named_grid}
use Rattle.sbr_named.proofs.Signed.{pos_back}
use Rattle.sbr_list.specs.Listing.{frame_line, lines_from}
use Rattle.sbr_list.proofs.Bounds.{frame_shows}
use Rattle.sbr_list.proofs.Whole.{length_frame}
use Rattle.sbr_text.specs.Parts.{LineParts, read_bytes, read_line, kind_of}
use Rattle.sbr_text.specs.Reads.{Names}
use Rattle.sbr_text.proofs.Printed.{shown, shown-line, line_reads}
use Rattle.sbr_make.specs.Making.{lines_of, Making, add_line, stream_of, most_text, made_from}
use Rattle.sbr_make.specs.Back.{if_frame, frame_lines, OwnChoice, OwnChoices}
use Rattle.sbr_make.proofs.Links.{next_start, next_is, named_border, Links, line_bits, front}
use Rattle.sbr_make.proofs.Carries.{added, adds_frame}
use Rattle.sbr_make.proofs.Plain.{frame_line_lem}
use Rattle.sbr_make.proofs.Firsts.{made-on}

-- the same class, resolutions, borders, noise borders and mark make the same line
same_line : (i : ℕ) (f g : Accepted) → f.grid.frame_class ≡ g.grid.frame_class → f.grid.freq_res ≡ g.grid.freq_res
    → f.time.t_e ≡ g.time.t_e → f.time.t_q ≡ g.time.t_q → f.time.l_a ≡ g.time.l_a → frame_line i f ≡ frame_line i g
unfolding frame_line
same_line i f g a b c d e = rw (a, b, c, d, e)

-- bytes that hold the bits of lines are listed as t, with frame numbers from j on
abbrev pub Lists : ℕ → ℕ → List LineParts → List ℕ → Type 0
Lists n j ss t =
    (x : List ℕ) (b q : ℕ) (a : Bool) → Links n b ss → Holds x q (line_bits n ss) → lines_from x n (length ss) j q (carrying (b + n) a) ≡ t

-- its grid is the one that is chosen for it
line_chosen : (n : ℕ) (l : List ℕ) (p : ℕ) (c : Carried) (r : OwnChoice n l p c) (s : LineParts)
    → Names s r.frame.time.t_e r.frame.grid.freq_res r.frame.time.l_a
    → named_grid n s.borders s.flags s.mark ≡ Ok r.grid
line_chosen n l p c r s m = rw (m.borders, m.flags, m.marked) r.chosen

-- a line more in front, which names a frame of such a list
first_listed : (n j : ℕ) (l : List ℕ) (p : ℕ) (c : Carried) (r : OwnChoice n l p c) (s : LineParts) (ss : List LineParts) (t : List ℕ)
    → Names s r.frame.time.t_e r.frame.grid.freq_res r.frame.time.l_a
    → Lists n (j + 1) ss t → Lists n j (s ∷ ss) (frame_line j r.frame ++ t)
unfolding lines_from
first_listed n j l p c r s ss t names again x b q a y z =
    let d = front n b s ss y.0 x q a z in
    let g = y.0.grid in
    let h : g ≡ r.grid = cc (y.0.chosen, line_chosen n l p c r s names) in
    let borders : d.time.t_e ≡ r.frame.time.t_e =
    sym (pos_back d.time.t_e) ∙ ap (map nat_abs) (d.borders ∙ names.borders) ∙ pos_back r.frame.time.t_e in
    let line =
    same_line j (frame_of a g (q + length (grid_bits g)) d.time) r.frame (ap (λ (y : Grid). y.frame_class) h ∙ r.class) (d.flags ∙ names.flags)
    borders (r.noise d.time (ap (time_grid n) (sym h) ∙ d.derived)) (d.mark ∙ names.marked) in
    let next = rw (← d.border) at (again x (next_start n s) (q + length (grid_bits g)) (marks_end g d.time) y.1 d.rest) in
    rw d.read (rw (line, next))

module _ (n : ℕ) (l : List ℕ) where
  -- the list of frames of which the first is read
  printed : (k j p : ℕ) (c : Carried) (f : Accepted) → read_grid l p n c ≡ Ok f
      → lines_from l n (suc k) j p c ≡ frame_line j f ++ lines_from l n k (j + 1) f.position (carrying f.border f.ends_on_attack)
  unfolding lines_from
  printed k j p c f e = rw e

  -- its lines
  lines-printed : (k j p : ℕ) (c : Carried) (f : Accepted) → read_grid l p n c ≡ Ok f
      → lines_of (lines_from l n (suc k) j p c) ≡ shown j f ∷ lines_of (lines_from l n k (j + 1) f.position (carrying f.border f.ends_on_attack))
  lines-printed k j p c f e = ap lines_of (printed k j p c f e) ∙ frame_line_lem j f _

  -- what the line of a frame that was read names
  line-names : (j p : ℕ) (c : Carried) (f : Accepted) → read_grid l p n c ≡ Ok f → j < 1000
      → Names (read_line (shown j f)) f.time.t_e f.grid.freq_res f.time.l_a
  line-names j p c f e h = line_reads.long j f (shown j f) (frame_shows l p n c f j e h).short (sym (shown-line j f))

  -- a list of k frames has at most 64 bytes for each
  pub printed-short : (k j p : ℕ) (c : Carried) → OwnChoices n l k p c → j + k ≤ 255 → length (lines_from l n k j p c) ≤ 64 * k
  unfolding lines_from
  printed-short zero j p c x h = omega arith
  printed-short (suc k) j p c x h =
      let f = x.0.frame in
      let e = x.0.read in
      let d = carrying f.border f.ends_on_attack in
      rw (printed k j p c f e) (omega (
        arith,
        length-append (frame_line j f) (lines_from l n k (j + 1) f.position d),
        length_frame j f (frame_shows l p n c f j e (omega arith)).short,
        printed-short k (j + 1) f.position d x.1 (omega arith),
      ))

  -- each of its lines adds its frame, where the first begins at the border that is due and the text is not too long
  pub all-added : (k i at j p : ℕ) (c : Carried) (m : Making) → m.slots ≡ n → m.count + k ≤ 255 → j + k ≤ 255 → OwnChoices n l k p c
      → (0 < m.count → c.border ≡ pos (m.next + n)) → at + length (lines_from l n k j p c) ≤ most_text
      → (z : Making) × (made_from i at m (lines_of (lines_from l n k j p c)) ≡ Ok (stream_of z)) × (z.slots ≡ n)
  unfolding lines_from lines_of made_from add_line kind_of read_line read_bytes
  all-added zero i at j p c m u a b x e t = (m, rw (le-leb (at + 0) most_text t), u)
  all-added (suc k) i at j p c m u a b x e t =
      let f = x.0.frame in
      let h = x.0.read in
      let d = carrying f.border f.ends_on_attack in
      let s = read_line (shown j f) in
      let names = line-names j p c f h (omega arith) in
      let told = told_frame l p n c f h in
      let first : get_or s.borders 0 (pos 0) ≡ pos (get_or f.time.t_e 0 0) = named_border f.time.t_e s.borders 0 (sym names.borders) in
      let same : 0 < m.count → get_or f.time.t_e 0 0 ≡ m.next = λ q.
      let w : get_or f.time.t_e 0 0 + n ≡ m.next + n = ap nat_abs (sym told.meets ∙ e q) in omega arith in
      let g = x.0.grid in
      let add = adds_frame m s g names.kind (rw u (line_chosen n l p c x.0 s names)) (λ q. first ∙ ap pos (same q)) (omega arith) in
      let left : f.border ≡ next_start m.slots s + n =
      rw u (told.border ∙ next_is n f.grid f.time s told.derived (sym names.borders)) in
      let rest = lines_from l n k (j + 1) f.position d in
      let long : length (shown j f) + 1 + length rest ≡ length (lines_from l n (suc k) j p c) =
      omega (arith, ap length (printed k j p c f h), length-append (frame_line j f) rest, ap length (shown-line j f), length-append (shown j f) (10 ∷ [])) in
      let r = all-added k (suc i) (at + length (shown j f) + 1) (j + 1) f.position d (added m s g) u (omega arith) (omega arith) x.1
      (λ q. ap pos left) (omega arith) in (
        r.0,
        ap (made_from i at m) (lines-printed k j p c f h) ∙ made-on i at m (shown j f) (lines_of rest) (omega arith) (added m s g) add ∙ r.1,
        r.2,
      )

  -- bytes that hold the bits of its lines are listed as it is
  pub listed-again : (k j p : ℕ) (c : Carried) → OwnChoices n l k p c → j + k ≤ 255
      → Lists n j (frame_lines (lines_of (lines_from l n k j p c))) (lines_from l n k j p c)
  unfolding lines_from lines_of frame_lines kind_of read_line read_bytes
  listed-again zero j p c o h = λ x b q a y z. refl
  listed-again (suc k) j p c o h =
      let f = o.0.frame in
      let e = o.0.read in
      let s = read_line (shown j f) in
      let names = line-names j p c f e (omega arith) in
      let t = lines_from l n k (j + 1) f.position (carrying f.border f.ends_on_attack) in
      let ss = frame_lines (lines_of t) in
      let first = ap frame_lines (lines-printed k j p c f e) ∙ ap (λ u. if_frame s u ss) names.kind in
      subst (λ us. Lists n j us (lines_from l n (suc k) j p c)) (sym first)
      (subst (Lists n j (s ∷ ss)) (sym (printed k j p c f e))
      (first_listed n j l p c o.0 s ss t names (listed-again k (j + 1) f.position _ o.1 (omega arith))))
