-- Some record of a shape has given borders, resolutions and mark exactly where the candidate of that shape passes the test; and where one has them with
-- any mark, one of the same class and shape has them with none.
use Rattle.std.specs.Prelude.{Ok, Err}
use Rattle.std.specs.Ordering.{int_eq}
use Rattle.std.specs.Cmp.Lexicographic.{pointwise}
use Rattle.std.proofs.lemmas.Bool.Decides.{Decides-int_eq}
use Rattle.std.proofs.lemmas.Slice.Eq.{bytes_eq-Decides}
use Rattle.std.proofs.lemmas.Bool.{and_parts}
use mathlib.Core.Path.{◌≡◌, refl, ap, ◌∙◌}
use mathlib.Core.Bool.{Bool, true, false≢true}
use mathlib.Core.List.{List}
use mathlib.Core.Logic.{◌↔◌}
use Prim.Native.Nat.{ℕ, ◌≤◌}
use native.Mathlib.Omega.{arith}
use lib.Dec.{eqb}
use lib.IntN.{ℤ, negsuc}
use lib.ListN.{length}
use Rattle.sbr_grid.specs.Refusals.{Outcome}
use Rattle.sbr_grid.specs.Grid.{by_class, class_of, Grid, num_env_of}
use Rattle.sbr_grid.specs.Times.{Times}
use Rattle.sbr_time_grid.specs.TimeGrid.{mark_of, t_q_of, l_a_of, time_grid}
use Rattle.sbr_time_grid.proofs.Laws.{each_class}
use Rattle.sbr_writer.specs.Write.{writable}
use Rattle.sbr_named.specs.Shapes.{shaped, pointer_for, candidate, shape_at, has_times, has_borders}
use Rattle.sbr_named.proofs.Passed.{fit_fields, timed}
use Rattle.sbr_named.proofs.Alike.{repointed, repointed-fits, repointed-time}
use Rattle.sbr_named.proofs.Pointers.{Marked, marked, no_mark}
use Rattle.sbr_named.proofs.Shapes.{shape_of, shape_class, shaped_is, shaped_shape, repointed_shape}

-- a record is writable, and its time grid has these borders and this mark, with these resolutions
pub record HasBorders (n : ℕ) (bs : List ℕ) (res : List Bool) (mark : ℤ) (g : Grid) : Type 0 where
  pub fits : writable g ≡ true
  pub noise : List ℕ
  pub time : time_grid n g ≡ Ok (record { t_e = bs; t_q = noise; l_a = mark })
  pub flags : g.freq_res ≡ res

-- ---- the test says so

module _ (n : ℕ) (bs : List ℕ) (mark : ℤ) (g : Grid) where
  -- the next law, by what the time grid comes to
  told : writable g ≡ true → (o : Outcome Times) → time_grid n g ≡ o → has_times bs mark o ≡ true → HasBorders n bs g.freq_res mark g
  unfolding has_times
  told w (Ok t) e h =
      let v = and_parts (pointwise eqb t.t_e bs) (int_eq t.l_a mark) h in
      let b = (bytes_eq-Decides t.t_e bs).0 v.0 in
      let m = (Decides-int_eq t.l_a mark).0 v.1 in
      record { fits = w; noise = t.t_q; time = e ∙ λ i. Ok (record { t_e = b i; t_q = t.t_q; l_a = m i }); flags = refl }
  told w (Err r) e h = absurd (false≢true h)

  -- a record that passes the test has the borders and the mark
  pub passes-has : has_borders n bs mark g ≡ true → HasBorders n bs g.freq_res mark g
  unfolding has_borders
  passes-has e =
      let t = and_parts (writable g) (has_times bs mark (time_grid n g)) e in
      told t.0 (time_grid n g) refl t.1

  -- and one that has them passes
  has-passes : (res : List Bool) → HasBorders n bs res mark g → has_borders n bs mark g ≡ true
  unfolding has_borders has_times
  has-passes res h = rw (h.fits, h.time, (bytes_eq-Decides bs bs).1 refl, (Decides-int_eq mark mark).1 refl)

-- ---- the candidate of a record's shape

module _ (n : ℕ) (bs : List ℕ) (res : List Bool) (mark : ℤ) (g : Grid) (s : HasBorders n bs res mark g) where
  -- the pointer for the mark
  abbrev q : ℕ
  q = pointer_for g.frame_class (num_env_of g) mark

  -- the mark is that of the record's pointer
  pub mark-of : mark ≡ mark_of g.frame_class (num_env_of g) g.pointer
  unfolding l_a_of
  mark-of = ap (λ t. t.l_a) (timed n g _ s.time).value

  -- the pointer for the mark is the record's or a smaller one
  pub mark-told : Marked g.frame_class (num_env_of g) g.pointer q
  mark-told =
      let f = fit_fields g s.fits in
      rw mark-of (marked g.frame_class (num_env_of g) g.pointer f.most f.pointed)

  -- with any pointer up to the envelope count, and what its class does not send cleared, the record has the borders and that pointer's mark
  repointed-has : (p : ℕ) → by_class g.frame_class 0 p p p ≤ num_env_of g
      → HasBorders n bs res (mark_of g.frame_class (num_env_of g) (by_class g.frame_class 0 p p p)) (repointed p g)
  unfolding l_a_of
  repointed-has p l = record {
    fits = repointed-fits n p g s.fits l;
    noise = t_q_of n (repointed p g);
    time = repointed-time n p g s.fits l _ s.time;
    flags = s.flags;
  }

  -- so the candidate of its shape passes
  candidate-passes : has_borders n bs mark (candidate n bs res mark (shape_at (shape_of g))) ≡ true
  candidate-passes =
      let f = fit_fields g s.fits in
      let m = mark-told in
      let e : candidate n bs g.freq_res mark (shape_at (shape_of g)) ≡ repointed q g =
      ap (λ c. shaped n bs g.freq_res (shape_at (shape_of g)) (pointer_for c (num_env_of g) mark)) (shape_class g) ∙ shaped_is n q g _ s.fits s.time
      in
      let h : HasBorders n bs res mark (repointed q g) = rw (m.same, ← mark-of) at (repointed-has q (omega arith)) in
      rw (← s.flags, e) (has-passes n bs mark (repointed q g) res h)

  -- where a record has the borders with any mark, one of the same class and shape has them with no mark
  pub unmarked : HasBorders n bs res (negsuc 0) (repointed 0 g) × (shape_of (repointed 0 g) ≡ shape_of g)
  unmarked =
      let c = g.frame_class in
      let l = each_class (λ x. x ≤ num_env_of g) c 0 0 0 0 (omega arith) (omega arith) (omega arith) (omega arith) in
      (rw (no_mark c (num_env_of g)) at (repointed-has 0 l), repointed_shape 0 g c)

-- ---- existence

-- the candidate of a shape passes exactly where some record of that shape has the borders, the resolutions and the mark
pub shape_exactly : (n : ℕ) (bs : List ℕ) (res : List Bool) (mark : ℤ) (k : ℕ)
    → (has_borders n bs mark (candidate n bs res mark (shape_at k)) ≡ true) ↔ ((g : Grid) × (shape_of g ≡ k) × HasBorders n bs res mark g)
shape_exactly n bs res mark k =
    let g = candidate n bs res mark (shape_at k) in (
      λ e. (g, shaped_shape n bs res (pointer_for (class_of k) (length res) mark) k, passes-has n bs mark g e),
      λ h. rw h.1 at (candidate-passes n bs res mark h.0 h.2),
    )
