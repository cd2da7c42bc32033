-- Records that are alike in what borders are made of have the same borders. A record with another pointer, and with what its class does not send
-- cleared, is alike the record.
use Rattle.std.specs.Prelude.{Ok}
use mathlib.Core.Path.{◌≡◌, refl, sym, ap, ◌∙◌}
use mathlib.Core.Bool.{true}
use mathlib.Core.List.{[]}
use Prim.Native.Nat.{ℕ, zero, suc, ◌+◌, ◌-◌, ◌≤◌, ◌<◌}
use native.Mathlib.Decide.{dec_le}
use native.Mathlib.Omega.{arith}
use borrow.Author.Tests.{le-leb, lt-leb, eq-eqb, le-ltb, lt-ltb}
use lib.ListN.{length}
use Rattle.sbr_grid.specs.declared.FrameClass.{FrameClass}
use Rattle.sbr_grid.specs.declared.FrameClass.TheVariants.{FixFix, FixVar, VarFix, VarVar}
use Rattle.sbr_grid.specs.Grid.{by_class, noise_of, Grid, made, num_env_of}
use Rattle.sbr_grid.specs.Times.{Times}
use Rattle.sbr_time_grid.specs.TimeGrid.{by_pointer, abs_bord_lead, abs_bord_trail, n_rel_lead, n_rel_trail, rel_bord_lead, rel_bord_trail, list_from, t_e_of, t_q_of, l_a_of, rises, middle_border, counts_fit, borders_fit, noise_fits, time_grid}
use Rattle.sbr_time_grid.proofs.Laws.{each_class, Counts}
use Rattle.sbr_time_grid.proofs.Borders.{lead_at, trail_at, sum_same, border_lead, border_trail}
use Rattle.sbr_time_grid.proofs.Rises.{rises-same}
use Rattle.sbr_time_grid.proofs.Marks.{noise_meet}
use Rattle.sbr_writer.specs.Syntax.{body_bits, grid_bits}
use Rattle.sbr_writer.specs.Write.{every, small, class_fits, writable}
use Rattle.sbr_writer.proofs.Writable.{Fields, fields_fit}
use Rattle.sbr_parse.specs.Syntax.{received}
use Rattle.sbr_parse.specs.Inverse.{cleared}
use Rattle.sbr_named.proofs.Passed.{fit_fields, fit_class, timed}

-- ---- the same borders

-- what the borders of two records are made of is the same
record Alike (n : ℕ) (g h : Grid) : Type 0 where
  env : num_env_of g ≡ num_env_of h
  first : abs_bord_lead g ≡ abs_bord_lead h
  last : abs_bord_trail n g ≡ abs_bord_trail n h
  leads : n_rel_lead g ≡ n_rel_lead h
  trails : n_rel_trail g ≡ n_rel_trail h
  lead : (i : ℕ) → rel_bord_lead n g i ≡ rel_bord_lead n h i
  trail : (i : ℕ) → i < n_rel_trail g → rel_bord_trail g i ≡ rel_bord_trail h i

-- lists of the same numbers
list_same : (f h : ℕ → ℕ) (i k : ℕ) → ((j : ℕ) → j < i + k → f j ≡ h j) → list_from f i k ≡ list_from h i k
unfolding list_from
list_same f h i zero e = refl
list_same f h i (suc k) e = rw (e i (omega arith), list_same f h (suc i) k (λ j a. e j (omega arith)))

module _ (n : ℕ) (g h : Grid) (s : Alike n g h) (c : Counts g) where
  -- the next law, by the side that the border is on
  border_by : (l : ℕ) → l ≤ num_env_of g → Dec (l ≤ n_rel_lead g) → t_e_of n g l ≡ t_e_of n h l
  border_by l a (yes b) =
      let e : lead_at n g l ≡ lead_at n h l = rw (s.first, sum_same _ _ l (λ i d. s.lead i)) in
      border_lead n g l (omega arith) b ∙ e ∙ sym (border_lead n h l (omega arith) (omega arith))
  border_by l a (no b) =
      let e : trail_at n g (num_env_of g) l ≡ trail_at n h (num_env_of h) l =
      rw (s.last, ← s.env, sum_same (rel_bord_trail g) (rel_bord_trail h) (num_env_of g - l) (λ i d. s.trail i (omega arith)))
      in
      border_trail n g l (omega arith) a ∙ e ∙ sym (border_trail n h l (omega arith) (omega arith))

  -- each border is the same
  border-same : (l : ℕ) → l ≤ num_env_of g → t_e_of n g l ≡ t_e_of n h l
  border-same l a = border_by l a (dec_le l (n_rel_lead g))

  -- where the noise floors meet at the same border, their borders are the same
  noise-by : middle_border g ≡ middle_border h → noise_fits g ≡ true → Dec (num_env_of g ≤ 1) → t_q_of n h ≡ t_q_of n g
  unfolding t_q_of
  noise-by e f (yes a) =
      rw (← s.env, le-leb (num_env_of g) 1 a, border-same 0 (omega arith), border-same (num_env_of g) (omega arith))
  noise-by e f (no a) =
      let m = noise_meet g f (omega arith) in
      rw (← s.env, ← e, lt-leb (num_env_of g) 1 (omega arith), border-same 0 (omega arith), border-same (middle_border g) (omega arith), border-same (num_env_of g) (omega arith))

  -- the same for any number of envelopes
  noise-same : middle_border g ≡ middle_border h → noise_fits g ≡ true → t_q_of n h ≡ t_q_of n g
  noise-same e f = noise-by e f (dec_le (num_env_of g) 1)

-- the tests of the counts pass where the counts are right
fit_counts : (g : Grid) → Counts g → counts_fit g ≡ true
unfolding counts_fit
fit_counts g c =
    rw (le-leb 1 (num_env_of g) c.some, le-leb (num_env_of g) 5 c.few, le-leb _ 4 c.few0, le-leb _ 4 c.few1, eq-eqb _ _ c.all)

-- a record that is like one with a time grid, and passes the tests of counts, border bytes and noise floors, has its borders
alike_time : (n : ℕ) (g h : Grid) (t : Times) → time_grid n g ≡ Ok t → Alike n g h → Counts h → borders_fit h ≡ true → noise_fits h ≡ true
    → time_grid n h ≡ Ok (record { t_e = t.t_e; t_q = t_q_of n h; l_a = l_a_of h })
unfolding time_grid
alike_time n g h t e s a b c =
    let p = timed n g t e in
    let same = border-same n g h s p.counted in
    let r : rises (t_e_of n h) (num_env_of h) ≡ true = rw (← s.env) (sym (rises-same (t_e_of n g) (t_e_of n h) (num_env_of g) same) ∙ p.up) in
    let l : t.t_e ≡ list_from (t_e_of n h) 0 (num_env_of h + 1) =
    ap (λ x. x.t_e) p.value ∙ rw (← s.env) (list_same (t_e_of n g) (t_e_of n h) 0 (num_env_of g + 1) (λ j y. same j (omega arith)))
    in
    rw (p.slots, fit_counts h a, b, r, c, l)

-- ---- the noise floors always meet inside the frame

-- what holds of each entry of a column holds of the one that a pointer picks
each_pointer : {A : Type 0} (P : A → Type 0) (p : ℕ) (a b c : A) → P a → P b → (2 ≤ p → P c) → P (by_pointer p a b c)
each_pointer P zero a b c x y z = x
each_pointer P (suc zero) a b c x y z = y
each_pointer P (suc (suc p)) a b c x y z = z (omega arith)

-- of two envelopes or more, with a pointer of at most their count, one ends at the middle border
middle : (g : Grid) → 1 < num_env_of g → g.pointer ≤ num_env_of g → (1 ≤ middle_border g) × (middle_border g < num_env_of g)
unfolding middle_border
middle g a b =
    let l = num_env_of g in
    let P : ℕ → Type 0 = λ m. (1 ≤ m) × (m < l) in
    let back = each_pointer P g.pointer (l - 1) (l - 1) (l + 1 - g.pointer) (omega arith) (omega arith) (λ x. omega arith) in
    each_class P g.frame_class _ _ _ _ (omega arith) back
    (each_pointer P g.pointer 1 (l - 1) (g.pointer - 1) (omega arith) (omega arith) (λ x. omega arith)) back

-- so the test of the noise floors passes where their number is right
noise_fits_lem : (g : Grid) → g.num_noise ≡ noise_of (num_env_of g) → g.pointer ≤ num_env_of g → Dec (num_env_of g ≤ 1) → noise_fits g ≡ true
unfolding noise_fits
noise_fits_lem g e b (yes a) = rw (le-leb (num_env_of g) 1 a, e, le-ltb 1 (num_env_of g) a)
noise_fits_lem g e b (no a) =
    let m = middle g (omega arith) b in
    rw (lt-leb (num_env_of g) 1 (omega arith), le-leb 1 (middle_border g) m.0, lt-ltb (middle_border g) (num_env_of g) m.1, e, lt-ltb 1 (num_env_of g) (omega arith))

-- ---- another pointer

-- the fields that the class sends, with pointer q; the others are cleared
abbrev pub repointed : ℕ → Grid → Grid
repointed q g =
    let c = g.frame_class in
    received c g.freq_res (by_class c 0 0 g.var_bord_0 g.var_bord_0) (by_class c 0 g.var_bord_1 0 g.var_bord_1)
    (by_class c [] [] g.rel_bord_0 g.rel_bord_0) (by_class c [] g.rel_bord_1 [] g.rel_bord_1)
    (by_class c 0 q q q)

-- a record in class c; in its own class it is the record, so that a law by cases on c holds of each record
abbrev pub in_class : FrameClass → Grid → Grid
in_class c g = made c g.num_noise g.freq_res g.var_bord_0 g.var_bord_1 g.rel_bord_0 g.rel_bord_1 g.pointer g.amp_override

-- the record with another pointer is alike the record
repointed_alike : (n q : ℕ) (g : Grid) (c : FrameClass) → Alike n (in_class c g) (repointed q (in_class c g))
unfolding abs_bord_lead abs_bord_trail n_rel_lead n_rel_trail rel_bord_lead
repointed_alike n q g FixFix = record { env = refl; first = refl; last = refl; leads = refl; trails = refl; lead = λ i. refl; trail = λ i l. absurd (omega arith) }
repointed_alike n q g FixVar = record { env = refl; first = refl; last = refl; leads = refl; trails = refl; lead = λ i. refl; trail = λ i l. refl }
repointed_alike n q g VarFix = record { env = refl; first = refl; last = refl; leads = refl; trails = refl; lead = λ i. refl; trail = λ i l. absurd (omega arith) }
repointed_alike n q g VarVar = record { env = refl; first = refl; last = refl; leads = refl; trails = refl; lead = λ i. refl; trail = λ i l. refl }

-- and passes the same tests of border bytes and of the counts of its class
repointed_tests : (q : ℕ) (g : Grid) (c : FrameClass) → let h = repointed q (in_class c g) in
    (borders_fit h ≡ borders_fit (in_class c g)) × (class_fits c h ≡ class_fits c (in_class c g))
unfolding borders_fit class_fits
repointed_tests q g FixFix = (refl, refl)
repointed_tests q g FixVar = (refl, refl)
repointed_tests q g VarFix = (refl, refl)
repointed_tests q g VarVar = (refl, refl)

module _ (n q : ℕ) (g : Grid) (fits : writable g ≡ true) (low : by_class g.frame_class 0 q q q ≤ num_env_of g) where
  -- of a writable record it has the fields that a writer takes
  repointed-fields : Fields (repointed q g)
  unfolding every
  repointed-fields =
      let f = fit_fields g fits in
      let c = g.frame_class in
      record {
        some = f.some;
        most = f.most;
        bord_0 = each_class (λ x. x ≤ 3) c 0 0 g.var_bord_0 g.var_bord_0 (omega arith) (omega arith) f.bord_0 f.bord_0;
        bord_1 = each_class (λ x. x ≤ 3) c 0 g.var_bord_1 0 g.var_bord_1 (omega arith) f.bord_1 (omega arith) f.bord_1;
        rel0 = each_class (λ x. length x ≤ 4) c [] [] g.rel_bord_0 g.rel_bord_0 (omega arith) (omega arith) f.rel0 f.rel0;
        rel1 = each_class (λ x. length x ≤ 4) c [] g.rel_bord_1 [] g.rel_bord_1 (omega arith) f.rel1 (omega arith) f.rel1;
        small0 = each_class (λ x. small x ≡ true) c [] [] g.rel_bord_0 g.rel_bord_0 refl refl f.small0 f.small0;
        small1 = each_class (λ x. small x ≡ true) c [] g.rel_bord_1 [] g.rel_bord_1 refl f.small1 refl f.small1;
        pointed = low;
      }

  -- so it is writable
  pub repointed-fits : writable (repointed q g) ≡ true
  repointed-fits = rw (fields_fit (repointed q g) repointed-fields, (repointed_tests q g g.frame_class).1) (fit_class g fits)

  -- and has the borders
  pub repointed-time : (t : Times) → time_grid n g ≡ Ok t
      → time_grid n (repointed q g) ≡ Ok (record { t_e = t.t_e; t_q = t_q_of n (repointed q g); l_a = l_a_of (repointed q g) })
  repointed-time t e =
      let h = repointed q g in
      let c = g.frame_class in
      let p = timed n g t e in
      let k = p.counted in
      let f = repointed-fields in
      let s = repointed_alike n q g c in
      let new : Counts h = record { some = k.some; few = k.few; few0 = f.rel0; few1 = f.rel1; all = omega arith } in
      alike_time n g h t e s new ((repointed_tests q g c).0 ∙ p.bytes) (noise_fits_lem h refl low (dec_le (num_env_of h) 1))

-- ---- clearing

-- clearing keeps what a pointer stands for, and the written bits
clear_keeps : (g : Grid) (c : FrameClass) → let h = in_class c g in
    (l_a_of (cleared h) ≡ l_a_of h) × (middle_border h ≡ middle_border (cleared h)) × (grid_bits (cleared h) ≡ grid_bits h)
unfolding l_a_of middle_border grid_bits body_bits
clear_keeps g FixFix = (refl, refl, refl)
clear_keeps g FixVar = (refl, refl, refl)
clear_keeps g VarFix = (refl, refl, refl)
clear_keeps g VarVar = (refl, refl, refl)

-- a cleared record has the pointer of a record or none
clear_low : (g : Grid) → writable g ≡ true → let p = g.pointer in by_class g.frame_class 0 p p p ≤ num_env_of g
clear_low g w =
    let p = g.pointer in
    let c = g.frame_class in
    let l = (fit_fields g w).pointed in
    each_class (λ x. x ≤ num_env_of g) c 0 p p p (omega arith) l l l

-- the written bits of a cleared record are the record's
pub clear_bits : (g : Grid) → grid_bits (cleared g) ≡ grid_bits g
clear_bits g = (clear_keeps g g.frame_class).2

-- it is writable
pub clear_fits : (g : Grid) → writable g ≡ true → writable (cleared g) ≡ true
clear_fits g w = repointed-fits 0 g.pointer g w (clear_low g w)

-- and has the whole time grid
pub clear_time : (n : ℕ) (g : Grid) (t : Times) → writable g ≡ true → time_grid n g ≡ Ok t → time_grid n (cleared g) ≡ Ok t
clear_time n g t w e =
    let c = g.frame_class in
    let k = clear_keeps g c in
    let p = timed n g t e in
    let q : t_q_of n (cleared g) ≡ t.t_q =
    noise-same n g (cleared g) (repointed_alike n g.pointer g c) p.counted k.1 p.noise ∙ ap (λ x. x.t_q) (sym p.value)
    in
    let m : l_a_of (cleared g) ≡ t.l_a = k.0 ∙ ap (λ x. x.l_a) (sym p.value) in
    repointed-time n g.pointer g w (clear_low g w) t e ∙ (λ i. Ok (record { t_e = t.t_e; t_q = q i; l_a = m i }))
