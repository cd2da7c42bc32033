-- Borders that relative lengths give, and their steps.
use mathlib.Core.Path.{◌≡◌, refl, sym, ap, ◌∙◌}
use mathlib.Core.List.{List}
use Prim.Native.Nat.{ℕ, zero, suc, ◌+◌, ◌-◌, ◌≤◌, ◌<◌}
use native.Mathlib.Nat.{add-zero, zero-add, add-suc, suc-add}
use native.Mathlib.Decide.{ℕ_discrete, dec_le}
use native.Mathlib.Omega.{arith}
use native.Mathlib.Numerals.{add-one}
use borrow.Author.Tests.{le-leb, lt-leb, eq-eqb, ne_eqb}
use lib.ListN.{length, get_or, replicate, get_or-eq_default}
use lib.Seq.{ext_get_or}
use Rattle.sbr_grid.specs.declared.FrameClass.{FrameClass}
use Rattle.sbr_grid.specs.declared.FrameClass.TheVariants.{FixFix, FixVar, VarFix, VarVar}
use Rattle.sbr_grid.specs.declared.SbrGrid.{SbrGrid}
use Rattle.sbr_grid.specs.Grid.{by_class, first, Grid, num_env_of, view_of}
use Rattle.sbr_grid.proofs.Laws.{lengths}
use Rattle.sbr_grid.proofs.First.{first-length, first-get_or}
use Rattle.sbr_time_grid.specs.TimeGrid.{nint, slots, abs_bord_lead, abs_bord_trail, n_rel_lead, n_rel_trail, rel_bord_lead, rel_bord_trail, slot_sum, list_from, t_e_of}
use Rattle.sbr_time_grid.proofs.Laws.{trail_used}

-- the border after the first l lengths, and the one before the last le - l
abbrev pub lead_at : ℕ → Grid → ℕ → ℕ
lead_at n g l = abs_bord_lead g + slot_sum (rel_bord_lead n g) l

abbrev pub trail_at : ℕ → Grid → ℕ → ℕ → ℕ
trail_at n g le l = abs_bord_trail n g - slot_sum (rel_bord_trail g) (le - l)

-- a sum of nothing
pub sum_none : (f : ℕ → ℕ) → slot_sum f 0 ≡ 0
unfolding slot_sum
sum_none f = refl

-- a sum of one more
pub sum_more : (f : ℕ → ℕ) (k : ℕ) → slot_sum f (k + 1) ≡ slot_sum f k + f k
unfolding slot_sum
sum_more f k = rw add-one

-- the first border
pub lead_first : (f : ℕ → ℕ) (a : ℕ) → a ≡ a + slot_sum f 0
lead_first f a = omega (arith, sum_none f)

-- one leading length further
pub lead_next : (f : ℕ → ℕ) (a l b r : ℕ) → b ≡ a + slot_sum f l → r ≡ f l → b + r ≡ a + slot_sum f (l + 1)
lead_next f a l b r e h = omega (arith, sum_more f l)

-- sums of the same lengths
pub sum_same : (f g : ℕ → ℕ) (k : ℕ) → ((i : ℕ) → i < k → f i ≡ g i) → slot_sum f k ≡ slot_sum g k
unfolding slot_sum
sum_same f g zero h = refl
sum_same f g (suc k) h = rw (sum_same f g k (λ i l. h i (omega arith)), h k (omega arith))

-- the next law, by the class
lead_by : (k : FrameClass) (s m l num : ℕ) (rel : List ℕ) → l < by_class k m 0 num num
    → by_class k s 0 (slots (get_or rel l 0)) (slots (get_or rel l 0)) ≡ by_class k s 0 (slots (get_or (first 0 num rel) l 0)) (slots (get_or (first 0 num rel) l 0))
lead_by FixFix s m l num rel h = refl
lead_by FixVar s m l num rel h = refl
lead_by VarFix s m l num rel h = rw (first-get_or 0 num l rel h)
lead_by VarVar s m l num rel h = rw (first-get_or 0 num l rel h)

-- the slots of a leading length, read off those in use of the record
pub lead_read : (g : SbrGrid) (n l k : ℕ) (rel : List ℕ) → k ≡ n_rel_lead (view_of g) → rel ≡ first 0 k g.rel_bord_0 → l < k
    → let raw = get_or rel l 0 in by_class g.frame_class (nint n g.num_env) 0 (slots raw) (slots raw) ≡ rel_bord_lead n (view_of g) l
unfolding rel_bord_lead n_rel_lead
lead_read g n l k rel e r h =
    rw (r, first-get_or 0 k l g.rel_bord_0 h, (lengths g).env)
    (lead_by g.frame_class _ (g.num_env - 1) l g.num_rel_0 g.rel_bord_0 (rw ((lengths g).env, (lengths g).rel0) at (rw e at h)))

-- and of a trailing one
pub trail_read : (g : SbrGrid) (l k : ℕ) (rel : List ℕ) → k ≡ n_rel_trail (view_of g) → rel ≡ first 0 k g.rel_bord_1 → l < k
    → slots (get_or rel l 0) ≡ rel_bord_trail (view_of g) l
trail_read g l k rel e r h =
    rw (r, first-get_or 0 k l g.rel_bord_1 h, first-get_or 0 g.num_rel_1 l g.rel_bord_1 (omega (arith, trail_used (view_of g), lengths g)))

-- the last border
pub trail_first : (f : ℕ → ℕ) (a : ℕ) → a ≡ a - slot_sum f 0
trail_first f a = omega (arith, sum_none f)

-- one trailing length further back
pub trail_next : (f : ℕ → ℕ) (a l b r s : ℕ) → b ≡ a - slot_sum f l → r ≡ f l → s ≡ b - r → s ≡ a - slot_sum f (l + 1)
trail_next f a l b r s e h k = omega (arith, sum_more f l)

-- the border that is k trailing lengths before the last
pub trail_at_lem : (f : ℕ → ℕ) (a le k l b : ℕ) → le - l ≡ k → b ≡ a - slot_sum f k → b ≡ a - slot_sum f (le - l)
trail_at_lem f a le k l b e h = rw e h

-- a border up to the last leading length
pub border_lead : (n : ℕ) (g : Grid) (l : ℕ) → n_rel_lead g < num_env_of g → l ≤ n_rel_lead g → t_e_of n g l ≡ lead_at n g l
unfolding t_e_of
border_lead n g zero a h = lead_first _ _
border_lead n g (suc l) a h =
    rw (ne_eqb (suc l) 0 (omega arith), ne_eqb (suc l) (num_env_of g) (omega arith), le-leb (suc l) (n_rel_lead g) h)

-- the next law, by whether the border is the last
past : (n : ℕ) (g : Grid) (l : ℕ) → n_rel_lead g < l → l ≤ num_env_of g → Dec (l ≡ num_env_of g) → t_e_of n g l ≡ trail_at n g (num_env_of g) l
unfolding t_e_of
past n g l a h (yes e) =
    rw (ne_eqb l 0 (omega arith), eq-eqb l (num_env_of g) e) (trail_at_lem _ _ (num_env_of g) 0 l _ (omega arith) (trail_first _ _))
past n g l a h (no e) = rw (ne_eqb l 0 (omega arith), ne_eqb l (num_env_of g) e, lt-leb l (n_rel_lead g) a)

-- a border past the last leading length
pub border_trail : (n : ℕ) (g : Grid) (l : ℕ) → n_rel_lead g < l → l ≤ num_env_of g → t_e_of n g l ≡ trail_at n g (num_env_of g) l
border_trail n g l a h = past n g l a h (ℕ_discrete l (num_env_of g))

-- a list of k values has k
pub length-list_from : (f : ℕ → ℕ) (i k : ℕ) → length (list_from f i k) ≡ k
unfolding list_from
length-list_from f i zero = refl
length-list_from f i (suc k) = ap suc (length-list_from f (suc i) k)

-- the value at j is that of the start and j more
pub get_or-list_from : (f : ℕ → ℕ) (i k j : ℕ) → j < k → get_or (list_from f i k) j 0 ≡ f (i + j)
unfolding list_from
get_or-list_from f i zero j h = absurd (omega arith)
get_or-list_from f i (suc k) zero h = rw add-zero
get_or-list_from f i (suc k) (suc j) h = rw (get_or-list_from f (suc i) k j (omega arith), suc-add, add-suc)

-- in the array of k + 1 borders each is in its place
pub at_border : (f : ℕ → ℕ) (m k j : ℕ) → j < m → j ≤ k → get_or (first 0 m (list_from f 0 (k + 1))) j 0 ≡ f j
at_border f m k j h l = rw (first-get_or 0 m j (list_from f 0 (k + 1)) h, get_or-list_from f 0 (k + 1) j (omega arith), zero-add)

-- past the last border the array has 0
pub past_borders : (f : ℕ → ℕ) (m k j : ℕ) → j < m → k < j → get_or (first 0 m (list_from f 0 (k + 1))) j 0 ≡ 0
past_borders f m k j h l =
    first-get_or 0 m j (list_from f 0 (k + 1)) h ∙ get_or-eq_default (list_from f 0 (k + 1)) 0 {n = j} (omega (arith, length-list_from f 0 (k + 1)))

-- an array of zeros has 0 at every place
pub zeros_at : (m j : ℕ) → ◌≡◌ {A = ℕ} (get_or (replicate m 0) j 0) 0
zeros_at zero j = refl
zeros_at (suc m) zero = refl
zeros_at (suc m) (suc j) = zeros_at m j

module _ (n : ℕ) (g : Grid) (le m : ℕ) (t : List ℕ) (e : num_env_of g ≡ le) (few : n_rel_lead g < le)
    (lead : (j : ℕ) → j ≤ n_rel_lead g → get_or t j 0 ≡ lead_at n g j)
    (trail : (j : ℕ) → n_rel_lead g < j → j ≤ le → get_or t j 0 ≡ trail_at n g le j)
    (rest : (j : ℕ) → le < j → get_or t j 0 ≡ 0) where
  place : (j : ℕ) → j < m → Dec (j ≤ le) → Dec (j ≤ n_rel_lead g) → get_or t j 0 ≡ get_or (first 0 m (list_from (t_e_of n g) 0 (le + 1))) j 0
  place j h (yes a) (yes b) = lead j b ∙ sym (at_border (t_e_of n g) m le j h a ∙ border_lead n g j (omega arith) b)
  place j h (yes a) (no b) =
      trail j (omega arith) a ∙ sym (at_border (t_e_of n g) m le j h a ∙ rw e at (border_trail n g j (omega arith) (omega arith)))
  place j h (no a) d = rest j (omega arith) ∙ sym (past_borders (t_e_of n g) m le j h (omega arith))

  -- a list with the leading borders, the trailing borders and zeros is the array of the borders
  pub all_borders : length t ≡ m → t ≡ first 0 m (list_from (t_e_of n g) 0 (le + 1))
  all_borders l =
      ext_get_or 0 t _ (l ∙ sym (first-length 0 m (list_from (t_e_of n g) 0 (le + 1))))
      (λ j h. place j (omega arith) (dec_le j le) (dec_le j (n_rel_lead g)))
