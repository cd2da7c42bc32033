-- The two lists of wanted borders that a frame's onsets give.
use mathlib.Core.Path.{◌≡◌, refl, sym, ap, ◌∙◌}
use mathlib.Core.Bool.{Bool, false, cond}
use mathlib.Core.List.{List, [], ◌∷◌, map}
use Prim.Native.Nat.{ℕ, zero, suc, ◌+◌, ◌≤◌, ◌<◌}
use native.Mathlib.Numerals.{add-one}
use native.Mathlib.Omega.{arith}
use borrow.Author.Tests.{le-ltb, ltb-false}
use lib.ListN.{length, get_or, get_or-map}
use Rattle.std.specs.Prelude.{Option, Some, None}
use Rattle.sbr_grid.specs.Grid.{first}
use Rattle.sbr_grid.proofs.First.{first-length, first-get_or, first_map, first_back, first_take, first_taken}
use Rattle.sbr_borders.specs.declared.WantedBorder.{WantedBorder}
use Rattle.sbr_borders.specs.Borders.{onset_at}
use Rattle.sbr_borders.specs.Frames.{InFrame}
use Rattle.sbr_build.specs.declared.Onsets.{Onsets}
use Rattle.sbr_build.specs.Cases.{OnsetsFrom, Case, onset_list}
use Rattle.sbr_search.specs.Search.{Best, beats, search, bare, isolated, planned, plain_wins, multi_onset_grid}
use Rattle.sbr_search.proofs.Bounds.{bounds}

-- the border two slots after an onset
abbrev pub isolating : ℕ → WantedBorder
isolating s = record { slot = s + 2; onset = false }

-- the borders of at most three onsets
pub bare_is : (n : ℕ) (xs : List ℕ) → n ≤ 3 → first (onset_at 0) n (map onset_at (first 0 4 (first 0 n xs))) ≡ bare (first 0 n xs)
bare_is n xs h =
    sym (first_map onset_at 0 n (first 0 4 (first 0 n xs))) ∙ ap (map onset_at) (first_back 0 4 n (first 0 n xs) (first-length 0 n xs) (omega arith))

-- two places of a list
two_of : (xs : List ℕ) → get_or xs 0 0 ∷ get_or xs 1 0 ∷ [] ≡ first 0 2 xs
two_of [] = refl
two_of (x ∷ []) = refl
two_of (x ∷ y ∷ xs) = refl

-- the borders of at most two onsets, in two places
bare_two : (n : ℕ) (xs : List ℕ) → n ≤ 2 → first (onset_at 0) n (onset_at (get_or xs 0 0) ∷ onset_at (get_or xs 1 0) ∷ []) ≡ bare (first 0 n xs)
bare_two n xs h =
    ap (λ t. first (onset_at 0) n (map onset_at t)) (two_of xs)
    ∙ sym (first_map onset_at 0 n (first 0 2 xs))
    ∙ ap (map onset_at) (sym (first_take 0 n (first 0 2 xs) (rw (first-length 0 2 xs) h)) ∙ first_taken 0 n 2 xs h)

-- the borders of one to three onsets with the isolating border
pub isolated_is : (n : ℕ) (xs : List ℕ) → 1 ≤ n → n ≤ 3
    → first (onset_at 0) (n + 1) (onset_at (get_or xs 0 0) ∷ isolating (get_or xs 0 0) ∷ onset_at (get_or xs 1 0) ∷ onset_at (get_or xs 2 0) ∷ [])
    ≡ isolated (first 0 n xs)
isolated_is zero xs h k = absurd (omega arith)
isolated_is (suc n) [] h k = rw add-one (ap {B = List _} (λ t. onset_at 0 ∷ isolating 0 ∷ t) (bare_two n [] (omega arith)))
isolated_is (suc n) (x ∷ xs) h k = rw add-one (ap {B = List _} (λ t. onset_at x ∷ isolating x ∷ t) (bare_two n xs (omega arith)))

-- ---- the borders of a case are in the frame

-- each onset is in a slot from lo on and before n
onset_in : (k lo n : ℕ) (os : List ℕ) (i : ℕ) → OnsetsFrom k lo n os → i < length os → (lo ≤ get_or os i 0) × (get_or os i 0 < n)
onset_in k lo n [] i h l = absurd (omega arith)
onset_in zero lo n (s ∷ os) i h l = absurd h
onset_in (suc k) lo n (s ∷ os) zero h l = (h.0, h.1)
onset_in (suc k) lo n (s ∷ os) (suc i) h l = let r = onset_in k (s + 4) n os i h.2 (omega arith) in (omega (arith, h.0), r.1)

-- a border in a slot from 1 to 32
abbrev Inside : WantedBorder → Type 0
Inside b = (1 ≤ b.slot) × (b.slot ≤ 32)

-- wanted borders with such a list are in the frame
in_frame : (n : ℕ) (bs ws : List WantedBorder) → first (onset_at 0) n bs ≡ ws → n ≤ 4
    → ((i : ℕ) → i < n → Inside (get_or ws i (onset_at 0))) → InFrame n bs
in_frame n bs ws e h f =
    let at : (i : ℕ) → i < n → Inside (get_or bs i (onset_at 0)) =
    λ i l. rw (← first-get_or (onset_at 0) n i bs l, e) (f i l) in
    record { few = h; from = λ i l. (at i l).0; by = λ i l. (at i l).1 }

-- the onsets are in such slots
bare-inside : (n : ℕ) (os : List ℕ) (k lo i : ℕ) → 1 ≤ lo → n ≤ 16 → OnsetsFrom k lo n os → i < length os → Inside (get_or (bare os) i (onset_at 0))
bare-inside n os k lo i g m h l = let r = onset_in k lo n os i h l in rw (get_or-map onset_at os i 0) (omega arith)

-- the isolating border is too
isolated-inside : (n : ℕ) (os : List ℕ) (i : ℕ) → n ≤ 16 → OnsetsFrom 3 4 n os → i < length os + 1 → 1 ≤ length os → Inside (get_or (isolated os) i (onset_at 0))
isolated-inside n [] i m h l p = absurd (omega arith)
isolated-inside n (s ∷ os) zero m h l p = omega (arith, h.0, h.1)
isolated-inside n (s ∷ os) (suc zero) m h l p = omega (arith, h.0, h.1)
isolated-inside n (s ∷ os) (suc (suc i)) m h l p = bare-inside n os 2 (s + 4) i (omega arith) m h.2 (omega arith)

-- the onsets as wanted borders are in the frame
pub bare_framed : {n lead : ℕ} (o : Onsets) (bs : List WantedBorder) → Case n lead (onset_list o)
    → first (onset_at 0) o.count bs ≡ bare (onset_list o) → InFrame o.count bs
bare_framed {n} {lead} o bs c e =
    let f = bounds n lead o c in
    let l = first-length 0 o.count o.slot in
    in_frame o.count bs (bare (onset_list o)) e (omega arith) (λ i j. bare-inside n (onset_list o) 3 4 i (omega arith) f.frame.most c.onsets (omega arith))

-- the same with the isolating border
pub isolated_framed : {n lead : ℕ} (o : Onsets) (bs : List WantedBorder) → Case n lead (onset_list o) → 1 ≤ o.count
    → first (onset_at 0) (o.count + 1) bs ≡ isolated (onset_list o) → InFrame (o.count + 1) bs
isolated_framed {n} {lead} o bs c h e =
    let f = bounds n lead o c in
    let l = first-length 0 o.count o.slot in
    in_frame (o.count + 1) bs (isolated (onset_list o)) e (omega arith)
    (λ i j. isolated-inside n (onset_list o) i f.frame.most c.onsets (omega arith) (omega arith))

-- ---- the choice between the two searches

-- no plain plan wins over one that costs no more than the isolating border is worth
pub plain_loses : (i p : Option Best) → beats 2 i ≡ false → plain_wins i p ≡ false
plain_loses None p e = let z : ◌≡◌ {A = ℕ} 0 1 = cc in absurd (omega arith)
plain_loses (Some i) None e = refl
plain_loses (Some i) (Some p) e = le-ltb (p.total + 2) i.total (omega (arith, ltb-false 2 i.total e))

-- the grid of the search that wins
pub multi_by : (n lead k : ℕ) (xs : List ℕ) (i p : Option Best) (b : Bool) → 1 ≤ k → i ≡ search n lead (isolated (first 0 k xs))
    → p ≡ search n lead (bare (first 0 k xs)) → plain_wins i p ≡ b
    → cond b (planned n lead (bare (first 0 k xs)) p) (planned n lead (isolated (first 0 k xs)) i) ≡ multi_onset_grid (first 0 k xs) lead n
unfolding multi_onset_grid
multi_by n lead zero xs i p b h e f g = absurd (omega arith)
multi_by n lead (suc k) [] i p b h e f g = rw (← e, ← f, g)
multi_by n lead (suc k) (x ∷ xs) i p b h e f g = rw (← e, ← f, g)

-- the same by the borders of the two kinds
pub chosen : (n lead : ℕ) (o : Onsets) (us ws : List WantedBorder) (i p : Option Best) (b : Bool) → 1 ≤ o.count → us ≡ isolated (onset_list o)
    → ws ≡ bare (onset_list o) → i ≡ search n lead us → p ≡ search n lead ws → plain_wins i p ≡ b
    → cond b (planned n lead ws p) (planned n lead us i) ≡ multi_onset_grid (onset_list o) lead n
chosen n lead o us ws i p b h e f g k l = rw (f, e) (multi_by n lead o.count o.slot i p b h (rw e at g) (rw f at k) l)

-- a plan that costs no more than the isolating border is worth wins whatever the plain one costs
pub alone : (n lead : ℕ) (o : Onsets) (us : List WantedBorder) (i : Option Best) → 1 ≤ o.count → us ≡ isolated (onset_list o) → i ≡ search n lead us
    → beats 2 i ≡ false → planned n lead us i ≡ multi_onset_grid (onset_list o) lead n
alone n lead o us i h e g k =
    let p = search n lead (bare (onset_list o)) in
    chosen n lead o us (bare (onset_list o)) i p false h e refl g refl (plain_loses i p k)
