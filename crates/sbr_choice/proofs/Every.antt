-- A test at every admitted case, and what it says of each.
use Rattle.std.specs.Prelude.{Ok, Err}
use mathlib.Core.Path.{◌≡◌, refl, subst}
use Prim.Native.Nat.{ℕ, zero, suc, ◌+◌, ◌-◌, ◌≤◌, ◌<◌}
use native.Mathlib.Nat.{eq-or-lt_of_le}
use native.Mathlib.Omega.{arith}
use mathlib.Core.Bool.{Bool, true, false, not, ◌&&◌}
use mathlib.Core.List.{List, [], ◌∷◌}
use mathlib.Core.Logic.{inl, inr}
use lib.Dec.{T, leb, eqb, leb→le, eqb→eq, T_not}
use lib.Ieee.Fits.{and_l, and_r, eq→eqb}
use lib.IntN.{ℤ, pos, negsuc}
use lib.ListN.{get_or}
use Rattle.sbr_grid.specs.Refusals.{Outcome}
use Rattle.sbr_grid.specs.Grid.{Grid, num_env_of}
use Rattle.sbr_grid.specs.Times.{Times}
use Rattle.sbr_time_grid.specs.TimeGrid.{time_grid}
use Rattle.sbr_build.specs.Cases.{OnsetsFrom, Case}
use Rattle.sbr_grid.proofs.Slots.{slot_range}
use Rattle.sbr_choice.specs.Choice.{chosen_grid}
use Rattle.sbr_choice.specs.Chosen.{Sound, ChosenIsSound}
use Rattle.sbr_choice.proofs.Computed.{times_of, chosen_of}

-- a test that holds is true
pub is_true : (b : Bool) → T b → b ≡ true
is_true true t = refl
is_true false t = absurd t

-- f at a, a + 1, .., k of them
abbrev pub all_from : ℕ → ℕ → (ℕ → Bool) → Bool
all_from a zero f = true
all_from a (suc k) f = f a && all_from (suc a) k f

-- f at every list of at most k onsets from lo up to n, each 4 or more after the one before
abbrev pub all_onsets : ℕ → ℕ → ℕ → (List ℕ → Bool) → Bool
all_onsets zero lo n f = f []
all_onsets (suc k) lo n f = f [] && all_from lo (n - lo) (λ s. all_onsets k (s + 4) n (λ os. f (s ∷ os)))

abbrev four : (Bool → Bool → Bool) → Bool
four f = f true true && f true false && f false true && f false false

-- f at every slot count, lead and list of onsets
abbrev pub all_frames : (ℕ → ℕ → List ℕ → Bool) → Bool
all_frames f = all_from 15 2 (λ n. all_from 0 4 (λ lead. all_onsets 3 4 n (λ os. f n lead os)))

-- f at these, and at both values of the switch and of the evenness
abbrev pub all_cases : (Bool → Bool → ℕ → ℕ → List ℕ → Bool) → Bool
all_cases f = all_frames (λ n lead os. four (λ v e. f v e n lead os))

-- ---- from the test to each case

pub at_from : (f : ℕ → Bool) (k a : ℕ) → T (all_from a k f) → (s : ℕ) → a ≤ s → s < a + k → T (f s)
at_from f zero a t s l u = absurd (omega arith)
at_from f (suc k) a t s l u =
    elim (eq-or-lt_of_le l) [
      | inl e ↦ subst (λ (x : ℕ). T (f x)) e (and_l (f a) (all_from (suc a) k f) t)
      | inr h ↦ at_from f k (suc a) (and_r (f a) (all_from (suc a) k f) t) s h (omega arith)
    ]

pub at_onsets : (k lo n : ℕ) (f : List ℕ → Bool) → T (all_onsets k lo n f) → (os : List ℕ) → OnsetsFrom k lo n os → T (f os)
at_onsets zero lo n f t [] h = t
at_onsets zero lo n f t (s ∷ os) h = absurd h
at_onsets (suc k) lo n f t [] h = and_l (f []) (all_from lo (n - lo) (λ s. all_onsets k (s + 4) n (λ os. f (s ∷ os)))) t
at_onsets (suc k) lo n f t (s ∷ os) h =
    at_onsets k (s + 4) n (λ os. f (s ∷ os))
    (at_from (λ s. all_onsets k (s + 4) n (λ os. f (s ∷ os))) (n - lo) lo
    (and_r (f []) (all_from lo (n - lo) (λ s. all_onsets k (s + 4) n (λ os. f (s ∷ os)))) t) s h.0 (omega arith))
    os h.2

at_four : (f : Bool → Bool → Bool) → T (four f) → (a b : Bool) → T (f a b)
at_four f t true true = and_l (f true true) (f true false) (and_l (f true true && f true false) (f false true) (and_l (f true true && f true false && f false true) (f false false) t))
at_four f t true false = and_r (f true true) (f true false) (and_l (f true true && f true false) (f false true) (and_l (f true true && f true false && f false true) (f false false) t))
at_four f t false true = and_r (f true true && f true false) (f false true) (and_l (f true true && f true false && f false true) (f false false) t)
at_four f t false false = and_r (f true true && f true false && f false true) (f false false) t

pub at_frame : (f : ℕ → ℕ → List ℕ → Bool) → T (all_frames f) → (n lead : ℕ) (os : List ℕ) → Case n lead os → T (f n lead os)
at_frame f t n lead os c =
    let r = slot_range n c.slots in
    at_onsets 3 4 n (λ os. f n lead os)
    (at_from (λ lead. all_onsets 3 4 n (λ os. f n lead os)) 4 0
    (at_from (λ n. all_from 0 4 (λ lead. all_onsets 3 4 n (λ os. f n lead os))) 2 15 t n r.0 (omega (arith, r.1)))
    lead (omega arith) (omega (arith, c.clamped))) os c.onsets

pub at_case : (f : Bool → Bool → ℕ → ℕ → List ℕ → Bool) → T (all_cases f) → (v e : Bool) (n lead : ℕ) (os : List ℕ) → Case n lead os → T (f v e n lead os)
at_case f t v e n lead os c =
    at_four (λ v e. f v e n lead os) (at_frame (λ n lead os. four (λ v e. f v e n lead os)) t n lead os c) v e

-- ---- every chosen grid

-- a mark that is not the number l
unlike : ℤ → ℕ → Bool
unlike (pos k) l = not (eqb k l)
unlike (negsuc k) l = true

fits : ℕ → ℕ → ℕ → Outcome Times → Bool
unfolding unlike
fits n lead l (Err e) = false
fits n lead l (Ok t) =
    eqb (get_or t.t_e 0 0) lead && leb n (get_or t.t_e l 0) && leb (get_or t.t_e l 0) (n + 3) && unlike t.l_a l

good : Bool → Bool → ℕ → ℕ → List ℕ → Bool
unfolding fits times_of chosen_of
good variable even n lead os = let g = chosen_of variable even os lead n in fits n lead (num_env_of g) (times_of n g)

all_good : T (all_cases good)
unfolding good
all_good = tt

four_of : (a b c d : Bool) → T (a && b && c && d) → T a × T b × T c × T d
four_of true true true d t = (tt, tt, tt, t)
four_of true true false d t = absurd t
four_of true false c d t = absurd t
four_of false b c d t = absurd t

differs : (m : ℤ) (l : ℕ) → T (unlike m l) → m ≡ pos l → ⊥
unfolding unlike
differs (pos k) l t e = let h : k ≡ l = cc in T_not (eqb k l) t (eq→eqb h)
differs (negsuc k) l t e = let z : ◌≡◌ {A = ℕ} 0 1 = cc in absurd (omega arith)

sound : (n lead : ℕ) (g : Grid) (o : Outcome Times) → time_grid n g ≡ o → T (fits n lead (num_env_of g) o) → Sound n lead g
unfolding fits
sound n lead g (Err e) q t = absurd t
sound n lead g (Ok tm) q t =
    let l = get_or tm.t_e (num_env_of g) 0 in
    let p = four_of (eqb (get_or tm.t_e 0 0) lead) (leb n l) (leb l (n + 3)) (unlike tm.l_a (num_env_of g)) t in
    record { time = tm; derived = q; starts = eqb→eq _ _ p.0; ends_from = leb→le _ _ p.1; ends_by = leb→le _ _ p.2; unlike = differs tm.l_a (num_env_of g) p.3 }

pub chosen_is_sound : ChosenIsSound
unfolding good
chosen_is_sound variable even n lead os c =
    let g = chosen_grid variable even os lead n in
    sound n lead g (time_grid n g) refl (at_case good all_good variable even n lead os c)
