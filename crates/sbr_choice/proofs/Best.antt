-- The search answers the plan that comes first among all plans, and none exactly where there is no plan.
use Rattle.std.specs.Prelude.{Ok, Err, Option, Some, None}
use Rattle.std.proofs.lemmas.Float.{T_from_true}
use mathlib.Core.Path.{◌≡◌, refl}
use Prim.Native.Nat.{ℕ, suc, ◌+◌, ◌-◌, ◌≤◌}
use native.Mathlib.Omega.{arith}
use mathlib.Core.Bool.{Bool, true, false, cond, ◌&&◌}
use mathlib.Core.List.{List, [], ◌∷◌}
use lib.Dec.{T, leb, ltb, eqb, leb→le, le→leb, eqb→eq}
use lib.ListN.{length}
use lib.Ieee.Fits.{and_i, and_l, and_r}
use Rattle.sbr_grid.specs.Refusals.{Outcome}
use Rattle.sbr_grid.specs.Times.{Times}
use Rattle.sbr_time_grid.specs.TimeGrid.{time_grid}
use Rattle.sbr_borders.specs.declared.WantedBorder.{WantedBorder}
use Rattle.sbr_search.specs.Search.{Plan, Best, search, bare, isolated, plan_grid, planned, plain_wins, multi_onset_grid}
use Rattle.sbr_borders.specs.Borders.{shift_count, places, rises_from, last_or, leading_steps, trailing_steps, all_even, reaches}
use Rattle.sbr_choice.specs.Plans.{Shifts, IsPlan, cost, shift_order, rank, Answers, PlansHaveTimes, SearchIsLeast, Neither, NoneExactly}
use Rattle.sbr_choice.proofs.Computed.{times_of, searched, chosen_of}
use Rattle.sbr_choice.proofs.Every.{is_true, all_from, at_from, all_onsets, all_frames, at_frame}

-- ---- the test

abbrev all_shifts : List WantedBorder → (List ℕ → Bool) → Bool
all_shifts [] f = f []
all_shifts (w ∷ ws) f = all_from 0 (shift_count w) (λ i. all_shifts ws (λ is. f (i ∷ is)))

abbrev implies : Bool → Bool → Bool
implies true b = b
implies false b = true

shifts_ok : List WantedBorder → List ℕ → Bool
shifts_ok [] [] = true
shifts_ok [] (i ∷ is) = false
shifts_ok (w ∷ ws) [] = false
shifts_ok (w ∷ ws) (i ∷ is) = ltb i (shift_count w) && shifts_ok ws is

-- f at the plans with shifts is, with what the shifts decide alone computed once for them
abbrev plans_for : ℕ → ℕ → List ℕ → List ℕ → (Plan → Bool) → Bool
plans_for n lead is bs f =
    all_from 0 4 (λ over. implies (ltb (last_or lead bs) (n + over))
    (all_from 0 4 (λ k. implies (reaches lead (n + over) k bs) (f (record { shifts = is; over = over; leading = k })))))

abbrev shifts_for : ℕ → ℕ → List WantedBorder → (Plan → Bool) → List ℕ → Bool
shifts_for n lead ws f is = let bs = places ws is in implies (rises_from lead bs) (plans_for n lead is bs f)

abbrev for_plans : ℕ → ℕ → List WantedBorder → (Plan → Bool) → Bool
for_plans n lead ws f = all_shifts ws (shifts_for n lead ws f)

-- the tests of `IsPlan` and of the cost
plans : ℕ → ℕ → List WantedBorder → Best → Bool
unfolding shifts_ok
plans n lead ws b =
    let p = b.plan in
    let bs = places ws p.shifts in
    shifts_ok ws p.shifts && leb p.over 3 && rises_from lead bs && ltb (last_or lead bs) (n + p.over)
    && reaches lead (n + p.over) p.leading bs && eqb b.total (cost ws p)

has_times : Outcome Times → Bool
has_times (Ok t) = true
has_times (Err e) = false

-- of a plan q beside the best one: it does not come before, and has a time grid
behind : ℕ → ℕ → List WantedBorder → ℕ → Plan → Bool
unfolding has_times times_of chosen_of shift_order
behind n lead ws r q = leb r (rank ws q) && has_times (time_grid n (plan_grid n lead ws q))

least : ℕ → ℕ → List WantedBorder → Option Best → Bool
unfolding plans behind
least n lead ws None = for_plans n lead ws (λ q. false)
least n lead ws (Some b) = plans n lead ws b && for_plans n lead ws (behind n lead ws (rank ws b.plan))

kind : ℕ → ℕ → List WantedBorder → Bool
unfolding least searched
kind n lead ws = least n lead ws (search n lead ws)

both : ℕ → ℕ → List ℕ → Bool
unfolding kind
both n lead os = kind n lead (isolated os) && kind n lead (bare os)

-- one declaration for each slot count and lead keeps the memory low
t15_0 : T (all_onsets 3 4 15 (λ os. both 15 0 os))
unfolding both
t15_0 = tt

t15_1 : T (all_onsets 3 4 15 (λ os. both 15 1 os))
unfolding both
t15_1 = tt

t15_2 : T (all_onsets 3 4 15 (λ os. both 15 2 os))
unfolding both
t15_2 = tt

t15_3 : T (all_onsets 3 4 15 (λ os. both 15 3 os))
unfolding both
t15_3 = tt

t16_0 : T (all_onsets 3 4 16 (λ os. both 16 0 os))
unfolding both
t16_0 = tt

t16_1 : T (all_onsets 3 4 16 (λ os. both 16 1 os))
unfolding both
t16_1 = tt

t16_2 : T (all_onsets 3 4 16 (λ os. both 16 2 os))
unfolding both
t16_2 = tt

t16_3 : T (all_onsets 3 4 16 (λ os. both 16 3 os))
unfolding both
t16_3 = tt

from_four : (g : ℕ → Bool) → T (g 0) → T (g 1) → T (g 2) → T (g 3) → T (all_from 0 4 g)
from_four g a b c d = and_i (g 0) (all_from 1 3 g) a (and_i (g 1) (all_from 2 2 g) b (and_i (g 2) (all_from 3 1 g) c (and_i (g 3) true d tt)))

all_both : T (all_frames both)
all_both =
    let g : ℕ → ℕ → Bool = λ n lead. all_onsets 3 4 n (λ os. both n lead os) in
    and_i (all_from 0 4 (g 15)) (all_from 16 1 (λ n. all_from 0 4 (g n)))
    (from_four (g 15) t15_0 t15_1 t15_2 t15_3)
    (and_i (all_from 0 4 (g 16)) true (from_four (g 16) t16_0 t16_1 t16_2 t16_3) tt)

-- ---- from the test to each plan

at_shifts : (ws : List WantedBorder) (f : List ℕ → Bool) → T (all_shifts ws f) → (is : List ℕ) → Shifts ws is → T (f is)
at_shifts [] f t [] h = t
at_shifts [] f t (i ∷ is) h = absurd h
at_shifts (w ∷ ws) f t [] h = absurd h
at_shifts (w ∷ ws) f t (i ∷ is) h =
    at_shifts ws (λ is. f (i ∷ is)) (at_from (λ i. all_shifts ws (λ is. f (i ∷ is))) (shift_count w) 0 t i (omega arith) (omega (arith, h.0))) is h.1

implied : (a b : Bool) → T (implies a b) → T a → T b
implied true b t u = t
implied false b t u = absurd u

-- at most three leading lengths
sides : (lead t k : ℕ) (bs : List ℕ) → T (reaches lead t k bs) → k ≤ 3
unfolding reaches
sides lead t k bs h =
    let a = leb k 3 in
    let b = leb k (length bs) in
    let c = leb (length bs - k) 3 in
    let d = all_even (leading_steps lead k bs) in
    let e = all_even (trailing_steps t k bs) in
    leb→le k 3 (and_l a b (and_l (a && b) c (and_l (a && b && c) d (and_l (a && b && c && d) e h))))

at_plans : (n lead : ℕ) (ws : List WantedBorder) (f : Plan → Bool) → T (for_plans n lead ws f) → (p : Plan) → IsPlan n lead ws p → T (f p)
at_plans n lead ws f t p h =
    let is = p.shifts in
    let bs = places ws is in
    let r = rises_from lead bs in
    let l = ltb (last_or lead bs) (n + p.over) in
    let e = reaches lead (n + p.over) p.leading bs in
    let he = T_from_true e h.reached in
    implied e (f p) (at_from (λ k. implies (reaches lead (n + p.over) k bs) (f (record { shifts = is; over = p.over; leading = k }))) 4 0
    (implied l _ (at_from (λ over. implies (ltb (last_or lead bs) (n + over)) (all_from 0 4 (λ k. implies (reaches lead (n + over) k bs) (f (record { shifts = is; over = over; leading = k }))))) 4 0
    (implied r (plans_for n lead is bs f) (at_shifts ws (shifts_for n lead ws f) t is h.shifted) (T_from_true r h.rising))
    p.over (omega arith) (omega (arith, h.near))) (le→leb (suc (last_or lead bs)) (n + p.over) h.below))
    p.leading (omega arith) (omega (arith, sides lead (n + p.over) p.leading bs he))) he

shifts_ok_lem : (ws : List WantedBorder) (is : List ℕ) → T (shifts_ok ws is) → Shifts ws is
unfolding shifts_ok
shifts_ok_lem [] [] t = tt
shifts_ok_lem [] (i ∷ is) t = absurd t
shifts_ok_lem (w ∷ ws) [] t = absurd t
shifts_ok_lem (w ∷ ws) (i ∷ is) t = (leb→le (suc i) (shift_count w) (and_l (ltb i (shift_count w)) (shifts_ok ws is) t), shifts_ok_lem ws is (and_r (ltb i (shift_count w)) (shifts_ok ws is) t))

six : (a b c d e f : Bool) → T (a && b && c && d && e && f) → T a × T b × T c × T d × T e × T f
six true true true true true f t = (tt, tt, tt, tt, tt, t)
six true true true true false f t = absurd t
six true true true false e f t = absurd t
six true true false d e f t = absurd t
six true false c d e f t = absurd t
six false b c d e f t = absurd t

-- what the tests of the best plan say
plan_of_lem : (n lead : ℕ) (ws : List WantedBorder) (b : Best) → T (plans n lead ws b) → IsPlan n lead ws b.plan × (b.total ≡ cost ws b.plan)
unfolding plans
plan_of_lem n lead ws b t =
    let p = b.plan in
    let bs = places ws p.shifts in
    let v = six (shifts_ok ws p.shifts) (leb p.over 3) (rises_from lead bs) (ltb (last_or lead bs) (n + p.over)) (reaches lead (n + p.over) p.leading bs) (eqb b.total (cost ws p)) t in (
      record {
        shifted = shifts_ok_lem ws p.shifts v.0;
        near = leb→le p.over 3 v.1;
        rising = is_true _ v.2;
        below = leb→le (suc (last_or lead bs)) (n + p.over) v.3;
        reached = is_true _ v.4;
      },
      eqb→eq _ _ v.5,
    )

timed : (o : Outcome Times) → T (has_times o) → (t : Times) × (o ≡ Ok t)
unfolding has_times
timed (Ok t) h = (t, refl)
timed (Err e) h = absurd h

-- what the test says of one kind of wanted borders
pub record Kind (n lead : ℕ) (ws : List WantedBorder) (o : Option Best) : Type 0 where
  pub answers : Answers n lead ws o
  pub times : PlansHaveTimes n lead ws

kind_of_lem : (n lead : ℕ) (ws : List WantedBorder) (o : Option Best) → T (least n lead ws o) → Kind n lead ws o
unfolding least behind
kind_of_lem n lead ws None t = record { answers = λ q h. at_plans n lead ws (λ q. false) t q h; times = λ q h. absurd (at_plans n lead ws (λ q. false) t q h) }
kind_of_lem n lead ws (Some b) t =
    let f = behind n lead ws (rank ws b.plan) in
    let u = for_plans n lead ws f in
    let p = plan_of_lem n lead ws b (and_l (plans n lead ws b) u t) in
    let each : (q : Plan) → IsPlan n lead ws q → T (f q) = at_plans n lead ws f (and_r (plans n lead ws b) u t) in
    record {
      answers = record {
        plan = p.0;
        total = p.1;
        least = λ q h. leb→le (rank ws b.plan) (rank ws q) (and_l (leb (rank ws b.plan) (rank ws q)) (has_times (time_grid n (plan_grid n lead ws q))) (each q h));
      };
      times = λ q h. timed (time_grid n (plan_grid n lead ws q)) (and_r (leb (rank ws b.plan) (rank ws q)) (has_times (time_grid n (plan_grid n lead ws q))) (each q h));
    }

pub search_is_least : SearchIsLeast
unfolding both kind
search_is_least n lead os c =
    let t = at_frame both all_both n lead os c in
    let i = kind_of_lem n lead (isolated os) (search n lead (isolated os)) (and_l (kind n lead (isolated os)) (kind n lead (bare os)) t) in
    let p = kind_of_lem n lead (bare os) (search n lead (bare os)) (and_r (kind n lead (isolated os)) (kind n lead (bare os)) t) in
    record { isolating = i.answers; plain = p.answers; isolating_times = i.times; plain_times = p.times }

-- ---- none exactly where neither kind has a plan

no_plan : (n lead : ℕ) (ws : List WantedBorder) (o : Option Best) → Answers n lead ws o → ((q : Plan) → IsPlan n lead ws q → ⊥) → o ≡ None
no_plan n lead ws None a h = refl
no_plan n lead ws (Some b) a h = absurd (h b.plan a.plan)

none_from : (n lead : ℕ) (os : List ℕ) (i p : Option Best) → Answers n lead (isolated os) i → Answers n lead (bare os) p
    → cond (plain_wins i p) (planned n lead (bare os) p) (planned n lead (isolated os) i) ≡ None → Neither n lead os
none_from n lead os None None a b e = record { isolating = a; plain = b }
none_from n lead os None (Some p) a b e = let z : ◌≡◌ {A = ℕ} 0 1 = cc in absurd (omega arith)
none_from n lead os (Some i) None a b e = let z : ◌≡◌ {A = ℕ} 0 1 = cc in absurd (omega arith)
none_from n lead os (Some i) (Some p) a b e = wins (ltb (p.total + 2) i.total) e
  where
    wins : (w : Bool) → cond w (planned n lead (bare os) (Some p)) (planned n lead (isolated os) (Some i)) ≡ None → Neither n lead os
    wins true e = let z : ◌≡◌ {A = ℕ} 0 1 = cc in absurd (omega arith)
    wins false e = let z : ◌≡◌ {A = ℕ} 0 1 = cc in absurd (omega arith)

pub none_exactly : NoneExactly
unfolding multi_onset_grid
none_exactly n lead s rest c =
    let os = s ∷ rest in
    let w = search_is_least n lead os c in (
      λ e. none_from n lead os (search n lead (isolated os)) (search n lead (bare os)) w.isolating w.plain e,
      λ h. rw (no_plan n lead (isolated os) (search n lead (isolated os)) w.isolating h.isolating)
          (rw (no_plan n lead (bare os) (search n lead (bare os)) w.plain h.plain) refl),
    )
