-- The ways out of `derive_time_grid`.
use Rattle.std.specs.Prelude.{Ok, nat_lt}
use Rattle.std.specs.List.{list_all, zip}
use mathlib.Core.Path.{◌≡◌, ap, ◌∙◌}
use mathlib.Core.Bool.{Bool, true, cond, ◌&&◌, and-eq-true_iff}
use mathlib.Core.List.{List, [], ◌∷◌}
use Prim.Native.Nat.{ℕ, ◌+◌, ◌-◌, ◌≤◌}
use native.Mathlib.Decide.{dec_le}
use native.Mathlib.Nat.{zero-add}
use native.Mathlib.Omega.{arith}
use borrow.Author.Tests.{le-leb, lt-leb, eqb-true}
use lib.Dec.{leb}
use lib.IntN.{ℤ}
use lib.ListN.{length, get_or, take, drop}
use Rattle.sbr_grid.specs.declared.TimeGrid.{TimeGrid}
use Rattle.sbr_grid.specs.Refusals.{Outcome, result_map}
use Rattle.sbr_grid.specs.declared.SbrGrid.{SbrGrid}
use Rattle.sbr_grid.specs.Grid.{first, Grid, num_env_of, view_of}
use Rattle.sbr_grid.specs.Times.{is_slot_count, time_record}
use Rattle.sbr_grid.proofs.First.{first-length, first_take, first_back}
use Rattle.sbr_time_grid.specs.TimeGrid.{rises, counts_fit, borders_fit, noise_fits, middle_border, list_from, t_e_of, t_q_of, l_a_of, accepts, time_grid}
use Rattle.sbr_time_grid.proofs.Borders.{length-list_from, get_or-list_from, at_border}
use Rattle.sbr_grid.proofs.Laws.{lengths}
use Rattle.sbr_time_grid.proofs.Laws.{fit}
use Rattle.sbr_time_grid.proofs.Rises.{rises-same, rises_all}
use Rattle.sbr_time_grid.proofs.Marks.{noise_meet}

-- the test of the borders in their places
rises_borders : (f : ℕ → ℕ) (k : ℕ) (t : List ℕ) → k ≤ 5 → t ≡ first 0 6 (list_from f 0 (k + 1))
    → let used = take (k + 1) t in list_all (λ p. nat_lt p.0 p.1) (zip used (drop 1 used)) ≡ rises f k
rises_borders f k t h e =
    let x = list_from f 0 (k + 1) in
    let n : length x ≡ k + 1 = length-list_from f 0 (k + 1) in
    let p : take (k + 1) t ≡ x = rw e (first_take 0 (k + 1) (first 0 6 x) (omega (arith, first-length 0 6 x)) ∙ first_back 0 6 (k + 1) x n (omega arith)) in
    let q : length x - 1 ≡ k = omega arith in
    rw p (rises_all x ∙ rw q (rises-same (λ l. get_or x l 0) f k (λ j l. get_or-list_from f 0 (k + 1) j (omega arith) ∙ ap f (zero-add j))))

-- the same of a record that has passed the first tests
pub rises-is : (n : ℕ) (g : SbrGrid) (t : List ℕ) (r : Bool) → (counts_fit (view_of g) && borders_fit (view_of g)) ≡ true
    → t ≡ first 0 6 (list_from (t_e_of n (view_of g)) 0 (g.num_env + 1))
    → (let used = take (g.num_env + 1) t in r ≡ list_all (λ p. nat_lt p.0 p.1) (zip used (drop 1 used)))
    → r ≡ rises (t_e_of n (view_of g)) (num_env_of (view_of g))
rises-is n g t r h e k =
    let p = simp and-eq-true_iff at h in
    rw (lengths g).env (k ∙ rises_borders (t_e_of n (view_of g)) g.num_env t (fit g p.0).few e)

module _ (n : ℕ) (g : Grid) (le : ℕ) (e : num_env_of g ≡ le) (few : le ≤ 5) (fits : noise_fits g ≡ true) where
  -- the noise borders among the envelope borders
  noise-by : (t : List ℕ) → ((j : ℕ) → j ≤ le → get_or t j 0 ≡ t_e_of n g j) → Dec (le ≤ 1)
      → cond (leb le 1) (get_or t 0 0 ∷ get_or t le 0 ∷ []) (get_or t 0 0 ∷ get_or t (middle_border g) 0 ∷ get_or t le 0 ∷ []) ≡ t_q_of n g
  unfolding t_q_of
  noise-by t h (yes a) = rw (e, le-leb le 1 a, h 0 (omega arith), h le (omega arith))
  noise-by t h (no a) =
      let m = noise_meet g fits (omega arith) in
      rw (e, lt-leb le 1 (omega arith), h 0 (omega arith), h (middle_border g) (omega arith), h le (omega arith))

  -- the noise count of a record that passes is that of its noise borders
  count_by : Dec (le ≤ 1) → g.num_noise ≡ length (t_q_of n g) - 1
  unfolding t_q_of noise_fits
  count_by (yes a) = rw (e, le-leb le 1 a) (eqb-true g.num_noise 1 (rw (e, le-leb le 1 a) at fits))
  count_by (no a) =
      let p = simp and-eq-true_iff at (rw (e, lt-leb le 1 (omega arith)) at fits) in
      rw (e, lt-leb le 1 (omega arith)) (eqb-true g.num_noise 2 p.0.0)

  -- every test passes
  pub all_pass : (t u : List ℕ) (z : ℤ) → is_slot_count n ≡ true → accepts n g ≡ true → t ≡ first 0 6 (list_from (t_e_of n g) 0 (le + 1))
      → u ≡ first 0 3 (cond (leb le 1) (get_or t 0 0 ∷ get_or t le 0 ∷ []) (get_or t 0 0 ∷ get_or t (middle_border g) 0 ∷ get_or t le 0 ∷ [])) → z ≡ l_a_of g
      → ◌≡◌ {A = Outcome TimeGrid} (Ok (record { num_env = le; t_e = t; num_noise = g.num_noise; t_q = u; l_a = z })) (result_map time_record (time_grid n g))
  unfolding time_grid
  all_pass t u z s a ht hu hz =
      let noise : u ≡ first 0 3 (t_q_of n g) =
      hu ∙ ap (first 0 3) (noise-by t (λ j l. rw ht (at_border (t_e_of n g) 6 le j (omega arith) l)) (dec_le le 1))
      in
      let count : length (list_from (t_e_of n g) 0 (num_env_of g + 1)) - 1 ≡ le = omega (arith, length-list_from (t_e_of n g) 0 (num_env_of g + 1)) in
      rw (s, a, ht, noise, hz, count, ← count_by (dec_le le 1), e)
