-- A frame that was read has few and small numbers.
use Rattle.std.specs.Prelude.{Ok}
use mathlib.Core.Path.{◌≡◌}
use mathlib.Core.Bool.{true, and-eq-true_iff}
use mathlib.Core.List.{List, [], ◌∷◌}
use Prim.Native.Nat.{ℕ, zero, suc, ◌+◌, ◌≤◌, ◌<◌}
use native.Mathlib.Nat.{zero-add}
use native.Mathlib.Omega.{arith}
use native.Mathlib.Decide.{dec_le}
use borrow.Author.Tests.{lt-ltb, le-ltb, le-leb, lt-leb}
use lib.IntN.{ℤ, pos, negsuc, ◌-ℤ◌}
use lib.ListN.{length, get_or, get_or-eq_default}
use lib.Signed.{mag}
use Rattle.sbr_grid.specs.Grid.{Grid, num_env_of}
use Rattle.sbr_grid.specs.Times.{Times}
use Rattle.sbr_time_grid.specs.TimeGrid.{by_pointer, t_e_of, t_q_of, l_a_of, noise_fits, middle_border, list_from, time_grid}
use Rattle.sbr_time_grid.proofs.Laws.{each_class}
use Rattle.sbr_time_grid.proofs.Borders.{length-list_from, get_or-list_from}
use Rattle.sbr_time_grid.proofs.Rises.{rises_gap}
use Rattle.sbr_time_grid.proofs.Marks.{noise_meet}
use Rattle.sbr_grid.proofs.Slots.{slots_few}
use Rattle.sbr_time_grid.proofs.Ends.{time_passes, time_ends}
use Rattle.sbr_reader.specs.declared.Carried.{Carried}
use Rattle.sbr_reader.specs.Read.{Accepted, read_grid}
use Rattle.sbr_reader.proofs.Told.{told_frame}
use Rattle.sbr_writer.proofs.Writable.{fields_told}
use Rattle.sbr_reader.proofs.Frames.{frame_writes}
use Rattle.sbr_list.specs.Line.{Small, ShortTimes, Short}

-- the numbers of a list that are below a bound at each place
listed : (f : ℕ → ℕ) (n m k : ℕ) → ((l : ℕ) → l < n → f l < m) → 0 < m → Dec (suc k ≤ n) → get_or (list_from f 0 n) k 0 < m
listed f n m k h p (yes a) = rw (get_or-list_from f 0 n k a, zero-add k) (h k a)
listed f n m k h p (no a) = rw (get_or-eq_default (list_from f 0 n) 0 {n = k} (omega (arith, length-list_from f 0 n))) p

small_two : (a b : ℕ) → a < 100 → b < 100 → Small (a ∷ b ∷ [])
small_two a b h k zero = h
small_two a b h k (suc zero) = k
small_two a b h k (suc (suc j)) = omega arith

small_three : (a b c : ℕ) → a < 100 → b < 100 → c < 100 → Small (a ∷ b ∷ c ∷ [])
small_three a b c h k l zero = h
small_three a b c h k l (suc j) = small_two b c k l j

-- the difference of two small numbers
mag_sub : (a b : ℕ) → a < 50 → b < 50 → mag (pos a -ℤ pos b) < 100
mag_sub a zero h k = omega arith
mag_sub a (suc b) h k = go (dec_le (suc a) (suc b))
  where
    go : Dec (suc a ≤ suc b) → mag (pos a -ℤ pos (suc b)) < 100
    go (yes l) = rw (lt-ltb a (suc b) l) (omega arith)
    go (no l) = rw (le-ltb a (suc b) (omega arith)) (omega arith)

each_pointer : {A : Type 0} (P : A → Type 0) (p : ℕ) (a b c : A) → P a → P b → P c → P (by_pointer p a b c)
each_pointer P zero a b c x y z = x
each_pointer P (suc zero) a b c x y z = y
each_pointer P (suc (suc p)) a b c x y z = z

-- the mark of a record whose pointer is at most its envelope count
mark_small : (g : Grid) → num_env_of g ≤ 5 → g.pointer ≤ num_env_of g → mag (l_a_of g) < 100
unfolding l_a_of
mark_small g h k =
    let Q : ℤ → Type 0 = λ z. mag z < 100 in
    let none : mag (negsuc 0) < 100 = omega arith in
    let at : mag (pos (num_env_of g + 1) -ℤ pos g.pointer) < 100 = mag_sub (num_env_of g + 1) g.pointer (omega arith) (omega arith) in
    each_class Q g.frame_class _ _ _ _ none (each_pointer Q g.pointer _ _ _ none at at)
    (each_pointer Q g.pointer _ _ _ none none (omega arith)) (each_pointer Q g.pointer _ _ _ none at at)

-- the time grid of a record that passes the tests, with a pointer of at most its envelope count
module _ (n : ℕ) (g : Grid) (t : Times) (e : time_grid n g ≡ Ok t) (h : g.pointer ≤ num_env_of g) where
  border-few : (l : ℕ) → l < num_env_of g + 1 → t_e_of n g l < 100
  border-few l k =
      let p = time_passes n g t e in
      let q = simp and-eq-true_iff at p.tests in
      let m = rw (p.value, get_or-list_from (t_e_of n g) 0 (num_env_of g + 1) (num_env_of g) (omega arith), zero-add) at (time_ends n g t e).end in
      omega (arith, rises_gap (t_e_of n g) (num_env_of g) l (num_env_of g) q.0.1 (omega arith) (omega arith), slots_few n p.slots)

  -- at most three noise borders, and at least one
  noise_few : noise_fits g ≡ true → Dec (num_env_of g ≤ 1) → (0 < length (t_q_of n g)) × (length (t_q_of n g) ≤ 3) × Small (t_q_of n g)
  unfolding t_q_of
  noise_few f (yes a) =
      rw (le-leb (num_env_of g) 1 a) (omega arith, omega arith, small_two _ _ (border-few 0 (omega arith)) (border-few (num_env_of g) (omega arith)))
  noise_few f (no a) =
      let m = noise_meet g f (omega arith) in
      rw (lt-leb (num_env_of g) 1 (omega arith)) (
        omega arith,
        omega arith,
        small_three _ _ _ (border-few 0 (omega arith)) (border-few (middle_border g) (omega arith)) (border-few (num_env_of g) (omega arith)),
      )

  -- such a time grid is short, and has a first border and a first noise border
  times-short : ShortTimes t × (0 < length t.t_e) × (0 < length t.t_q)
  times-short =
      let p = time_passes n g t e in
      let q = simp and-eq-true_iff at p.tests in
      let z = time_ends n g t e in
      let f = noise_few q.1 (dec_le (num_env_of g) 1) in
      rw p.value (
        record {
          borders = omega (arith, length-list_from (t_e_of n g) 0 (num_env_of g + 1), z.few);
          small = λ k. listed (t_e_of n g) (num_env_of g + 1) 100 k border-few (omega arith) (dec_le (suc k) (num_env_of g + 1));
          noise = f.1;
          small_noise = f.2;
          mark = mark_small g z.few h;
        },
        omega (arith, length-list_from (t_e_of n g) 0 (num_env_of g + 1)),
        f.0,
      )

-- what a frame that was read shows
pub record Shows (i : ℕ) (f : Accepted) : Type 0 where
  pub short : Short i f
  pub first : 0 < length f.time.t_e
  pub first_noise : 0 < length f.time.t_q
  pub rel0 : length f.grid.rel_bord_0 ≤ 4
  pub rel1 : length f.grid.rel_bord_1 ≤ 4

pub frame_shows : (l : List ℕ) (p n : ℕ) (c : Carried) (f : Accepted) (i : ℕ) → read_grid l p n c ≡ Ok f → i < 1000 → Shows i f
frame_shows l p n c f i e h =
    let w = frame_writes l p n c f e in
    let s = simp and-eq-true_iff at w.written.fits in
    let k = fields_told f.grid s.0 in
    let t = times-short n f.grid f.time (told_frame l p n c f e).derived k.pointed in
    record {
      short = record { number = h; times = t.0; flags = k.most };
      first = t.1;
      first_noise = t.2;
      rel0 = k.rel0;
      rel1 = k.rel1;
    }
