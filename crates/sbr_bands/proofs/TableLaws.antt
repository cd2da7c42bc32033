-- Laws of the band tables: what their tests tell, and the steps of the loops that make them.
use mathlib.Core.Path.{◌≡◌, refl, sym, ◌∙◌}
use Rattle.std.proofs.lemmas.List.{take_all}
use Rattle.std.proofs.lemmas.List.Folds.{list_any_more}
use mathlib.Core.Bool.{Bool, true, false, or-true, or-false, false≢true, and-eq-true_iff}
use mathlib.Core.List.{List, [], ◌∷◌}
use Prim.Native.Nat.{ℕ, zero, suc, ◌+◌, ◌-◌, ◌≤◌, ◌<◌}
use native.Mathlib.Decide.{dec_lt}
use native.Mathlib.Nat.{add-zero}
use native.Mathlib.Omega.{arith}
use native.Mathlib.Decide.{ℕ_discrete}
use borrow.Author.Tests.{leb-true, eqb-true, eq-eqb, ne_eqb, ltb-true}
use lib.Dec.{eqb}
use Rattle.std.specs.List.{list_all, list_any}
use lib.ListN.{length, get_or, set, take, replicate}
use lib.Seq.{get_or-set_same, get_or-set_other}
use Rattle.sbr_bands.specs.Tables.{entry, last_entry, climbs, among, drawn, high_fits, low_fits, tables_fit}

-- ---- entries that climb

-- each is above the one before it
climbs_step : (xs : List ℕ) (j : ℕ) → climbs xs ≡ true → j + 1 < length xs → entry xs j < entry xs (j + 1)
climbs_step [] j e h = absurd (omega arith)
climbs_step (x ∷ []) j e h = absurd (omega arith)
climbs_step (x ∷ y ∷ ys) zero e h = ltb-true x y ((and-eq-true_iff _ _).0 e).0
climbs_step (x ∷ y ∷ ys) (suc j) e h =
    let p : suc j + 1 ≡ suc (j + 1) = omega arith in
    rw p (climbs_step (y ∷ ys) j ((and-eq-true_iff _ _).0 e).1 (omega arith))

-- so a later one is above an earlier one by the steps between them
climbs_by : (xs : List ℕ) (i d : ℕ) → climbs xs ≡ true → i + d < length xs → entry xs i + d ≤ entry xs (i + d)
climbs_by xs i zero e h = rw (add-zero i) (omega arith)
climbs_by xs i (suc d) e h =
    let p : i + suc d ≡ i + d + 1 = omega arith in
    rw p (omega (arith, climbs_by xs i d e (omega arith), climbs_step xs (i + d) e (omega arith)))

climbs_gap : (xs : List ℕ) (i j : ℕ) → climbs xs ≡ true → i ≤ j → j < length xs → entry xs i + (j - i) ≤ entry xs j
climbs_gap xs i j e h l =
    let p : i + (j - i) ≡ j = omega arith in
    rw p at (climbs_by xs i (j - i) e (omega arith))

-- ---- entries of a table

-- an entry has its place
pub among_some : (xs : List ℕ) (b : ℕ) → list_any (λ x. eqb x b) xs ≡ true → (i : ℕ) × ((i < length xs) × (entry xs i ≡ b))
among_some [] b h = absurd (false≢true h)
among_some (x ∷ xs) b h = elim (ℕ_discrete x b) [
  | yes e ↦ (0, (omega arith, e))
  | no e ↦ let s = among_some xs b (rw (ne_eqb x b e) at h) in (suc s.0, (omega (arith, s.1.0), s.1.1))
]

-- no mark yet, one more, and all
replicated : (n b : ℕ) → get_or (replicate n false) b false ≡ false
replicated zero b = refl
replicated (suc n) zero = refl
replicated (suc n) (suc b) = replicated n b

pub marks_none : (xs : List ℕ) (b : ℕ) → get_or (replicate 256 false) b false ≡ list_any (λ x. eqb x b) (take 0 xs)
marks_none xs b = replicated 256 b

pub marks_all : (xs : List ℕ) (n : ℕ) (out : List Bool) → length xs ≤ n → ((b : ℕ) → get_or out b false ≡ list_any (λ x. eqb x b) (take n xs)) → (b : ℕ) → get_or out b false ≡ among xs b
unfolding among
marks_all xs n out h e b = rw (take_all n xs h) at (e b)

pub marks_more : (xs : List ℕ) (n : ℕ) (out : List Bool) → length out ≡ 256 → n < length xs → entry xs n < 256 → ((b : ℕ) → get_or out b false ≡ list_any (λ x. eqb x b) (take n xs))
    → (b : ℕ) → get_or (set out (entry xs n) true) b false ≡ list_any (λ x. eqb x b) (take (n + 1) xs)
marks_more xs n out l k h e b = rw (list_any_more (λ x. eqb x b) xs n 0 k) (elim (ℕ_discrete (entry xs n) b) [
  | yes p ↦ rw (eq-eqb (entry xs n) b p, or-true (list_any (λ x. eqb x b) (take n xs)), p) (get_or-set_same out b true false (omega arith))
  | no p ↦
      rw (ne_eqb (entry xs n) b p, or-false (list_any (λ x. eqb x b) (take n xs)))
      (get_or-set_other out (entry xs n) b true false (λ q. p (sym q)) ∙ e b)
])

-- entries that are marked are entries of the marked table
pub drawn_by : (high low : List ℕ) (marked : List Bool) → ((b : ℕ) → get_or marked b false ≡ among high b) → list_all (λ b. get_or marked b false) low ≡ drawn high low
unfolding drawn
drawn_by high [] marked e = refl
drawn_by high (b ∷ bs) marked e = rw (e b, drawn_by high bs marked e)

-- each entry of low is one of high
pub drawn_at : (high low : List ℕ) (j : ℕ) → drawn high low ≡ true → j < length low → (i : ℕ) × ((i < length high) × (entry high i ≡ entry low j))
unfolding drawn among
drawn_at high [] j e h = absurd (omega arith)
drawn_at high (b ∷ bs) zero e h = among_some high b ((and-eq-true_iff _ _).0 e).0
drawn_at high (b ∷ bs) (suc j) e h = drawn_at high bs j ((and-eq-true_iff _ _).0 e).1 (omega arith)

-- ---- what the tests tell

-- a table of n entries or more that rise, none above 64
pub record Table (t : List ℕ) (n : ℕ) : Type 0 where
  pub some : n ≤ length t
  pub few : length t ≤ 65
  pub step : (j : ℕ) → j + 1 < length t → entry t j < entry t (j + 1)
  pub rising : (i j : ℕ) → i < j → j < length t → entry t i < entry t j
  pub by64 : (j : ℕ) → j < length t → entry t j ≤ 64

-- a table that climbs up to 64 at most
table : (t : List ℕ) (n : ℕ) → n ≤ length t → climbs t ≡ true → last_entry t ≤ 64 → Table t n
table t n h e l =
    record {
      some = h;
      few = few;
      step = λ j k. climbs_step t j e k;
      rising = λ i j p k. omega (arith, climbs_gap t i j e (omega arith) k);
      by64 = λ j k. omega (arith, climbs_gap t j (length t - 1) e (omega arith) (omega arith));
    }
  where
    few : length t ≤ 65
    few = elim (dec_lt 0 (length t)) [
      | yes p ↦ omega (arith, climbs_gap t 0 (length t - 1) e (omega arith) (omega arith))
      | no p ↦ omega arith
    ]

-- an entry lies between the first and the last
pub table_from : (t : List ℕ) (n j : ℕ) → Table t n → j < length t → entry t 0 ≤ entry t j
table_from t n j b h = elim (dec_lt 0 j) [
  | yes l ↦ omega (arith, b.rising 0 j l h)
  | no l ↦ let e : j ≡ 0 = omega arith in rw e (omega arith)
]

pub table_to : (t : List ℕ) (n j : ℕ) → Table t n → j < length t → entry t j ≤ last_entry t
table_to t n j b h = elim (dec_lt j (length t - 1)) [
  | yes l ↦ omega (arith, b.rising j (length t - 1) l (omega arith))
  | no l ↦ let e : j ≡ length t - 1 = omega arith in rw e (omega arith)
]

-- the high table
pub high_table : (high : List ℕ) → high_fits high ≡ true → Table high 2
unfolding high_fits
high_table high e =
    let p = simp and-eq-true_iff at e in
    table high 2 (leb-true _ _ p.0.0) p.0.1 (leb-true _ _ p.1)

-- it is not empty
pub high_some : (high : List ℕ) → high_fits high ≡ true → 1 ≤ length high
high_some high e = omega (arith, (high_table high e).some)

-- a low table that climbs to the last entry of the high one
pub low_table : (high low : List ℕ) → Table high 2 → 1 ≤ length low → climbs low ≡ true → last_entry low ≡ last_entry high → Table low 1
low_table high low t h e last = table low 1 h e (omega (arith, t.by64 (length high - 1) (omega arith)))

-- what the test of the low table, l, tells
pub record LowTests (h l : List ℕ) : Type 0 where
  pub some : 1 ≤ length l
  pub climbing : climbs l ≡ true
  pub from_high : drawn h l ≡ true
  pub first : entry l 0 ≡ entry h 0
  pub last : last_entry l ≡ last_entry h

-- a low table that passes the test
pub low_tests : (high low : List ℕ) → low_fits high low ≡ true → LowTests high low
unfolding low_fits
low_tests high low e =
    let p = simp and-eq-true_iff at e in
    record {
      some = leb-true _ _ p.0.0.0.0;
      first = eqb-true _ _ p.0.0.0.1;
      last = eqb-true _ _ p.0.0.1;
      climbing = p.0.1;
      from_high = p.1;
    }

-- two tables, h and l, that fit: their ends are the same, and each entry of l is one of h
pub record Tables (h l : List ℕ) : Type 0 where
  pub high : Table h 2
  pub low : Table l 1
  pub first : entry l 0 ≡ entry h 0
  pub last : last_entry l ≡ last_entry h
  pub drawn : (j : ℕ) → j < length l → (i : ℕ) × ((i < length h) × (entry h i ≡ entry l j))

-- tables that pass the tests fit
pub tables : (high low : List ℕ) → tables_fit high low ≡ true → Tables high low
tables high low e =
    let p = (and-eq-true_iff (high_fits high) (low_fits high low)).0 e in
    let t = low_tests high low p.1 in
    record {
      high = high_table high p.0;
      low = low_table high low (high_table high p.0) t.some t.climbing t.last;
      first = t.first;
      last = t.last;
      drawn = λ j k. drawn_at high low j t.from_high k;
    }
