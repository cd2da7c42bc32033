-- The bands of the high table inside a band of the low one, and the low bands one after another.
use Rattle.std.proofs.lemmas.List.{take_rest}
use mathlib.Core.Path.{◌≡◌, refl, sym, ap, subst, ◌∙◌}
use mathlib.Core.Bool.{Bool, true, false, cond, ◌&&◌, ◌||◌, and-false}
use mathlib.Core.List.{List, [], ◌∷◌, ◌++◌, map, append-nil}
use Prim.Native.Nat.{ℕ, zero, suc, ◌+◌, ◌-◌, ◌≤◌, ◌<◌}
use native.Mathlib.Decide.{ℕ_discrete, dec_le}
use native.Mathlib.Nat.{zero-add}
use native.Mathlib.Omega.{arith}
use borrow.Author.Tests.{le-leb, lt-leb, lt-ltb, le-ltb}
use lib.Dec.{leb}
use lib.ListN.{length, take, drop, length-take, length-drop}
use lib.Seq.{get_or-drop, drop-drop}
use Rattle.std.specs.List.{prefix_len}
use Rattle.std.specs.Prelude.{nat_lt}
use Rattle.std.proofs.lemmas.List.Sums.{prefix_len_is}
use Rattle.sbr_qmf.specs.Qmf.{SampleAt}
use Rattle.sbr_bands.specs.Tables.{entry, Span, spans_from, spans}
use Rattle.sbr_means.specs.Means.{mean_in}
use Rattle.sbr_resolution.specs.Resolution.{inside, is_spread, some_spread, elect_freq_res}
use Rattle.sbr_bands.proofs.TableLaws.{Table, Tables}
use Rattle.sbr_means.specs.Means.{Bands}
use Rattle.sbr_means.proofs.Spans.{spans-append, spans-part, table_bands, mapped_length}
use Rattle.sbr_resolution.proofs.Spread.{spread_few}

-- the next law for the first span
pick : (b : Bool) (h : Span) (hs ks : List Span) → cond b (h ∷ (hs ++ ks)) (hs ++ ks) ≡ cond b (h ∷ hs) hs ++ ks
pick true h hs ks = refl
pick false h hs ks = refl

-- of two lists one after the other
inside-append : (lo : Span) (hs ks : List Span) → inside lo (hs ++ ks) ≡ inside lo hs ++ inside lo ks
unfolding inside
inside-append lo [] ks = refl
inside-append lo (h ∷ hs) ks = rw (inside-append lo hs ks) (pick (leb lo.from h.from && leb h.to lo.to) h (inside lo hs) (inside lo ks))

-- spans of which all lie inside, or none
inside_each : (lo : Span) (xs : List ℕ) (i k : ℕ) (b : Bool)
    → ((j : ℕ) → i ≤ j → j < i + k → leb lo.from (entry xs j) && leb (entry xs (j + 1)) lo.to ≡ b)
    → inside lo (spans_from xs i k) ≡ cond b (spans_from xs i k) []
unfolding inside spans_from
inside_each lo xs i zero true h = refl
inside_each lo xs i zero false h = refl
inside_each lo xs i (suc k) true h =
    rw (h i (omega arith) (omega arith), inside_each lo xs (suc i) k true (λ j p q. h j (omega arith) (omega arith)))
inside_each lo xs i (suc k) false h =
    rw (h i (omega arith) (omega arith), inside_each lo xs (suc i) k false (λ j p q. h j (omega arith) (omega arith)))

-- a later entry is not below an earlier one
climbs-le : (t : List ℕ) (n i j : ℕ) → Table t n → i ≤ j → j < length t → entry t i ≤ entry t j
climbs-le t n i j b h l = elim (ℕ_discrete i j) [ yes e ↦ rw e (omega arith) | no e ↦ omega (arith, b.rising i j (omega arith) l) ]

module _ (t : List ℕ) (n a b : ℕ) (table : Table t n) (h : a ≤ b) (l : b < length t) where
  -- the bands inside the one from entry a to entry b are those between
  pub inside_is : inside (record { from = entry t a; to = entry t b }) (spans t) ≡ spans_from t a (b - a)
  inside_is =
      let lo : Span = record { from = entry t a; to = entry t b } in
      let e : length t - 1 ≡ a + (b - a + (length t - 1 - b)) = omega arith in
      let m : a + (b - a) ≡ b = omega arith in
      let p : inside lo (spans_from t 0 a) ≡ [] =
      inside_each lo t 0 a false (λ j q r. rw (lt-leb (entry t a) (entry t j) (table.rising j a (omega arith) (omega arith))))
      in
      let r : inside lo (spans_from t a (b - a)) ≡ spans_from t a (b - a) =
      inside_each lo t a (b - a) true
      (λ j q r. rw (
        le-leb (entry t a) (entry t j) (climbs-le t n a j table q (omega arith)),
        le-leb (entry t (j + 1)) (entry t b) (climbs-le t n (j + 1) b table (omega arith) l),
      ))
      in
      let s : inside lo (spans_from t b (length t - 1 - b)) ≡ [] =
      inside_each lo t b (length t - 1 - b) false
      (λ j q r. rw (lt-leb (entry t (j + 1)) (entry t b) (table.rising b (j + 1) (omega arith) (omega arith)), and-false))
      in
      rw (e, spans-append t 0 a (b - a + (length t - 1 - b)), inside-append, p, zero-add, spans-append t a (b - a) (length t - 1 - b), inside-append, r, m, s, append-nil)

-- what is left of the high table from the low band n on
pub record Rest (high low rest : List ℕ) (n : ℕ) : Type 0 where
  pub some : 1 ≤ length rest
  pub few : length rest ≤ length high
  pub part : rest ≡ drop (length high - length rest) high
  pub start : entry rest 0 ≡ entry low n

-- a step from low band n: there is one, and k bands of what is left of the high table lie before its end
pub record Step (low rest : List ℕ) (n k : ℕ) : Type 0 where
  pub last : n + 1 < length low
  pub bands : k ≡ prefix_len (λ b. nat_lt b (entry low (n + 1))) rest

-- an entry of the end of a list
dropped_at : (xs : List ℕ) (i j : ℕ) → entry (drop i xs) j ≡ entry xs (i + j)
dropped_at xs i j = get_or-drop i xs j 0

module _ (high low rest : List ℕ) (n : ℕ) (t : Tables high low) (r : Rest high low rest n) where
  abbrev at : ℕ
  at = length high - length rest

  rest-at : (j : ℕ) → entry rest j ≡ entry high (at + j)
  rest-at j = subst (λ (xs : List ℕ). entry xs j ≡ entry high (at + j)) (sym r.part) (dropped_at high at j)

  first-at : entry high at ≡ entry low n
  first-at = let e : at + 0 ≡ at = omega arith in sym (rw e at (rest-at 0)) ∙ r.start

  -- the low band n ends at an entry of it
  pub end-place : n + 1 < length low → (m : ℕ) × ((m < length rest) × (entry rest m ≡ entry low (n + 1)))
  end-place h =
      let d = t.drawn (n + 1) h in
      elim (dec_le at d.0) [
        | yes l ↦
            let e : at + (d.0 - at) ≡ d.0 = omega arith in
            (d.0 - at, (omega (arith, d.1.0), rest-at (d.0 - at) ∙ rw e d.1.1))
        | no l ↦ absurd (omega (arith, d.1.1, first-at, t.high.rising d.0 at (omega arith) (omega (arith, r.some, r.few)), t.low.rising n (n + 1) (omega arith) h))
      ]

  -- as many entries as there are before it are below it
  pub end-is : (h : n + 1 < length low) → prefix_len (λ b. nat_lt b (entry low (n + 1))) rest ≡ (end-place h).0
  end-is h =
      let d = end-place h in
      prefix_len_is (λ b. nat_lt b (entry low (n + 1))) rest d.0 0 (omega (arith, d.1.0))
      (λ k l. lt-ltb _ _ (omega (arith, d.1.1, rest-at k, rest-at d.0, t.high.rising (at + k) (at + d.0) (omega arith) (omega (arith, d.1.0, r.few)))))
      (λ l. le-ltb _ _ (omega (arith, d.1.1)))

  module _ (k : ℕ) (s : Step low rest n k) where
    -- its place, and that of the entry in the high table
    pub end-within : k < length rest
    end-within = omega (arith, s.bands, end-is s.last, (end-place s.last).1.0)

    pub end-entry : entry rest k ≡ entry low (n + 1)
    end-entry = rw (s.bands, end-is s.last) (end-place s.last).1.1

    -- the bands up to it
    pub inner-bands : Bands (take (k + 1) rest)
    inner-bands = rw r.part (table_bands high 2 at k t.high (omega (arith, end-within, r.few)))

    -- what is left behind them
    pub rest-behind : Rest high low (take (length rest - k) (drop k rest)) (n + 1)
    rest-behind = rw (take_rest rest k) (record {
      some = omega (arith, length-drop k rest, end-within);
      few = omega (arith, length-drop k rest, r.few);
      part =
          let e : length high - length (drop k rest) ≡ at + k = omega (arith, length-drop k rest, end-within, r.few) in
          rw e (ap (λ (xs : List ℕ). drop k xs) r.part ∙ drop-drop k at high);
      start =
          let e : k + 0 ≡ k = omega arith in
          rw (dropped_at rest k 0, e) end-entry;
    })

-- the low band's end as the code reads it
pub step_of : (low rest : List ℕ) (n k : ℕ) → n < length (take (length low - 1) (drop 1 low))
    → k ≡ prefix_len (λ b. nat_lt b (entry (take (length low - 1) (drop 1 low)) n)) rest → Step low rest n k
step_of low rest n k l e =
    let p : entry (take (length low - 1) (drop 1 low)) n ≡ entry low (n + 1) =
    rw (take_rest low 1) (let q : 1 + n ≡ n + 1 = omega arith in rw (dropped_at low 1 n, q))
    in
    record { last = omega (arith, length-take (length low - 1) (drop 1 low), length-drop 1 low); bands = rw p at e }

-- before the first step all of the high table is left
pub rest-all : (high low : List ℕ) → Tables high low → Rest high low high 0
rest-all high low t =
    let e : length high - length high ≡ 0 = omega arith in
    record { some = omega (arith, t.high.some); few = omega arith; part = rw e; start = sym t.first }

module _ (x : SampleAt) (high low : List ℕ) (env : Span) where
  -- whether a low band from the one that ends at entry j on is spread
  abbrev pub spreadFrom : ℕ → Bool
  spreadFrom j = some_spread x (spans high) env (spans_from low (j - 1) (length low - j))

  -- no low band is left
  pub spread-done : (j : ℕ) → length low ≤ j → spreadFrom j ≡ false
  unfolding some_spread spans_from
  spread-done j h = let e : length low - j ≡ 0 = omega arith in rw e

  -- one low band, and those after it
  pub spread-next : (i e j : ℕ) → Tables high low → 1 ≤ j → j < length low → entry high i ≡ entry low (j - 1) → entry high e ≡ entry low j → i ≤ e → e < length high
      → spreadFrom j ≡ is_spread (map (mean_in x env) (spans_from high i (e - i))) || spreadFrom (j + 1)
  unfolding some_spread spans_from
  spread-next i e j t s h p q l r =
      let a : length low - j ≡ suc (length low - (j + 1)) = omega arith in
      let b : j - 1 + 1 ≡ j = omega arith in
      let c : suc (j - 1) ≡ j + 1 - 1 = omega arith in
      rw (a, b, c, ← p, ← q, inside_is high 2 i e t.high l r)

  -- the same where the high table is left from that band on
  pub spread-turn : (rest : List ℕ) (n k : ℕ) → Tables high low → Rest high low rest n → Step low rest n k
      → spreadFrom (n + 1) ≡ is_spread (map (mean_in x env) (spans (take (k + 1) rest))) || spreadFrom (n + 1 + 1)
  spread-turn rest n k t r s =
      let at : ℕ = length high - length rest in
      let inside : at + k < length high = omega (arith, end-within high low rest n t r k s, r.few) in
      let b : n + 1 - 1 ≡ n = omega arith in
      let c : at + k - at ≡ k = omega arith in
      let part : spans (take (k + 1) rest) ≡ spans_from high at k = subst (λ (xs : List ℕ). spans (take (k + 1) xs) ≡ spans_from high at k) (sym r.part) (spans-part high at k inside) in
      rw part (rw c at (spread-next at (at + k) (n + 1) t (omega arith) s.last (rw b (first-at high low rest n t r))
      (sym (rest-at high low rest n t r k) ∙ end-entry high low rest n t r k s) (omega arith) inside))

  -- where a low band is not spread, those after it tell
  pub spread-skip : (j : ℕ) (b : Bool) → spreadFrom j ≡ b || spreadFrom (j + 1) → false ≡ b → spreadFrom (j + 1) ≡ spreadFrom j
  spread-skip j b p q = sym (rw (← q) at p)

  -- where it is, they need not be looked at
  pub spread-stop : (j : ℕ) (b : Bool) → spreadFrom j ≡ b || spreadFrom (j + 1) → true ≡ b → true ≡ spreadFrom j
  spread-stop j b p q = sym (rw (← q) at p)

  -- an envelope of fewer than 4 slots
  pub elect-short : env.to < env.from + 4 → false ≡ elect_freq_res x high low env
  unfolding elect_freq_res
  elect-short h = rw (lt-leb (env.from + 4) env.to h)

  -- an envelope of 4 slots or more
  pub elect-long : env.from + 4 ≤ env.to → spreadFrom 1 ≡ elect_freq_res x high low env
  unfolding elect_freq_res
  elect-long h = rw (le-leb (env.from + 4) env.to h)

-- one band of the high table, or none, is not spread
pub inner_few : (x : SampleAt) (env : Span) (rest : List ℕ) (k : ℕ) → k < 2 → false ≡ is_spread (map (mean_in x env) (spans (take (k + 1) rest)))
inner_few x env rest k h =
    spread_few _ (omega (arith, mapped_length (mean_in x env) (take (k + 1) rest) 0 (length (take (k + 1) rest) - 1), length-take (k + 1) rest))
