-- Laws of rows: their length, the borders between them, and one envelope more.
use Rattle.std.specs.Prelude.{Ok}
use mathlib.Core.Path.{◌≡◌, refl, sym, ◌∙◌}
use mathlib.Core.Bool.{Bool, true, false, cond}
use mathlib.Core.List.{List, [], ◌∷◌, ◌++◌, append_assoc, append-nil}
use Prim.Native.Nat.{ℕ, zero, suc, ◌+◌, ◌-◌, ◌≤◌, ◌<◌}
use native.Mathlib.Decide.{dec_le}
use native.Mathlib.Numerals.{add-one}
use native.Mathlib.Omega.{arith}
use lib.ListN.{length, get_or, take, drop, length-append, length-drop}
use lib.Seq.{take_at, drop-append-add, drop-drop}
use Rattle.std.specs.List.{sum_by}
use Rattle.std.proofs.lemmas.List.Recursion.{is_sum_by}
use borrow.Rule.Slice.PartMut.{put_mid}
use lib.Ieee.{Float}
use Rattle.sbr_grid.specs.Grid.{first}
use Rattle.sbr_grid.proofs.First.{first_next, first-length, first_all}
use Rattle.sbr_qmf.specs.Qmf.{SampleAt}
use Rattle.sbr_bands.specs.Tables.{entry, Span, spans_from, spans}
use Rattle.sbr_means.specs.Means.{mean_in}
use Rattle.sbr_envelopes.specs.Envelopes.{row, rows, sum_of, row_lengths, rows_length, numbers_after}
use Rattle.sbr_means.proofs.Spans.{spans-length, spans_more, mapped_length}

-- the numbers of one envelope more
row_more : (fs : List Bool) (f : Bool) (h l : ℕ) → rows_length (fs ++ (f ∷ [])) h l ≡ rows_length fs h l + cond f h l
unfolding rows_length
row_more [] f h l = omega arith
row_more (g ∷ fs) f h l = omega (arith, row_more fs f h l)

-- as the code sums them
pub rows_sum : (fs : List Bool) (h l : ℕ) → sum_by (λ f. cond f h l) fs ≡ rows_length fs h l
unfolding rows_length
rows_sum fs h l = sym (is_sum_by (λ gs. sum_of (row_lengths h l gs)) (λ f. cond f h l) refl (λ g gs. refl) fs)

-- the numbers of n + 1 envelopes
pub length_more : (fs : List Bool) (n h l : ℕ) → rows_length (first false (n + 1) fs) h l ≡ rows_length (first false n fs) h l + cond (get_or fs n false) h l
length_more fs n h l = rw (first_next false n fs) (row_more (first false n fs) (get_or fs n false) h l)

-- more envelopes have no fewer numbers
pub length_grows : (fs : List Bool) (n m h l : ℕ) → n ≤ m → rows_length (first false n fs) h l ≤ rows_length (first false m fs) h l
length_grows fs n zero h l p = let e : n ≡ 0 = omega arith in rw e (omega arith)
length_grows fs n (suc m) h l p = elim (dec_le n m) [
  | yes q ↦ rw (← add-one m) (omega (arith, length_grows fs n m h l q, length_more fs m h l))
  | no q ↦ let e : n ≡ suc m = omega arith in rw e (omega arith)
]

module _ (x : SampleAt) (high low : List ℕ) where
  -- the rows hold as many numbers as their tables have bands
  pub rows-length : (fs : List Bool) (es : List Span) → length fs ≡ length es → length (rows x high low fs es) ≡ rows_length fs (length high - 1) (length low - 1)
  unfolding rows rows_length
  rows-length [] es n = refl
  rows-length (f ∷ fs) [] n = absurd (omega arith)
  rows-length (true ∷ fs) (e ∷ es) n = rw length-append (omega (arith, rows-length fs es (omega arith), mapped_length (mean_in x e) high 0 (length high - 1)))
  rows-length (false ∷ fs) (e ∷ es) n = rw length-append (omega (arith, rows-length fs es (omega arith), mapped_length (mean_in x e) low 0 (length low - 1)))

  -- as the code counts them
  pub rows-counted : (fs : List Bool) (t : List ℕ) → length t ≡ length fs + 1
      → length (rows x high low fs (spans t)) ≡ sum_by (λ f. cond f (length high - 1) (length low - 1)) fs
  rows-counted fs t n = rows-length fs (spans t) (omega (arith, spans-length t 0 (length t - 1))) ∙ sym (rows_sum fs (length high - 1) (length low - 1))

  -- a row more at the end
  rows_end : (fs : List Bool) (es : List Span) (f : Bool) (e : Span) → length fs ≡ length es
      → rows x high low (fs ++ (f ∷ [])) (es ++ (e ∷ [])) ≡ rows x high low fs es ++ row x (cond f high low) e
  unfolding rows
  rows_end [] [] f e n = append-nil (row x (cond f high low) e)
  rows_end [] (d ∷ es) f e n = absurd (omega arith)
  rows_end (g ∷ fs) [] f e n = absurd (omega arith)
  rows_end (g ∷ fs) (d ∷ es) f e n = rw (rows_end fs es f e (omega arith), append_assoc)

module _ (x : SampleAt) (high low : List ℕ) (fr : List Bool) (t : List ℕ) where
  -- the rows of the first n envelopes
  abbrev pub rows_to : ℕ → List Float
  rows_to n = rows x high low (first false n fr) (spans_from t 0 n)

  pub rows_long : (n : ℕ) → length (rows_to n) ≡ rows_length (first false n fr) (length high - 1) (length low - 1)
  rows_long n = rows-length x high low (first false n fr) (spans_from t 0 n) (first-length false n fr ∙ sym (spans-length t 0 n))

  -- the rows of one envelope more
  rows_more : (n : ℕ) → rows_to (n + 1) ≡ rows_to n ++ row x (cond (get_or fr n false) high low) (record { from = entry t n; to = entry t (n + 1) })
  rows_more n =
      rw (first_next false n fr, spans_more t n)
      (rows_end x high low (first false n fr) (spans_from t 0 n) (get_or fr n false) _ (first-length false n fr ∙ sym (spans-length t 0 n)))

-- u with the rows of the first n envelopes in its first `at` places
pub record Filled (x : SampleAt) (high low : List ℕ) (fr : List Bool) (t : List ℕ) (u : List Float) (n at : ℕ) (out : List Float) : Type 0 where
  pub place : at ≡ rows_length (first false n fr) (length high - 1) (length low - 1)
  pub numbers : out ≡ rows_to x high low fr t n ++ drop at u

module _ (x : SampleAt) (high low : List ℕ) (fr : List Bool) (t : List ℕ) (u : List Float) where
  -- no envelope yet
  pub filled_none : Filled x high low fr t u 0 0 u
  unfolding rows rows_length
  filled_none = record { place = refl; numbers = refl }

  module _ (n at : ℕ) (out : List Float) (s : Filled x high low fr t u n at out) where
    -- the list keeps its length, where it has room for the rows of m envelopes
    pub filled-long : (m : ℕ) → n ≤ m → rows_length (first false m fr) (length high - 1) (length low - 1) ≤ length u → length out ≡ length u
    filled-long m h r =
        let q = length_grows fr n m (length high - 1) (length low - 1) h in
        rw (s.numbers, length-append, length-drop) (omega (arith, rows_long x high low fr t n, s.place))

    -- the place after the row of one envelope more
    next_place : (b : Bool) → get_or fr n false ≡ b → at + (length (cond b high low) - 1) ≡ rows_length (first false (n + 1) fr) (length high - 1) (length low - 1)
    next_place true e = omega (arith, s.place, rw e at (length_more fr n (length high - 1) (length low - 1)))
    next_place false e = omega (arith, s.place, rw e at (length_more fr n (length high - 1) (length low - 1)))

    -- there is room for the row of one envelope more
    pub filled-room : (m : ℕ) (b : Bool) → get_or fr n false ≡ b → n < m → rows_length (first false m fr) (length high - 1) (length low - 1) ≤ length u
        → at + (length (cond b high low) - 1) ≤ length out
    filled-room m b e h r =
        let p = next_place b e in
        let q = length_grows fr (n + 1) m (length high - 1) (length low - 1) (omega arith) in
        omega (arith, filled-long m (omega arith) r)

    -- the row of one envelope more
    pub filled_more : (b : Bool) (next : List Float) → get_or fr n false ≡ b
        → next ≡ take at out ++ (row x (cond b high low) (record { from = entry t n; to = entry t (n + 1) }) ++ drop (at + (length (cond b high low) - 1)) out)
        → Filled x high low fr t u (n + 1) (at + (length (cond b high low) - 1)) next
    filled_more b next e f =
        let k : ℕ = length (cond b high low) - 1 in
        let l : length (rows_to x high low fr t n) ≡ at = omega (arith, rows_long x high low fr t n, s.place) in
        let d : drop (at + k) (rows_to x high low fr t n ++ drop at u) ≡ drop (at + k) u =
        (rw l at (drop-append-add (rows_to x high low fr t n) (drop at u) k)) ∙ drop-drop k at u
        in
        record {
          place = next_place b e;
          numbers = rw (f, s.numbers, take_at (rows_to x high low fr t n) (drop at u) at l, d, rows_more x high low fr t n, e, append_assoc);
        }

    -- the same with the table that the code takes: there is room for its row, and it is one more
    pub row-room : (table : List ℕ) → table ≡ cond (get_or fr n false) high low → n < length fr
        → rows_length fr (length high - 1) (length low - 1) ≤ length u → at + (length table - 1) ≤ length out
    row-room table e h r =
        let whole : first false (length fr) fr ≡ fr = first_all false fr in
        rw e (filled-room (length fr) (get_or fr n false) refl h (rw whole r))

    pub row-stored : (table : List ℕ) (means : List Float) → table ≡ cond (get_or fr n false) high low
        → means ≡ row x table (record { from = entry t n; to = entry t (n + 1) })
        → Filled x high low fr t u (n + 1) (at + (length table - 1)) (put_mid at (at + (length table - 1) - at) out means)
    row-stored table means e f =
        let k : at + (length table - 1) - at ≡ length table - 1 = omega arith in
        rw (e, rw e at f, rw e at k, drop-drop) (filled_more (get_or fr n false) _ refl refl)

    -- the rows of all envelopes
    pub filled-all : n ≡ length fr → length t ≡ n + 1 → out ≡ numbers_after u (Ok (rows x high low fr (spans t)))
    filled-all e h =
        let k : length t - 1 ≡ n = omega arith in
        let whole : first false n fr ≡ fr = rw e (first_all false fr) in
        rw (k, ← whole, rows_long x high low fr t n, ← s.place) s.numbers
