-- Laws of the spans of a list, and of the bands of a table.
use mathlib.Core.Path.{◌≡◌, refl, ap, ◌∙◌}
use mathlib.Core.List.{List, [], ◌∷◌, ◌++◌, map}
use Prim.Native.Nat.{ℕ, zero, suc, ◌+◌, ◌-◌, ◌≤◌, ◌<◌}
use native.Mathlib.Nat.{add-zero, zero-add, suc-add}
use native.Mathlib.Omega.{arith}
use lib.Seq.{get_or-take, get_or-drop}
use lib.ListN.{length, get_or, take, drop, length-take, length-drop}
use Rattle.std.proofs.lemmas.List.{map_push}
use Rattle.sbr_bands.specs.Tables.{entry, Span, spans_from, spans}
use Rattle.sbr_means.specs.Means.{Bands}
use Rattle.sbr_bands.proofs.TableLaws.{Table}

-- an entry of a part of a list
part_at : (xs : List ℕ) (i n j : ℕ) → j < n → entry (take n (drop i xs)) j ≡ entry xs (i + j)
part_at xs i n j h = get_or-take n (drop i xs) j 0 h ∙ get_or-drop i xs j 0

-- entries i to i + k of a table that climbs
pub table_bands : (t : List ℕ) (n i k : ℕ) → Table t n → i + k < length t → Bands (take (k + 1) (drop i t))
table_bands t n i k b h =
    let long : length (take (k + 1) (drop i t)) ≡ k + 1 = omega (arith, length-take (k + 1) (drop i t), length-drop i t) in
    record {
      climbing = λ j l.
          let e : i + (j + 1) ≡ i + j + 1 = omega arith in
          rw (part_at t i (k + 1) j (omega arith), part_at t i (k + 1) (j + 1) (omega arith), e) (omega (arith, b.step (i + j) (omega arith)));
      by64 = λ j l. rw (part_at t i (k + 1) j (omega arith)) (b.by64 (i + j) (omega arith));
    }

-- k spans are k
pub spans-length : (xs : List ℕ) (i k : ℕ) → length (spans_from xs i k) ≡ k
unfolding spans_from
spans-length xs i zero = refl
spans-length xs i (suc k) = ap suc (spans-length xs (suc i) k)

-- a number for each span is as many
pub mapped_length : {A : Type 0} (f : Span → A) (xs : List ℕ) (i k : ℕ) → length (map f (spans_from xs i k)) ≡ k
unfolding spans_from
mapped_length f xs i zero = refl
mapped_length f xs i (suc k) = ap suc (mapped_length f xs (suc i) k)

-- the number of span j
pub mapped_at : {A : Type 0} (f : Span → A) (xs : List ℕ) (i k j : ℕ) (d : A) → j < k
    → get_or (map f (spans_from xs i k)) j d ≡ f (record { from = entry xs (i + j); to = entry xs (i + j + 1) })
unfolding spans_from
mapped_at f xs i zero j d h = absurd (omega arith)
mapped_at f xs i (suc k) zero d h = rw add-zero
mapped_at f xs i (suc k) (suc j) d h =
    let e : suc i + j ≡ i + suc j = omega arith in
    rw e at (mapped_at f xs (suc i) k j d (omega arith))

-- spans in two parts
pub spans-append : (xs : List ℕ) (i m n : ℕ) → spans_from xs i (m + n) ≡ spans_from xs i m ++ spans_from xs (i + m) n
unfolding spans_from
spans-append xs i zero n = rw (zero-add, add-zero)
spans-append xs i (suc m) n =
    let e : suc i + m ≡ i + suc m = omega arith in
    rw (suc-add m n) (ap {B = List Span} (λ (t : List Span). record { from = entry xs i; to = entry xs (i + 1) } ∷ t) (rw e at (spans-append xs (suc i) m n)))

-- one span more at the end
pub spans_more : (xs : List ℕ) (k : ℕ) → spans_from xs 0 (k + 1) ≡ spans_from xs 0 k ++ (record { from = entry xs k; to = entry xs (k + 1) } ∷ [])
unfolding spans_from
spans_more xs k = rw (zero-add k) at (spans-append xs 0 k 1)

-- a number for one span more
pub mapped_more : {A : Type 0} (f : Span → A) (xs : List ℕ) (k : ℕ)
    → map f (spans_from xs 0 (k + 1)) ≡ map f (spans_from xs 0 k) ++ (f (record { from = entry xs k; to = entry xs (k + 1) }) ∷ [])
mapped_more f xs k = rw (spans_more xs k) (map_push f (spans_from xs 0 k) _)

-- the spans look at their entries alone, wherever they stand
spans_moved : (xs ys : List ℕ) (i m k : ℕ) → ((j : ℕ) → j ≤ k → entry xs (i + j) ≡ entry ys (m + j)) → spans_from xs i k ≡ spans_from ys m k
unfolding spans_from
spans_moved xs ys i m zero e = refl
spans_moved xs ys i m (suc k) e =
    let f : entry xs i ≡ entry ys m = rw (add-zero i, add-zero m) at (e 0 (omega arith)) in
    rw (f, e 1 (omega arith), spans_moved xs ys (suc i) (suc m) k (λ j l. moved i m j (e (j + 1) (omega arith))))
  where
    moved : (i m j : ℕ) → entry xs (i + (j + 1)) ≡ entry ys (m + (j + 1)) → entry xs (suc i + j) ≡ entry ys (suc m + j)
    moved i m j e =
        let p : suc i + j ≡ i + (j + 1) = omega arith in
        let q : suc m + j ≡ m + (j + 1) = omega arith in
        rw (p, q) e

-- numbers that are the same for each span
pub mapped_same : {A : Type 0} (f g : Span → A) (xs : List ℕ) (i k : ℕ)
    → ((j : ℕ) → i ≤ j → j < i + k → f (record { from = entry xs j; to = entry xs (j + 1) }) ≡ g (record { from = entry xs j; to = entry xs (j + 1) }))
    → map f (spans_from xs i k) ≡ map g (spans_from xs i k)
unfolding spans_from
mapped_same f g xs i zero e = refl
mapped_same f g xs i (suc k) e = rw (e i (omega arith) (omega arith), mapped_same f g xs (suc i) k (λ j h l. e j (omega arith) (omega arith)))

-- the spans of a part of a list
pub spans-part : (xs : List ℕ) (i k : ℕ) → i + k < length xs → spans (take (k + 1) (drop i xs)) ≡ spans_from xs i k
spans-part xs i k h =
    let e : length (take (k + 1) (drop i xs)) - 1 ≡ k = omega (arith, length-take (k + 1) (drop i xs), length-drop i xs) in
    rw e (spans_moved (take (k + 1) (drop i xs)) xs 0 i k (λ j l. rw zero-add (part_at xs i (k + 1) j (omega arith))))
