-- Places, prices and turns of the shifts, border by border.
use mathlib.Core.Path.{◌≡◌, refl, sym, ap, ◌∙◌}
use mathlib.Core.Bool.{true, false}
use mathlib.Core.List.{List, [], ◌∷◌, ◌++◌, append_assoc, append-nil}
use Prim.Native.Nat.{ℕ, ◌+◌, ◌*◌, ◌≤◌, ◌<◌}
use Rattle.std.proofs.lemmas.Bool.Decides.{nat_tests}
use native.Mathlib.Omega.{arith}
use native.Mathlib.Numerals.{add-one}
use borrow.Author.Tests.{lt-ltb, le-ltb, le-leb}
use lib.ListN.{length, drop, set, get_or, drop_of_length-le}
use lib.Seq.{set_split, drop-set-lt}
use Rattle.std.specs.Prelude.{zip, sum_by, Option, Some, None}
use Rattle.std.specs.List.{list_all}
use Rattle.std.specs.Prelude.{leb}
use Rattle.std.proofs.lemmas.List.Folds.{list_all-append}
use Rattle.std.proofs.lemmas.List.{at_drop_more, drop_more, length-drop, get_or_default}
use Rattle.std.proofs.lemmas.List.Sums.{sum_by-cons}
use Rattle.sbr_grid.specs.Grid.{first}
use Rattle.sbr_grid.proofs.First.{first-length, first-get_or, first-drop, first_taken, first-set, first_push}
use Rattle.sbr_borders.specs.declared.WantedBorder.{WantedBorder}
use Rattle.sbr_borders.specs.Borders.{shift_count, place, price, places, prices, prepend, next_shifts, onset_at}

-- what a read past a list of borders gives
abbrev pub no_border : WantedBorder
no_border = record { slot = 0; onset = false }

-- an array of wanted borders has as many as its count
pub first_count : (n : ℕ) (bs l : List WantedBorder) → l ≡ first (onset_at 0) n bs → length l ≡ n
first_count n bs l e = ap length e ∙ first-length (onset_at 0) n bs

-- a border of such an array
pub border_is : (d : WantedBorder) (n i : ℕ) (bs l : List WantedBorder) → l ≡ first (onset_at 0) n bs → i < length l → get_or l i d ≡ get_or bs i (onset_at 0)
border_is d n i bs l e h =
    get_or_default l i d (onset_at 0) h ∙ ap (λ m. get_or m i (onset_at 0)) e ∙ first-get_or (onset_at 0) n i bs (omega (arith, first_count n bs l e))

-- where a list is taken up to its place i, that place is the next one, and the rest stands behind it
pub taken_up : {A : Type 0} (d : A) (xs : List A) (i : ℕ) (x : A) (ys : List A) → drop i xs ≡ x ∷ ys → (i < length xs) × (get_or xs i d ≡ x) × (drop (i + 1) xs ≡ ys)
taken_up d xs i x ys e =
    let h : i < length xs = omega (arith, rw (length-drop i xs) at (ap length e)) in
    let p : get_or xs i d ∷ drop (i + 1) xs ≡ x ∷ ys = sym (drop_more xs i d h) ∙ e in
    (h, ap (λ l. get_or l 0 d) p, ap (drop 1) p)

-- one place more, where the places so far and those of the other borders are r
pub places_more : (d : WantedBorder) (ws : List WantedBorder) (is out more r : List ℕ) (i v : ℕ) → i < length ws → i < length is → more ≡ out ++ (v ∷ [])
    → v ≡ place (get_or ws i d) (get_or is i 0) → out ++ places (drop i ws) (drop i is) ≡ r → more ++ places (drop (i + 1) ws) (drop (i + 1) is) ≡ r
unfolding places
places_more d ws is out more r i v h k e f g =
    rw (e, append_assoc, f) (rw (at_drop_more (λ l. l) ws i d h, at_drop_more (λ l. l) is i 0 k) at g)

-- one place more that is near
pub near_more : (out more : List ℕ) (v : ℕ) → more ≡ out ++ (v ∷ []) → list_all (λ b. leb b 33) out ≡ true → v ≤ 33 → list_all (λ b. leb b 33) more ≡ true
near_more out more v e f h = rw (e, list_all-append (λ b. leb b 33) out (v ∷ []), f, le-leb v 33 h) refl

-- as many have one as are wanted, where no border is left
pub none_left : (n i : ℕ) (bs ws rest : List WantedBorder) → ws ≡ first (onset_at 0) n bs → rest ≡ drop i ws → length rest ≡ 0 → i ≤ n → i ≡ n
none_left n i bs ws rest e f g h = omega (arith, first_count n bs ws e, rw (length-drop i ws) at (ap length f), g)

-- and where no shift is
pub no_shift_left : (n i : ℕ) (is rest : List ℕ) → rest ≡ drop i is → length rest ≡ 0 → i ≤ n → n ≤ length is → i ≡ n
no_shift_left n i is rest f g h k = omega (arith, rw (length-drop i is) at (ap length f), g)

-- every border has its place
pub places_all : (ws : List WantedBorder) (is out r : List ℕ) (i : ℕ) → length ws ≤ i → out ++ places (drop i ws) is ≡ r → out ≡ r
unfolding places
places_all ws is out r i h g = sym (append-nil out) ∙ rw (drop_of_length-le ws {i = i} h) at g

-- the prices, pair by pair
pub prices_zip : (ws : List WantedBorder) (is : List ℕ) → sum_by (λ p. price p.0 p.1) (zip ws is) ≡ prices ws is
unfolding prices
prices_zip [] is = refl
prices_zip (w ∷ ws) [] = refl
prices_zip (w ∷ ws) (i ∷ is) = sum_by-cons (λ (p : WantedBorder × ℕ). price p.0 p.1) (w, i) (zip ws is) ∙ ap (λ s. price w i + s) (prices_zip ws is)

-- a price is at most 2
price_few : (w : WantedBorder) (i : ℕ) → price w i ≤ 2
price_few w i = grind (arith, nat_tests)

-- and those of at most k borders at most 2 each
pub prices_few : (ws : List WantedBorder) (is : List ℕ) → prices ws is ≤ 2 * length ws
unfolding prices
prices_few [] is = omega arith
prices_few (w ∷ ws) [] = omega arith
prices_few (w ∷ ws) (i ∷ is) = omega (arith, price_few w i, prices_few ws is)

-- a list put in front of the next shifts
abbrev pub onto : List ℕ → Option (List ℕ) → Option (List ℕ)
onto xs None = None
onto xs (Some is) = Some (xs ++ is)

-- one more in front
onto_prepend : (xs : List ℕ) (i : ℕ) (o : Option (List ℕ)) → onto xs (prepend i o) ≡ onto (xs ++ (i ∷ [])) o
onto_prepend xs i None = refl
onto_prepend xs i (Some is) = ap Some (sym (append_assoc xs (i ∷ []) is))

-- the borders before index i have turned back to next, and the others turn from there
pub record Turns (ws : List WantedBorder) (is : List ℕ) (i : ℕ) (next : List ℕ) : Type 0 where
  pub rest : onto (first 0 i next) (next_shifts (drop i ws) (drop i (first 0 (length ws) next))) ≡ next_shifts ws (first 0 (length ws) is)

module _ (d : WantedBorder) {ws : List WantedBorder} {is : List ℕ} {i : ℕ} {next : List ℕ} (t : Turns ws is i next) (h : i < length ws) (k : i < length next) where
  -- the border at i has its last shift: it turns back
  pub turns_next : shift_count (get_or ws i d) ≤ get_or next i 0 + 1 → Turns ws is (i + 1) (set next i 0)
  unfolding next_shifts
  turns_next e =
      record {
        rest = rw (
          first_push 0 i next 0 k,
          first-set 0 (length ws) i next 0 k,
          drop-set-lt (i + 1) (first 0 (length ws) next) i 0 (omega arith),
          ← onto_prepend (first 0 i next) 0 (next_shifts (drop (i + 1) ws) (drop (i + 1) (first 0 (length ws) next))),
        ) (rw (
          at_drop_more (λ l. l) ws i d h,
          first-drop 0 (length ws) i next h,
          le-ltb (get_or next i 0 + 1) (shift_count (get_or ws i d)) e,
        ) at t.rest);
      }

  -- the border at i turns
  pub turns-stop : (v : ℕ) → v ≡ get_or next i 0 + 1 → v < shift_count (get_or ws i d) → Some (first 0 (length ws) (set next i v)) ≡ next_shifts ws (first 0 (length ws) is)
  unfolding next_shifts
  turns-stop v e l =
      ap Some
      (first-set 0 (length ws) i next v k
      ∙ set_split (first 0 (length ws) next) i v (omega (arith, first-length 0 (length ws) next))
      ∙ rw (first_taken 0 i (length ws) next (omega arith), ← add-one i, e))
      ∙ rw (
        at_drop_more (λ l. l) ws i d h,
        first-drop 0 (length ws) i next h,
        lt-ltb (get_or next i 0 + 1) (shift_count (get_or ws i d)) (omega arith),
      ) at t.rest

-- every border has its last shift
pub turns-end : {ws : List WantedBorder} {is : List ℕ} {i : ℕ} {next : List ℕ} → Turns ws is i next → length ws ≤ i
    → None ≡ next_shifts ws (first 0 (length ws) is)
unfolding next_shifts
turns-end {ws} {is} {i} {next} t h =
    rw (drop_of_length-le ws {i = i} h) at t.rest
