-- The search by its loops: the ends, the turns.
use mathlib.Core.Path.{◌≡◌, refl, sym, ap, ◌∙◌}
use mathlib.Core.Bool.{Bool, true, false, cond, and-false}
use mathlib.Core.List.{List, [], ◌∷◌, map}
use Rattle.std.specs.Prelude.{Option, Some, None}
use Prim.Native.Nat.{ℕ, zero, suc, ◌+◌, ◌-◌, ◌≤◌, ◌<◌}
use native.Mathlib.Omega.{arith}
use native.Mathlib.Numerals.{add-one}
use borrow.Author.Tests.{lt-ltb, le-ltb, ltb-false}
use lib.Dec.{ltb}
use lib.ListN.{replicate}
use Rattle.sbr_grid.specs.Grid.{first}
use Rattle.sbr_grid.proofs.First.{first-replicate}
use Rattle.sbr_borders.specs.declared.WantedBorder.{WantedBorder}
use Rattle.sbr_search.specs.Search.{Best, beats, try_ends, try_shifts, try_from, search}
use Rattle.sbr_borders.specs.Borders.{places, prices, rises_from, last_or, fit, next_shifts, onset_at}

-- what is left of n at k, as one more than what is left at k + 1
left : (n k : ℕ) → k < n → n - k ≡ suc (n - (k + 1))
left n k h = omega arith

module _ (over n lead : ℕ) (is bs : List ℕ) (c : ℕ) (best : Option Best) where
  -- the end is not past the last border
  pub end-early : n + over ≤ last_or lead bs → best ≡ try_ends 1 over n lead is bs c best
  unfolding try_ends
  end-early h = rw (le-ltb (last_or lead bs) (n + over) h)

  -- the cost is not below the least
  pub end-dear : beats (c + over) best ≡ false → best ≡ try_ends 1 over n lead is bs c best
  unfolding try_ends
  end-dear e = rw (e, and-false (ltb (last_or lead bs) (n + over)))

  module _ (h : last_or lead bs < n + over) (e : beats (c + over) best ≡ true) where
    -- no count of leading lengths reaches every border
    pub end-unfit : fit lead (n + over) bs ≡ None → best ≡ try_ends 1 over n lead is bs c best
    unfolding try_ends
    end-unfit f = rw (f, lt-ltb (last_or lead bs) (n + over) h, e)

    -- a cheaper plan
    pub end-fit : (k : ℕ) → fit lead (n + over) bs ≡ Some k
        → Some (record { total = c + over; plan = record { shifts = is; over = over; leading = k } }) ≡ try_ends 1 over n lead is bs c best
    unfolding try_ends
    end-fit k f = rw (f, lt-ltb (last_or lead bs) (n + over) h, e)

module _ (m k n lead : ℕ) (is bs : List ℕ) (c : ℕ) (best : Option Best) (o : Option Best) where
  -- one end, and the others after it
  pub ends_next : (now : Option Best) → k < m → now ≡ try_ends 1 k n lead is bs c best → try_ends (m - k) k n lead is bs c best ≡ o
      → try_ends (m - (k + 1)) (k + 1) n lead is bs c now ≡ o
  unfolding try_ends
  ends_next now h e f = rw (e, add-one k) (rw (left m k h, add-one k) at f)

  -- no end is left
  pub ends-end : m ≤ k → try_ends (m - k) k n lead is bs c best ≡ o → best ≡ o
  unfolding try_ends
  ends-end h f = let e : m - k ≡ 0 = omega arith in rw e at f

-- a cost that beats no plan beats None with more added
beats_more : (c d : ℕ) (best : Option Best) → beats c best ≡ false → beats (c + d) best ≡ false
beats_more c d None e = let z : ◌≡◌ {A = ℕ} 0 1 = cc in absurd (omega arith)
beats_more c d (Some b) e = le-ltb (c + d) b.total (omega (arith, ltb-false c b.total e))

-- shifts that cost as much as the best plan give None at any end
ends_dear : (j over n lead : ℕ) (is bs : List ℕ) (c : ℕ) (best : Option Best) → beats c best ≡ false → try_ends j over n lead is bs c best ≡ best
unfolding try_ends
ends_dear zero over n lead is bs c best e = refl
ends_dear (suc j) over n lead is bs c best e =
    rw (beats_more c over best e, and-false (ltb (last_or lead bs) (n + over))) (ends_dear j (suc over) n lead is bs c best e)

-- whatever is chosen between two equal plans
cond_same : (b : Bool) (x y : Option Best) → x ≡ y → cond b x y ≡ y
cond_same true x y e = e
cond_same false x y e = refl

pub shifts_dear : (n lead : ℕ) (ws : List WantedBorder) (is : List ℕ) (best : Option Best) (c : ℕ) → c ≡ prices ws is → beats c best ≡ false
    → best ≡ try_shifts n lead ws is best
unfolding try_shifts
shifts_dear n lead ws is best c p e =
    sym (cond_same (rises_from lead (places ws is)) _ _ (ends_dear 4 0 n lead is (places ws is) (prices ws is) best (rw (← p) e)))

module _ (n lead : ℕ) (ws : List WantedBorder) (is bs : List ℕ) (best : Option Best) (e : bs ≡ places ws is) where
  -- the borders do not rise: the shifts give no plan
  pub shifts-fall : rises_from lead bs ≡ false → best ≡ try_shifts n lead ws is best
  unfolding try_shifts
  shifts-fall f = rw (← e, f)

  -- the borders rise: every end is tried
  pub shifts-rise : (c : ℕ) (now : Option Best) → rises_from lead bs ≡ true → c ≡ prices ws is → now ≡ try_ends 4 0 n lead is bs c best
      → now ≡ try_shifts n lead ws is best
  unfolding try_shifts
  shifts-rise c now f p h = rw (← e, f, ← p) h

-- without shifts nothing is tried
try_none : (j n lead : ℕ) (ws : List WantedBorder) (best : Option Best) → try_from j n lead ws None best ≡ best
unfolding try_from
try_none zero n lead ws best = refl
try_none (suc j) n lead ws best = refl

module _ (m k n lead : ℕ) (ws : List WantedBorder) (is : List ℕ) (best : Option Best) (o : Option Best) where
  -- the shifts at hand, and the turns after them
  pub search-next : (now : Option Best) (next : List ℕ) → k < m → now ≡ try_shifts n lead ws is best → Some next ≡ next_shifts ws is
      → try_from (m - k) n lead ws (Some is) best ≡ o → try_from (m - (k + 1)) n lead ws (Some next) now ≡ o
  unfolding try_from
  search-next now next h e g f = rw (e, g) (rw (left m k h) at f)

  -- the shifts at hand are the last
  pub search-last : (now : Option Best) → k < m → now ≡ try_shifts n lead ws is best → None ≡ next_shifts ws is
      → try_from (m - k) n lead ws (Some is) best ≡ o → now ≡ o
  unfolding try_from
  search-last now h e g f = e ∙ sym (try_none (m - (k + 1)) n lead ws (try_shifts n lead ws is best)) ∙ rw g (rw (left m k h) at f)

  -- no turn is left
  pub search-end : m ≤ k → try_from (m - k) n lead ws (Some is) best ≡ o → best ≡ o
  unfolding try_from
  search-end h f = let e : m - k ≡ 0 = omega arith in rw e at f

-- a zero for each border
zero_shifts : (n : ℕ) (bs : List WantedBorder) → replicate {A = ℕ} n 0 ≡ map (λ w. 0) (first (onset_at 0) n bs)
zero_shifts zero bs = refl
zero_shifts (suc n) [] = ap {B = List ℕ} (λ t. 0 ∷ t) (zero_shifts n [])
zero_shifts (suc n) (b ∷ bs) = ap {B = List ℕ} (λ t. 0 ∷ t) (zero_shifts n bs)

-- the search tries the turns from the shifts that move no border
pub search_begin : (n lead k m : ℕ) (bs : List WantedBorder)
    → try_from 24 n lead (first (onset_at 0) k bs) (Some (first 0 k (replicate m 0))) None ≡ search n lead (first (onset_at 0) k bs)
unfolding search
search_begin n lead k m bs = rw (first-replicate {A = ℕ} 0 k m, zero_shifts k bs)
