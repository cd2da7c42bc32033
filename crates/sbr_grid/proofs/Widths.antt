-- The pointer's width: `ptr_bits` is the logarithm of n + 1 rounded up, which is how many binary digits n has.
use mathlib.Core.Path.{◌≡◌}
use mathlib.Core.Bool.{cond}
use Prim.Native.Nat.{ℕ, zero, suc, ◌+◌, ◌*◌, ◌^◌, ◌≤◌, ◌<◌}
use native.Mathlib.Omega.{arith}
use native.Mathlib.Nat.{pow-suc, add-suc, suc-add, le_trans}
use native.Mathlib.Decide.{dec_le}
use borrow.Author.Tests.{le-leb, lt-leb, leb-true, leb-false}
use Rattle.std.proofs.lemmas.Bool.{cond_both}
use lib.Count.{leading_length}
use lib.Dec.{leb}
use lib.Pow.{pow_mono}
use Rattle.sbr_grid.specs.Grid.{width_from, ptr_bits, CeilLog, PointerWidth, LeadingWidth, GridWidths}

-- every width below k, and k itself, is too narrow
under : (k n : ℕ) → ((j : ℕ) → j < k → 2 ^ j < n + 1) → 2 ^ k < n + 1 → (j : ℕ) → j < suc k → Dec (suc j ≤ k) → 2 ^ j < n + 1
under k n below g j l (yes a) = below j a
under k n below g j l (no a) = let e : j ≡ k = omega arith in rw e g

least : (k n : ℕ) → ((j : ℕ) → j < k → 2 ^ j < n + 1) → (j : ℕ) → n + 1 ≤ 2 ^ j → Dec (k ≤ j) → k ≤ j
least k n below j l (yes a) = a
least k n below j l (no a) = absurd (omega (arith, below j (omega arith)))

wider : (d k n : ℕ) → ((j : ℕ) → j < k → 2 ^ j < n + 1) → (2 ^ k < n + 1 → CeilLog n (width_from d (suc k) n)) → Dec (n + 1 ≤ 2 ^ k) → CeilLog n (width_from (suc d) k n)
unfolding width_from
wider d k n below next (yes g) = rw (le-leb (n + 1) (2 ^ k) g) (record { holds = g; least = λ j l. least k n below j l (dec_le k j) })
wider d k n below next (no g) = rw (lt-leb (n + 1) (2 ^ k) (omega arith)) (next (omega arith))

-- every width below k is too narrow, and one of the d from k on is wide enough
width_from_lem : (d k n : ℕ) → ((j : ℕ) → j < k → 2 ^ j < n + 1) → n + 1 ≤ 2 ^ (k + d) → CeilLog n (width_from d k n)
unfolding width_from
width_from_lem zero k n below h = record { holds = rw (native.Mathlib.Nat.add-zero) at h; least = λ j g. least k n below j g (dec_le k j) }
width_from_lem (suc d) k n below h =
    wider d k n below (λ g. width_from_lem d (suc k) n (λ j l. under k n below g j l (dec_le (suc j) k)) (rw (suc-add k d, ← add-suc k d) h))
    (dec_le (n + 1) (2 ^ k))

-- a power of 2 is above its exponent
pub pow_above : (n : ℕ) → n + 1 ≤ 2 ^ n
pow_above zero = omega arith
pow_above (suc n) = omega (arith, pow_above n, pow-suc 2 n)

-- ptr_bits n is ceil(log2(n + 1))
pub pointer_width : PointerWidth
pointer_width n = width_from_lem _ _ n (λ j l. absurd (omega arith)) (le_trans (pow_above n) (pow_mono (omega arith)))

-- a count of m binary digits has the width m
digits_width : (n m : ℕ) → n < 2 ^ m → 2 ^ m ≤ 2 * n + 1 → ptr_bits n ≡ m
digits_width n m h l = go (dec_le m (ptr_bits n))
  where
    go : Dec (m ≤ ptr_bits n) → ptr_bits n ≡ m
    go (yes a) = omega (arith, (pointer_width n).least m (omega arith))
    go (no a) =
        let p : 2 ^ suc (ptr_bits n) ≤ 2 ^ m = pow_mono (omega arith) in
        absurd (omega (arith, pow-suc 2 (ptr_bits n), (pointer_width n).holds))

-- so the width is what the leading zeros leave of k digits: for every k, and every count that they hold
pub leading_width : LeadingWidth
leading_width k n h = let t = leading_length k n h in rw (digits_width n t.0 t.2 t.3) (omega arith)

-- a width that hangs on a test of the count
up_to : (n b w r : ℕ) → (n ≤ b → ptr_bits n ≡ w) → (b < n → ptr_bits n ≡ r) → ptr_bits n ≡ cond (leb n b) w r
up_to n b w r f g = cond_both (leb n b) w r (λ m. ptr_bits n ≡ m) (λ e. f (leb-true n b e)) (λ e. g (leb-false n b e))

-- the counts of 1, 2 and 3 digits that grids have; each width is the one that the statement gives
pub grid_widths : GridWidths
grid_widths n h k = up_to n _ _ _
    (λ a. digits_width n _ (omega arith) (omega arith))
    (λ a. up_to n _ _ _
    (λ b. digits_width n _ (omega arith) (omega arith))
    (λ b. digits_width n _ (omega arith) (omega arith)))

-- the pointer of a grid has at most three bits
pub pointer_narrow : (n : ℕ) → n ≤ 5 → ptr_bits n ≤ 3
pointer_narrow n h = (pointer_width n).least 3 (omega arith)
