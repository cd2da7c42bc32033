-- The loop that writes even shares down: one turn, and the end.
use mathlib.Core.Path.{◌≡◌, sym, ◌∙◌}
use mathlib.Core.List.{List, [], ◌∷◌, ◌++◌, append_assoc, append-nil}
use Prim.Native.Nat.{ℕ, zero, suc, ◌-◌, ◌≤◌, ◌<◌}
use native.Mathlib.Omega.{arith}
use native.Mathlib.Numerals.{sub-one}
use borrow.Author.Tests.{le-leb, lt-leb}
use Rattle.sbr_build.specs.Build.{even_share, shares}

-- the last envelope writes no length down
pub shares_done : (ls r : List ℕ) (k left : ℕ) → k ≤ 1 → ls ++ shares k left ≡ r → ls ≡ r
unfolding shares
shares_done ls r zero left h e = sym (append-nil ls) ∙ e
shares_done ls r (suc zero) left h e = sym (append-nil ls) ∙ e
shares_done ls r (suc (suc k)) left h e = absurd (omega arith)

-- a length that would reach the end is not written down
pub shares_stop : (ls r : List ℕ) (k left len : ℕ) → 1 < k → len ≡ even_share left k → left ≤ len → ls ++ shares k left ≡ r → ls ≡ r
unfolding shares
shares_stop ls r zero left len h e f g = absurd (omega arith)
shares_stop ls r (suc zero) left len h e f g = absurd (omega arith)
shares_stop ls r (suc (suc k)) left len h e f g =
    sym (append-nil ls) ∙ (rw (le-leb left (even_share left (suc (suc k))) (rw e at f)) at g)

-- one length more
pub shares-next : (ls ms r : List ℕ) (k left len : ℕ) → 1 < k → len ≡ even_share left k → len < left → ms ≡ ls ++ (len ∷ []) → ls ++ shares k left ≡ r
    → ms ++ shares (k - 1) (left - len) ≡ r
unfolding shares
shares-next ls ms r zero left len h e f g i = absurd (omega arith)
shares-next ls ms r (suc zero) left len h e f g i = absurd (omega arith)
shares-next ls ms r (suc (suc k)) left len h e f g i =
    rw (g, append_assoc, e, sub-one) (rw (lt-leb left (even_share left (suc (suc k))) (rw e at f)) at i)
