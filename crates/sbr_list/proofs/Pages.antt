-- Texts written one behind another.
use mathlib.Core.Path.{◌≡◌}
use mathlib.Core.List.{List, [], ◌∷◌, ◌++◌, append_assoc}
use Prim.Native.Nat.{ℕ, suc, ◌+◌, ◌≤◌}
use native.Mathlib.Nat.{add-zero, suc-add, add-suc, zero-add}
use native.Mathlib.Omega.{arith}
use lib.ListN.{length, set}
use lib.Seq.{sets, sets-eq, drop-drop}
use borrow.Rule.Slice.PartMut.{put_mid}
use Rattle.sbr_list.specs.Listing.{over}

-- two texts, one behind the other
pub sets_append : (l : List ℕ) (i : ℕ) (a b : List ℕ) → sets l i (a ++ b) ≡ sets (sets l i a) (i + length a) b
sets_append l i [] b = rw add-zero
sets_append l i (x ∷ a) b = rw (add-suc, ← suc-add) (sets_append (set l i x) (suc i) a b)

-- a text from the front on is over the front
pub sets_over : (l t : List ℕ) → length t ≤ length l → sets l 0 t ≡ over t l
sets_over l t h = rw (sets-eq t l 0 (omega arith), zero-add)

-- a text copied to its place
pub put_text : (l t u : List ℕ) (at k : ℕ) → at + length t ≤ length l → u ≡ t → k ≡ length t → put_mid at k l u ≡ sets l at t
put_text l t u at k h e f = rw (e, f, sets-eq t l at h, drop-drop (length t) at l, append_assoc)
