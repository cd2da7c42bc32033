-- A value for each number of a list, stored in their order from the first place on.
use Prim.Native.Nat.{ℕ, ◌+◌, ◌≤◌, ◌<◌}
use mathlib.Core.Path.{◌≡◌, sym, ap, ◌∙◌}
use mathlib.Core.List.{List, map}
use native.Mathlib.Nat.{zero-add}
use native.Mathlib.Numerals.{add-one}
use native.Mathlib.Omega.{arith}
use lib.ListN.{length, get_or, set, length-map, get_or-map}
use lib.Seq.{paste, paste-suc}
use lib.Ieee.{Float, nan}

module _ (f : Float → ℕ) (xs : List Float) (out₀ : List ℕ) where
  -- the first i are stored
  abbrev pub Stored : List ℕ → ℕ → Type 0
  Stored out i = out ≡ paste out₀ 0 (map f xs) i

  pub stored_more : (out : List ℕ) (i v : ℕ) → (i < length xs) × (length xs ≤ length out₀) → Stored out i → v ≡ f (get_or xs i nan) → Stored (set out i v) (i + 1)
  stored_more out i v h p q =
      let a : 0 + i < length out₀ = omega arith in
      let b : i < length (map f xs) = omega (arith, length-map xs f) in
      rw (p, q, add-one i, ← get_or-map f xs i nan)
      (ap (λ (n : ℕ). set (paste out₀ 0 (map f xs) i) n (get_or (map f xs) i (f nan))) (sym (zero-add i)) ∙ paste-suc out₀ 0 (map f xs) i (f nan) a b)
