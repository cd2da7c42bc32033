-- An array that is made by one call for each of its places, as `array::from_fn` makes it.
use mathlib.Core.Path.{◌≡◌, sym, ◌∙◌, subst}
use mathlib.Core.List.{List}
use Prim.Native.Nat.{ℕ, zero, suc, ◌+◌, ◌<◌}
use native.Mathlib.Omega.{arith}
use lib.ListN.{get_or}
use denote.Param.Members.{Mut, Called}
use Rattle.std.specs.Array.{IsFromFnResult, IsFromFnResultFrom}
use Rattle.std.proofs.lemmas.List.{ext_get_or}
use Rattle.sbr_grid.specs.Grid.{first}
use Rattle.sbr_grid.proofs.First.{first-length, first-get_or}

-- where each call gives the item of xs at its place, d past the end, and changes nothing
module _ {F A : Type 0} (g : Mut F (ℕ × Unit {0}) A) (f : F) (d : A) (xs : List A)
    (h : (i : ℕ) (y : A) (p : F) → Called g f (i, tt) y p → (y ≡ get_or xs i d) × (p ≡ f)) where
  -- the places from i on have those items
  made_at : (ys : List A) (i n j k : ℕ) → IsFromFnResultFrom g f ys i n → k < n → j ≡ i + k → get_or ys j d ≡ get_or xs j d
  made_at ys i zero j k e l m = absurd (omega arith)
  made_at ys i (suc n) j zero e l m = let here : i ≡ j = omega arith in rw (← here) (e.2.1 d ∙ (h i e.1 e.0 e.3).0)
  made_at ys i (suc n) j (suc k) e l m =
      made_at ys (i + 1) n j k (subst (λ (p : F). IsFromFnResultFrom g p ys (i + 1) n) (h i e.1 e.0 e.3).1 e.4) (omega arith) (omega arith)

  -- n places are the first n of xs
  pub made_first : (ys : List A) (n : ℕ) → IsFromFnResult g f ys n → ys ≡ first d n xs
  made_first ys n e =
      ext_get_or d ys (first d n xs) (e.long ∙ sym (first-length d n xs))
      (λ i l. let m : i < n = omega (arith, e.long) in made_at ys 0 n i i e.each m (omega arith) ∙ sym (first-get_or d n i xs m))
