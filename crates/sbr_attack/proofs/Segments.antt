-- A span as its lengths of 8 and the rest.
use mathlib.Core.Path.{◌≡◌, refl, sym}
use mathlib.Core.Bool.{cond}
use mathlib.Core.List.{List, [], ◌∷◌, ◌++◌, append-nil}
use Prim.Native.Nat.{ℕ, zero, suc, ◌-◌, ◌/◌, ◌%◌, ◌≤◌, min}
use Rattle.std.proofs.Common.{inl, inr}
use native.Mathlib.Omega.{arith}
use lib.Dec.{eqb}
use lib.ListN.{replicate, take}
use borrow.Author.Tests.{ne_eqb, eq-eqb}
use Rattle.std.proofs.lemmas.Bool.{cases_lt}
use Rattle.std.proofs.lemmas.List.{take-replicate}
use Rattle.sbr_attack.specs.Attack.{segments_by, even_segments}

-- at most k lengths, where k is large enough
segments : (k left : ℕ) → left ≤ k → segments_by k left ≡ replicate (left / 8) 8 ++ cond (eqb (left % 8) 0) [] ((left % 8) ∷ [])
unfolding segments_by
segments zero zero h = refl
segments zero (suc left) h = absurd (omega arith)
segments (suc k) zero h = refl
segments (suc k) (suc left) h = elim (cases_lt (suc left) 8) [
  | inl low ↦
      let a : suc left / 8 ≡ 0 = omega arith in
      let b : suc left % 8 ≡ suc left = omega arith in
      let d : suc left - 8 ≡ 0 = omega arith in
      let e : min (suc left) 8 ≡ suc left = omega arith in
      rw (ne_eqb (suc left) 0 (omega arith), a, b, ne_eqb (suc left) 0 (omega arith), d, e, segments k 0 (omega arith)) refl
  | inr high ↦
      let a : suc left / 8 ≡ suc ((suc left - 8) / 8) = omega arith in
      let b : suc left % 8 ≡ (suc left - 8) % 8 = omega arith in
      let e : min (suc left) 8 ≡ 8 = omega arith in
      rw (ne_eqb (suc left) 0 (omega arith), e, segments k (suc left - 8) (omega arith), a, b) refl
]

-- the lengths of 8 of a span
abbrev eights : ℕ → List ℕ
eights span = take (span / 8) (8 ∷ 8 ∷ 8 ∷ [])

eights_are : (span : ℕ) → span ≤ 24 → eights span ≡ replicate (span / 8) 8
eights_are span h = take-replicate (span / 8) 3 8 (omega arith)

-- a span that eights fill, and one that leaves a rest
pub only_eights : (span : ℕ) → span ≤ 24 → span % 8 ≡ 0 → take (span / 8) (8 ∷ 8 ∷ 8 ∷ []) ≡ even_segments span
only_eights span h e =
    rw (eights_are span h, segments span span (omega arith), eq-eqb (span % 8) 0 e) (sym (append-nil _))

pub eights_and_rest : (span : ℕ) (s r : List ℕ) → span ≤ 24 → (span % 8 ≡ 0 → ⊥) → s ≡ take (span / 8) (8 ∷ 8 ∷ 8 ∷ []) → r ≡ s ++ ((span % 8) ∷ [])
    → r ≡ even_segments span
eights_and_rest span s r h e f g =
    rw (g, f, eights_are span h, segments span span (omega arith), ne_eqb (span % 8) 0 e) refl
