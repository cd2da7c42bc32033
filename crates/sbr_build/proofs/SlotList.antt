-- One number more in an array of slots with its count.
use mathlib.Core.Path.{◌≡◌, sym, ap, ◌∙◌}
use mathlib.Core.List.{List, [], ◌∷◌, ◌++◌}
use Prim.Native.Nat.{ℕ, ◌+◌, ◌≤◌, ◌<◌}
use native.Mathlib.Omega.{arith}
use native.Mathlib.Numerals.{add-one}
use lib.ListN.{length, length-map, set, take}
use lib.Seq.{length-take-le, take-suc-set}
use Rattle.std.specs.Prelude.{map}
use Rattle.sbr_grid.specs.Grid.{first}
use Rattle.sbr_grid.proofs.First.{first_take, first-length, first-first}

module _ {A : Type 0} where
  -- the array of a list, and one number more behind it
  pub first_with : (n : ℕ) (slots l : List A) (x : A) → n ≤ length slots → take n slots ≡ l → length l < length slots → take (n + 1) (set slots n x) ≡ l ++ (x ∷ [])
  first_with n slots l x k e h =
      let m : n < length slots = omega (arith, length-take-le n slots k, ap length e) in
      rw (add-one n) (take-suc-set slots n x m ∙ ap (λ t. t ++ (x ∷ [])) e)

  -- an array with a count of at most four holds at most four
  pub first_few : (n : ℕ) (slots l : List A) → n ≤ 4 → length slots ≡ 4 → take n slots ≡ l → length l ≤ 4
  first_few n slots l h k e = omega (arith, length-take-le n slots (omega arith), ap length e)

  -- the array of at most four numbers holds them
  pub first_of : (d : A) (n : ℕ) (slots l : List A) → n ≡ length l → slots ≡ first d 4 l → length l ≤ 4 → take n slots ≡ l
  first_of d n slots l e f h =
      rw (e, f) (first_take d (length l) (first d 4 l) (omega (arith, first-length d 4 l)) ∙ first-first d 4 l h)

-- the array of a function of at most four numbers holds them
pub first_map : (f : ℕ → ℕ) (n : ℕ) (slots l m : List ℕ) → n ≡ length l → l ≡ m → slots ≡ first 0 4 (map f l) → length l ≤ 4 → take n slots ≡ map f m
first_map f n slots l m e g s h = first_of 0 n slots (map f l) (e ∙ sym (length-map l f)) s (omega (arith, length-map l f)) ∙ ap (map f) g
