-- Laws of the spread of means: the largest and the smallest, one mean more, and the ways that the test ends.
use mathlib.Core.Path.{◌≡◌, refl}
use mathlib.Core.Bool.{true, false}
use mathlib.Core.List.{List, [], ◌∷◌, ◌++◌}
use Prim.Native.Nat.{ℕ, ◌+◌, ◌≤◌, ◌<◌}
use native.Mathlib.Numerals.{add-one}
use native.Mathlib.Omega.{arith}
use borrow.Author.Tests.{lt-ltb, le-ltb}
use lib.ListN.{length, get_or, take}
use lib.Seq.{take-suc}
use lib.Ieee as Ieee
use lib.Ieee.{Float, nan, inf, binary64, of_bits}
use Rattle.sbr_floats.specs.Floats.{zero64, max_of, min_of, spread_is_high}
use Rattle.sbr_floats.specs.Floats.{floor64}
use Rattle.sbr_resolution.specs.Resolution.{largest_from, smallest_from, is_spread}

module _ (op : Float → Float → Float) (F : Float → List Float → Float) (none : (m : Float) → F m [] ≡ m)
    (more : (m x : Float) (xs : List Float) → F m (x ∷ xs) ≡ F (op m x) xs) where
  -- what goes through a list from its start takes one element more at the end
  at-end : (m x : Float) (xs : List Float) → F m (xs ++ (x ∷ [])) ≡ op (F m xs) x
  at-end m x [] = rw (more m x [], none (op m x), none m)
  at-end m x (y ∷ ys) = rw (more m y (ys ++ (x ∷ [])), more m y ys) (at-end (op m y) x ys)

  -- the same of the elements of a list, one after another
  next : (m v : Float) (xs : List Float) (j : ℕ) → j < length xs → v ≡ F m (take j xs) → op v (get_or xs j nan) ≡ F m (take (j + 1) xs)
  next m v xs j h e = rw (e, add-one j, take-suc xs j nan h, at-end)

-- the largest of one mean more
pub largest_next : (v : Float) (xs : List Float) (j : ℕ) → j < length xs → v ≡ largest_from zero64 (take j xs)
    → max_of v (get_or xs j nan) ≡ largest_from zero64 (take (j + 1) xs)
unfolding largest_from
largest_next = next max_of largest_from (λ m. refl) (λ m x xs. refl) zero64

-- the smallest of one mean more
pub smallest_next : (v : Float) (xs : List Float) (j : ℕ) → j < length xs → v ≡ smallest_from (inf false) (take j xs)
    → min_of v (get_or xs j nan) ≡ smallest_from (inf false) (take (j + 1) xs)
unfolding smallest_from
smallest_next = next min_of smallest_from (λ m. refl) (λ m x xs. refl) (inf false)

-- of no mean yet
pub largest_none : zero64 ≡ largest_from zero64 []
unfolding largest_from
largest_none = refl

pub smallest_none : of_bits binary64 0x7ff0_0000_0000_0000 ≡ smallest_from (inf false) []
unfolding smallest_from of_bits
smallest_none = refl

-- neither is a NaN
pub largest_number : Ieee.is_nan zero64 ≡ false
unfolding Ieee.is_nan of_bits
largest_number = refl

pub smallest_number : Ieee.is_nan (of_bits binary64 0x7ff0_0000_0000_0000) ≡ false
unfolding Ieee.is_nan of_bits
smallest_number = refl

-- fewer than two means are not spread
pub spread_few : (ms : List Float) → length ms < 2 → false ≡ is_spread ms
unfolding is_spread
spread_few ms h = rw (le-ltb 1 (length ms) (omega arith))

module _ (ms : List Float) (l s : Float) (some : 2 ≤ length ms) (p : l ≡ largest_from zero64 ms) (q : s ≡ smallest_from (inf false) ms) where
  -- the largest is not above 64
  pub spread-low : Ieee.lt floor64 l ≡ false → false ≡ is_spread ms
  unfolding is_spread
  spread-low h = rw (lt-ltb 1 (length ms) some, ← p, h)

  -- the largest is above 64: the quotient tells
  pub spread-high : Ieee.lt floor64 l ≡ true → spread_is_high (Ieee.div binary64 l (max_of s floor64)) ≡ is_spread ms
  unfolding is_spread
  spread-high h = rw (lt-ltb 1 (length ms) some, ← p, ← q, h)
