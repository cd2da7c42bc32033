-- The first line of several, by how it ends.
use Rattle.std.specs.Prelude.{Ok, Err}
use mathlib.Core.Path.{◌≡◌}
use mathlib.Core.List.{List, ◌∷◌}
use Prim.Native.Nat.{ℕ, suc, ◌+◌, ◌≤◌, ◌<◌}
use borrow.Author.Tests.{le-leb, lt-leb}
use lib.ListN.{length}
use Rattle.sbr_grid.specs.declared.Refusal.TheVariants.{Room}
use Rattle.sbr_text.specs.Parts.{read_line}
use Rattle.sbr_make.specs.Making.{Making, add_line, refused_at, most_text, made_from}

module _ (i at : ℕ) (m : Making) (l : List ℕ) (ls : List (List ℕ)) where
  -- a line that is added in front of others
  pub made-on : at + length l ≤ most_text → (a : Making) → add_line m (read_line l) ≡ Ok a
      → made_from i at m (l ∷ ls) ≡ made_from (suc i) (at + length l + 1) a ls
  unfolding made_from
  made-on h a e = rw (le-leb (at + length l) most_text h, e)

  -- a line that ends past the longest text
  pub made-long : most_text < at + length l → made_from i at m (l ∷ ls) ≡ Err (refused_at (suc i) Room)
  unfolding made_from
  made-long h = rw (lt-leb (at + length l) most_text h)
