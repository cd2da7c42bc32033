-- What a line adds, by its kind.
use mathlib.Core.Path.{◌≡◌}
use mathlib.Core.Bool.{Bool}
use mathlib.Core.List.{List}
use Prim.Native.Nat.{ℕ, ◌≤◌}
use borrow.Author.Tests.{le-leb}
use lib.Dec.{leb}
use lib.IntN.{ℤ}
use Rattle.sbr_grid.specs.declared.Refusal.TheVariants.{Room}
use Rattle.sbr_grid.specs.Refusals.{unless}
use Rattle.sbr_text.specs.declared.Kind.{Kind}
use Rattle.sbr_text.specs.Parts.{LineParts, kind_of}
use Rattle.sbr_make.specs.Making.{Making, name_frame, add_by_kind, add_line, most_text}

-- a line that ends within the longest text adds what its kind does
pub by_kind : (m : Making) (s : LineParts) (k : Kind) (end : ℕ) → end ≤ most_text → k ≡ kind_of s
    → add_by_kind m s k ≡ unless (leb end most_text) Room (add_line m s)
unfolding add_line
by_kind m s k end h e = rw (le-leb end most_text h, e)

-- a line of the same borders, resolutions and mark names the same frame
pub named_as : (m : Making) (a b : List ℤ) (c d : List Bool) (y z : ℤ) → a ≡ b → c ≡ d → y ≡ z → name_frame m a c y ≡ name_frame m b d z
named_as m a b c d y z p q r = rw (p, q, r)
