-- What a frame that is named has.
use Rattle.std.specs.Prelude.{Ok}
use Rattle.std.specs.Int.Signed.{pos-nat_abs}
use mathlib.Core.Path.{◌≡◌}
use mathlib.Core.Bool.{Bool, true}
use mathlib.Core.List.{List}
use Prim.Native.Nat.{ℕ, ◌≤◌}
use native.Mathlib.Omega.{arith}
use lib.IntN.{ℤ, pos, nat_abs}
use lib.ListN.{length, get_or}
use Rattle.sbr_grid.specs.Grid.{Grid, view_of, record_of}
use Rattle.std.specs.List.{list_all}
use Rattle.sbr_writer.specs.Write.{writable}
use Rattle.sbr_named.specs.Shapes.{named_grid}
use Rattle.sbr_named.specs.Code.{is_border}
use Rattle.sbr_named.proofs.Chosen.{named_is_first}
use Rattle.sbr_named.proofs.Limits.{limits}
use Rattle.sbr_named.proofs.Signed.{border_at}
use Rattle.sbr_make.specs.Making.{Making, add_frame}

-- so is a border
pub border_pos : (zs : List ℤ) (i : ℕ) → list_all is_border zs ≡ true → pos (nat_abs (get_or zs i (pos 0))) ≡ get_or zs i (pos 0)
border_pos zs i e = pos-nat_abs (get_or zs i (pos 0)) (border_at zs i e).positive

-- a grid that is chosen can be written and is the view of its record; there are two borders or more, each such as a frame can have
pub record Choice (zs : List ℤ) (g : Grid) : Type 0 where
  pub fits : writable g ≡ true
  pub kept : view_of (record_of g) ≡ g
  pub some : 2 ≤ length zs
  pub borders : list_all is_border zs ≡ true

-- so it is of every grid that is chosen
pub choice : (n : ℕ) (zs : List ℤ) (res : List Bool) (mark : ℤ) (g : Grid) → named_grid n zs res mark ≡ Ok g → Choice zs g
choice n zs res mark g e =
    let f = named_is_first n zs res mark g e in
    let l = limits n zs res mark g f.has in
    record { fits = f.has.fits; kept = f.kept; some = omega arith; borders = l.borders }

-- a frame of the same borders and the same grid adds the same
pub frame_as : (m : Making) (a b c d : ℤ) (g h : Grid) → a ≡ b → c ≡ d → g ≡ h → add_frame m a c g ≡ add_frame m b d h
frame_as m a b c d g h p q r = rw (p, q, r)
