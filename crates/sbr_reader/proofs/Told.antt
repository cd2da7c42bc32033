-- What a reading that answers tells of its frame: one walk through the tests of a reading.
use Rattle.std.specs.Prelude.{Ok, Err}
use mathlib.Core.Path.{◌≡◌, refl, subst}
use mathlib.Core.Bool.{Bool}
use mathlib.Core.List.{List}
use Prim.Native.Nat.{ℕ, ◌+◌, ◌-◌}
use native.Mathlib.Omega.{arith}
use lib.IntN.{pos}
use lib.ListN.{length, get_or}
use Rattle.bits.specs.Room.{bits_from}
use Rattle.sbr_grid.specs.Refusals.{Outcome}
use Rattle.sbr_grid.specs.Grid.{Grid, num_env_of}
use Rattle.sbr_grid.specs.Times.{Times, is_number, is_slot_count}
use Rattle.sbr_grid.proofs.Number.{number_is}
use Rattle.sbr_grid.proofs.Outcomes.{unless_answered}
use Rattle.sbr_time_grid.specs.TimeGrid.{time_grid}
use Rattle.sbr_parse.specs.Syntax.{sbr_grid}
use Rattle.sbr_reader.specs.declared.Carried.{Carried}
use Rattle.sbr_reader.specs.Read.{Accepted, marks_end, meets, timed, parsed, read_grid}
use Rattle.sbr_reader.proofs.ReadLaws.{frame_of}

-- its record is what the bits bs begin with, its time grid is that record's, it begins at the carried border and leaves its last one, its position is
-- behind the bits of the record, and of the two flags the first was handed in and the second is that of its mark
pub record FrameTold (n : ℕ) (c : Carried) (p : ℕ) (bs : List Bool) (f : Accepted) : Type 0 where
  pub rest : List Bool
  pub syntax : sbr_grid bs ≡ Ok (f.grid, rest)
  pub derived : time_grid n f.grid ≡ Ok f.time
  pub meets : c.border ≡ pos (get_or f.time.t_e 0 0 + n)
  pub border : f.border ≡ get_or f.time.t_e (num_env_of f.grid) 0
  pub position : f.position ≡ p + (length bs - length rest)
  pub begins : f.begins_on_attack ≡ c.attack
  pub ends : f.ends_on_attack ≡ marks_end f.grid f.time

module _ (n : ℕ) (c : Carried) (p : ℕ) (bs : List Bool) (f : Accepted) where
  -- of a frame whose time grid came to o
  by-times : (g : Grid) (rest : List Bool) (o : Outcome Times) → sbr_grid bs ≡ Ok (g, rest) → time_grid n g ≡ o
      → timed n c g (p + (length bs - length rest)) o ≡ Ok f → FrameTold n c p bs f
  unfolding meets
  by-times g rest (Err x) h e k = let z : ◌≡◌ {A = ℕ} 0 1 = cc in absurd (omega arith)
  by-times g rest (Ok t) h e k =
      let m = unless_answered (is_number c.border (get_or t.t_e 0 0 + n)) _ _ k in
      let w : frame_of c.attack g (p + (length bs - length rest)) t ≡ f = cc m.1 in
      subst (λ (x : Accepted). FrameTold n c p bs x) w
      (record {
        rest = rest;
        syntax = h;
        derived = e;
        meets = number_is c.border (get_or t.t_e 0 0 + n) m.0;
        border = refl;
        position = refl;
        begins = refl;
        ends = refl;
      })

  -- of a frame whose bits came to o
  by_bits : (o : Outcome (Grid × List Bool)) → sbr_grid bs ≡ o → parsed n c p (length bs) o ≡ Ok f → FrameTold n c p bs f
  by_bits (Err x) e k = let z : ◌≡◌ {A = ℕ} 0 1 = cc in absurd (omega arith)
  by_bits (Ok r) e k = by-times r.0 r.1 (time_grid n r.0) e refl k

pub told_frame : (l : List ℕ) (p n : ℕ) (c : Carried) (f : Accepted) → read_grid l p n c ≡ Ok f → FrameTold n c p (bits_from l p) f
unfolding read_grid
told_frame l p n c f h = by_bits n c p (bits_from l p) f (sbr_grid (bits_from l p)) refl (unless_answered (is_slot_count n) _ _ h).1
