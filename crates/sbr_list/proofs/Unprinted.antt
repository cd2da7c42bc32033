-- No line depends on the flag that is carried.
use Rattle.std.specs.Prelude.{Ok, Err}
use mathlib.Core.Path.{◌≡◌, refl}
use mathlib.Core.Bool.{Bool}
use mathlib.Core.List.{List}
use Prim.Native.Nat.{ℕ, zero, suc, ◌+◌}
use Rattle.sbr_grid.specs.Refusals.{Outcome}
use Rattle.sbr_reader.specs.declared.Carried.{Carried}
use Rattle.sbr_reader.specs.Read.{Accepted, read_grid, carrying, starting}
use Rattle.sbr_reader.specs.Flag.{begun}
use Rattle.sbr_reader.proofs.Flag.{flag_only_told}
use Rattle.sbr_list.specs.Listing.{frame_line, and_then, lines_from, FlagUnprinted}

-- a line shows no flag, nor does what follows it
line_unprinted : (i : ℕ) (rest : ℕ → Carried → List ℕ) (a : Bool) (o : Outcome Accepted)
    → and_then i (λ f. rest f.position (carrying f.border f.ends_on_attack)) (begun a o)
    ≡ and_then i (λ f. rest f.position (carrying f.border f.ends_on_attack)) o
unfolding frame_line
line_unprinted i rest a (Ok f) = refl
line_unprinted i rest a (Err e) = refl

pub flag_unprinted : FlagUnprinted
unfolding lines_from
flag_unprinted l n zero i p b a = refl
flag_unprinted l n (suc k) i p b a = rw (flag_only_told l p n b a) (line_unprinted i (lines_from l n k (i + 1)) a (read_grid l p n (starting b)))
