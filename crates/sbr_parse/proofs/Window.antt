-- Reading looks at the first 26 bits only.
use Rattle.std.specs.Prelude.{Ok, Err}
use mathlib.Core.Path.{◌≡◌}
use mathlib.Core.Bool.{Bool}
use mathlib.Core.List.{List, ◌++◌, append_assoc}
use Prim.Native.Nat.{◌≤◌}
use lib.ListN.{length}
use Rattle.sbr_grid.specs.Refusals.{Outcome}
use Rattle.sbr_parse.specs.Syntax.{sbr_grid}
use Rattle.sbr_parse.proofs.Monad.{Seen}
use Rattle.sbr_parse.proofs.Inverse.{Sent, seen_grid}

-- the outcome with more bits behind what is left
abbrev pub behind : {A : Type 0} → List Bool → Outcome (A × List Bool) → Outcome (A × List Bool)
behind ys (Ok p) = Ok (p.0, p.1 ++ ys)
behind ys (Err e) = Err e

-- bits behind the first 26 do not change what is read
pub prefix_reads : (xs ys : List Bool) → 26 ≤ length xs → sbr_grid (xs ++ ys) ≡ behind ys (sbr_grid xs)
prefix_reads xs ys l = go (seen_grid xs)
  where
    go : Seen 26 Sent sbr_grid xs → sbr_grid (xs ++ ys) ≡ behind ys (sbr_grid xs)
    go (Seen.full a u r e j p b) =
        rw (e, append_assoc u r ys, b.reads (r ++ ys), b.reads r)
    go (Seen.none e q never) = rw (never l ys, q)
