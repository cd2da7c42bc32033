-- `sbr_writer::code::one_side` meets its contract.
use mathlib.Core.List.{[], ◌∷◌}
use Prim.Native.Nat.{◌+◌, ◌≤◌}
use lib.ListN.{length}
use Rattle.sbr_grid.proofs.Widths.{pointer_narrow}
use Rattle.sbr_writer.proofs.Gather.{length-twos, two_small, chain, space_then, narrow, pointer_fits}
use Rattle.sbr_writer.specs.Code.{Space}
use native.Mathlib.Omega.{arith}
use Rattle.sbr_writer.proofs.code.one_side.Goals as goal

pub push_twos-counted-requires-clause-space : goal.push_twos-counted-requires-clause-space
push_twos-counted-requires-clause-space c = narrow c.requires.space (omega (arith, length-twos (c.args.bord ∷ length c.args.rel.now ∷ [])))

pub push_twos-counted-requires-clause-small : goal.push_twos-counted-requires-clause-small
push_twos-counted-requires-clause-small c = two_small c.args.bord (length c.args.rel.now) c.requires.bord c.requires.few

pub push_twos-lengths-requires : goal.push_twos-lengths-requires
push_twos-lengths-requires c =
    let rel = c.args.rel.now in
    -- past the border byte and the count there is room for the rest
    let space : Space c.push_twos-counted.result 9 = space_then c.requires.space c.push_twos-counted.ensures (omega (arith, length-twos (c.args.bord ∷ length rel ∷ []))) in
    record { space = narrow space (omega arith); small = c.requires.small }

pub push-requires : goal.push-requires
push-requires c =
    let rel = c.args.rel.now in
    let space : Space c.push_twos-counted.result 9 = space_then c.requires.space c.push_twos-counted.ensures (omega (arith, length-twos (c.args.bord ∷ length rel ∷ []))) in
    let w : c.ptr_bits.result ≤ 3 = rw c.ptr_bits.ensures (pointer_narrow (length rel + 1) (omega arith)) in (
      space_then space c.push_twos-lengths.ensures (omega (arith, length-twos rel, w)),
      pointer_fits (length rel + 1) c.args.pointer _ c.requires.pointed c.ptr_bits.ensures,
    )

pub returns : goal.returns
returns c =
    rw (← c.ptr_bits.ensures)
    (chain c.push_twos-counted.ensures (chain c.push_twos-lengths.ensures c.push.ensures))
