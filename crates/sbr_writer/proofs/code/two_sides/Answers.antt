-- `sbr_writer::code::two_sides` meets its contract.
use mathlib.Core.Bool.{false}
use mathlib.Core.List.{[], ◌∷◌}
use Prim.Native.Nat.{◌-◌, ◌*◌, ◌≤◌}
use Rattle.sbr_grid.proofs.First.{first-length}
use Rattle.sbr_grid.proofs.Widths.{pointer_narrow}
use Rattle.sbr_writer.specs.Code.{Space}
use Rattle.sbr_writer.proofs.Gather.{length-twos, four_small, chain, narrow, space_then, pointer_fits}
use Rattle.sbr_writer.proofs.Body.{varvar_told}
use native.Mathlib.Omega.{arith}
use Rattle.sbr_writer.proofs.code.two_sides.Goals as goal

pub overflow_cast-counts : goal.overflow_cast-counts
overflow_cast-counts c = let t = varvar_told c.args.g.now c.requires.fields c.requires.counts in omega (arith, t.few_0)

pub overflow_cast-counts-2 : goal.overflow_cast-counts-2
overflow_cast-counts-2 c = let t = varvar_told c.args.g.now c.requires.fields c.requires.counts in omega (arith, t.few_1)

pub push_twos-counted-requires-clause-space : goal.push_twos-counted-requires-clause-space
push_twos-counted-requires-clause-space c =
    narrow c.requires.space (omega (arith, length-twos (c.args.g.now.var_bord_0 ∷ c.args.g.now.var_bord_1 ∷ c.args.g.now.num_rel_0 ∷ c.args.g.now.num_rel_1 ∷ [])))

pub push_twos-counted-requires-clause-small : goal.push_twos-counted-requires-clause-small
push_twos-counted-requires-clause-small c =
    let t = varvar_told c.args.g.now c.requires.fields c.requires.counts in
    four_small c.args.g.now.var_bord_0 c.args.g.now.var_bord_1 c.args.g.now.num_rel_0 c.args.g.now.num_rel_1 t.bord_0 t.bord_1 t.few_0 t.few_1

pub leading-requires : goal.leading-requires
leading-requires c = let t = varvar_told c.args.g.now c.requires.fields c.requires.counts in omega (arith, t.few_0)

pub push_twos-leading-requires-clause-space : goal.push_twos-leading-requires-clause-space
push_twos-leading-requires-clause-space c =
    let t = varvar_told c.args.g.now c.requires.fields c.requires.counts in
    let space1 : Space c.push_twos-counted.result 11 = space_then c.requires.space c.push_twos-counted.ensures (omega (arith, length-twos (c.args.g.now.var_bord_0 ∷ c.args.g.now.var_bord_1 ∷ c.args.g.now.num_rel_0 ∷ c.args.g.now.num_rel_1 ∷ []))) in
    narrow space1 (rw c.leading.ensures (omega (arith, t.count_0, t.few_0)))

pub push_twos-leading-requires-clause-small : goal.push_twos-leading-requires-clause-small
push_twos-leading-requires-clause-small c =
    let t = varvar_told c.args.g.now c.requires.fields c.requires.counts in
    rw c.leading.ensures t.small_0

pub push_twos-lengths-requires-clause-space : goal.push_twos-lengths-requires-clause-space
push_twos-lengths-requires-clause-space c =
    let t = varvar_told c.args.g.now c.requires.fields c.requires.counts in
    let space1 : Space c.push_twos-counted.result 11 = space_then c.requires.space c.push_twos-counted.ensures (omega (arith, length-twos (c.args.g.now.var_bord_0 ∷ c.args.g.now.var_bord_1 ∷ c.args.g.now.num_rel_0 ∷ c.args.g.now.num_rel_1 ∷ []))) in
    let space2 : Space c.push_twos-leading.result (11 - 2 * c.args.g.now.num_rel_0) = space_then space1 c.push_twos-leading.ensures (rw (length-twos, c.leading.ensures) (omega (arith, t.count_0, t.few_0))) in
    narrow space2 (rw c.trailing.ensures (omega (arith, t.count_1, t.total, t.most)))

pub push_twos-lengths-requires-clause-small : goal.push_twos-lengths-requires-clause-small
push_twos-lengths-requires-clause-small c =
    let t = varvar_told c.args.g.now c.requires.fields c.requires.counts in
    rw c.trailing.ensures t.small_1

pub push-requires : goal.push-requires
push-requires c =
    let t = varvar_told c.args.g.now c.requires.fields c.requires.counts in
    let space1 : Space c.push_twos-counted.result 11 = space_then c.requires.space c.push_twos-counted.ensures (omega (arith, length-twos (c.args.g.now.var_bord_0 ∷ c.args.g.now.var_bord_1 ∷ c.args.g.now.num_rel_0 ∷ c.args.g.now.num_rel_1 ∷ []))) in
    let space2 : Space c.push_twos-leading.result (11 - 2 * c.args.g.now.num_rel_0) = space_then space1 c.push_twos-leading.ensures (rw (length-twos, c.leading.ensures) (omega (arith, t.count_0, t.few_0))) in
    let space3 : Space c.push_twos-lengths.result 3 = space_then space2 c.push_twos-lengths.ensures (rw (length-twos, c.trailing.ensures) (omega (arith, t.count_1, t.total, t.most))) in
    let width : c.ptr_bits.result ≤ 3 = rw c.ptr_bits.ensures (pointer_narrow c.args.g.now.num_env t.most) in
    (narrow space3 width, pointer_fits c.args.g.now.num_env _ _ t.pointed c.ptr_bits.ensures)

pub returns : goal.returns
returns c =
    let g = c.args.g.now in
    rw (
      first-length false g.num_env g.freq_res,
      first-length 0 g.num_rel_0 g.rel_bord_0,
      first-length 0 g.num_rel_1 g.rel_bord_1,
      ← c.ptr_bits.ensures,
      ← c.leading.ensures,
      ← c.trailing.ensures,
    )
    (chain c.push_twos-counted.ensures (chain c.push_twos-leading.ensures (chain c.push_twos-lengths.ensures c.push.ensures)))
