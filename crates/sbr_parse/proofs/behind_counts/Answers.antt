-- `sbr_parse::behind_counts` meets its contract.
use mathlib.Core.Path.{◌≡◌, ◌∙◌}
use Prim.Native.Nat.{◌+◌, ◌*◌, ◌/◌, ◌%◌, ◌^◌, ◌≤◌}
use native.Mathlib.Nat.{mod-lt, lt_of_lt_of_le}
use native.Mathlib.Omega.{arith}
use lib.Pow.{pow_pos, pow_mono}
use Rattle.bits.specs.Bits.{bits_of}
use Rattle.bits.proofs.Numbers.{bits_of-mod}
use Rattle.sbr_grid.proofs.Widths.{pointer_narrow}
use Rattle.sbr_grid.specs.Grid.{ptr_bits}
use Rattle.sbr_parse.specs.Parse.{twos_of}
use Rattle.sbr_parse.proofs.Taken.{took, stopped}
use Rattle.sbr_parse.proofs.ParseLists.{twos-mod}
use Rattle.sbr_parse.proofs.ParseLaws.{behind_short, behind_given}
use Rattle.sbr_parse.proofs.behind_counts.Goals as goal

pub returns-in_err-leading : goal.returns-in_err-leading
returns-in_err-leading c =
    let a = c.args in
    let e = stopped (2 * a.head.num_rel_0) a.body c.take.result _ c.from_residual.result c.take.ensures c.in_err-leading.was c.from_residual.ensures.1 in
    rw (e.is, behind_short a.head.frame_class a.head.var_bord_0 a.head.var_bord_1 a.head.num_rel_0 a.head.num_rel_1 a.body.width a.body.value (omega (arith, e.few)))

pub returns-in_err-trailing : goal.returns-in_err-trailing
returns-in_err-trailing c =
    let a = c.args in
    let t1 = took (2 * a.head.num_rel_0) a.body c.take.result c.in_ok-leading.leading c.in_ok-leading.behind_leading c.take.ensures c.in_ok-leading.was in
    let e = stopped (2 * a.head.num_rel_1) c.in_ok-leading.behind_leading c.take-2.result _ c.from_residual-in_err-trailing.result c.take-2.ensures c.in_err-trailing.was c.from_residual-in_err-trailing.ensures.1 in
    rw (e.is, behind_short a.head.frame_class a.head.var_bord_0 a.head.var_bord_1 a.head.num_rel_0 a.head.num_rel_1 a.body.width a.body.value (omega (arith, e.few, t1.width)))

pub take-requires-3 : goal.take-requires-3
take-requires-3 c =
    let narrow : c.ptr_bits.result ≤ 3 = rw c.ptr_bits.ensures (pointer_narrow (c.args.head.num_rel_0 + c.args.head.num_rel_1 + 1) (omega arith)) in
    omega (arith, narrow)

pub returns-in_err-pointer : goal.returns-in_err-pointer
returns-in_err-pointer c =
    let a = c.args in
    let t1 = took (2 * a.head.num_rel_0) a.body c.take.result c.in_ok-leading.leading c.in_ok-leading.behind_leading c.take.ensures c.in_ok-leading.was in
    let t2 = took (2 * a.head.num_rel_1) c.in_ok-leading.behind_leading c.take-2.result c.in_ok-trailing.trailing c.in_ok-trailing.behind_trailing c.take-2.ensures c.in_ok-trailing.was in
    let e = stopped c.ptr_bits.result c.in_ok-trailing.behind_trailing c.take-3.result _ c.from_residual-in_err-pointer.result c.take-3.ensures c.in_err-pointer.was c.from_residual-in_err-pointer.ensures.1 in
    rw (e.is, behind_short a.head.frame_class a.head.var_bord_0 a.head.var_bord_1 a.head.num_rel_0 a.head.num_rel_1 a.body.width a.body.value (omega (arith, e.few, t1.width, t2.width, c.ptr_bits.ensures)))

pub returns-in_err-flags : goal.returns-in_err-flags
returns-in_err-flags c =
    let a = c.args in
    let t1 = took (2 * a.head.num_rel_0) a.body c.take.result c.in_ok-leading.leading c.in_ok-leading.behind_leading c.take.ensures c.in_ok-leading.was in
    let t2 = took (2 * a.head.num_rel_1) c.in_ok-leading.behind_leading c.take-2.result c.in_ok-trailing.trailing c.in_ok-trailing.behind_trailing c.take-2.ensures c.in_ok-trailing.was in
    let t3 = took c.ptr_bits.result c.in_ok-trailing.behind_trailing c.take-3.result c.in_ok-pointer.pointer c.in_ok-pointer.behind_pointer c.take-3.ensures c.in_ok-pointer.was in
    let e = stopped _ c.in_ok-pointer.behind_pointer c.take-4.result _ c.from_residual-in_err-flags.result c.take-4.ensures c.in_err-flags.was c.from_residual-in_err-flags.ensures.1 in
    rw (e.is, behind_short a.head.frame_class a.head.var_bord_0 a.head.var_bord_1 a.head.num_rel_0 a.head.num_rel_1 a.body.width a.body.value (omega (arith, e.few, t1.width, t2.width, t3.width, c.ptr_bits.ensures)))

pub overflow_cast-result : goal.overflow_cast-result
overflow_cast-result c =
    let a = c.args in
    let t3 = took c.ptr_bits.result c.in_ok-trailing.behind_trailing c.take-3.result c.in_ok-pointer.pointer c.in_ok-pointer.behind_pointer c.take-3.ensures c.in_ok-pointer.was in
    let narrow : c.ptr_bits.result ≤ 3 = rw c.ptr_bits.ensures (pointer_narrow (a.head.num_rel_0 + a.head.num_rel_1 + 1) (omega arith)) in
    rw t3.number (record { fits = lt_of_lt_of_le (mod-lt _ (pow_pos _)) (pow_mono {j = 8} (omega (arith, narrow))) })

pub returns : goal.returns
returns c =
    let a = c.args in
    let t1 = took (2 * a.head.num_rel_0) a.body c.take.result c.in_ok-leading.leading c.in_ok-leading.behind_leading c.take.ensures c.in_ok-leading.was in
    let t2 = took (2 * a.head.num_rel_1) c.in_ok-leading.behind_leading c.take-2.result c.in_ok-trailing.trailing c.in_ok-trailing.behind_trailing c.take-2.ensures c.in_ok-trailing.was in
    let t3 = took c.ptr_bits.result c.in_ok-trailing.behind_trailing c.take-3.result c.in_ok-pointer.pointer c.in_ok-pointer.behind_pointer c.take-3.ensures c.in_ok-pointer.was in
    let t4 = took _ c.in_ok-pointer.behind_pointer c.take-4.result c.in_ok-flags.flags c.in_ok-flags.rest c.take-4.ensures c.in_ok-flags.was in
    let n = a.head.num_rel_0 + a.head.num_rel_1 + 1 in
    let v = a.body.value in
    let v2 : c.in_ok-trailing.behind_trailing.value ≡ v = t2.value ∙ t1.value in
    let v3 : c.in_ok-pointer.behind_pointer.value ≡ v = t3.value ∙ v2 in
    let q0 = c.in_ok-leading.behind_leading.width in
    let q1 = c.in_ok-trailing.behind_trailing.width in
    let q2 = c.in_ok-pointer.behind_pointer.width in
    let m = c.in_ok-flags.rest.width in
    let lead : twos_of a.head.num_rel_0 c.in_ok-leading.leading ≡ twos_of a.head.num_rel_0 (v / 2 ^ q0) = rw t1.number (twos-mod a.head.num_rel_0 a.head.num_rel_0 (v / 2 ^ q0) (omega arith)) in
    let trail : twos_of a.head.num_rel_1 c.in_ok-trailing.trailing ≡ twos_of a.head.num_rel_1 (v / 2 ^ q1) = rw (t2.number, t1.value) (twos-mod a.head.num_rel_1 a.head.num_rel_1 (v / 2 ^ q1) (omega arith)) in
    let point : c.in_ok-pointer.pointer ≡ v / 2 ^ q2 % 2 ^ ptr_bits n = rw (t3.number, v2, c.ptr_bits.ensures) in
    let res : bits_of n c.in_ok-flags.flags ≡ bits_of n (v / 2 ^ m) = rw (t4.number, v3) (bits_of-mod n (v / 2 ^ m)) in
    rw (c.noise_of.ensures, c.resolutions.ensures, c.lengths.ensures, c.lengths-2.ensures, lead, trail, point, res)
    (behind_given a.head.frame_class a.head.var_bord_0 a.head.var_bord_1 a.head.num_rel_0 a.head.num_rel_1 a.body.width q0 q1 q2 m v c.requires.counted t1.width t2.width (rw c.ptr_bits.ensures at t3.width) t4.width)
