-- `sbr_encoder::energies` meets its contract.
use Prim.Native.Nat.{◌-◌}
use native.Mathlib.Omega.{arith}
use lib.ListN.{length}
use Rattle.sbr_bands.proofs.TableLaws.{tables}
use Rattle.sbr_grid.proofs.Slots.{slot_range}
use Rattle.sbr_encoder.proofs.energies.Goals as goal

pub bounds-high-0 : goal.bounds-high-0
bounds-high-0 c = omega (arith, (tables _ _ c.args.frame.samples.ready.tables).high.some)

pub overflow_sub-k_end : goal.overflow_sub-k_end
overflow_sub-k_end c = omega (arith, (tables _ _ c.args.frame.samples.ready.tables).high.some)

pub bounds-high-high : goal.bounds-high-high
bounds-high-high c = omega (arith, (tables _ _ c.args.frame.samples.ready.tables).high.some)

pub slot_energies-requires : goal.slot_energies-requires
slot_energies-requires c =
    let ready = c.args.frame.samples.ready in
    let t = (tables _ _ ready.tables).high in
    let l = length c.args.frame.samples.tables.high.now - 1 in
    (omega (arith, slot_range _ c.args.frame.counted, c.args.frame.framed), ready.inside, omega (arith, t.rising 0 l (omega (arith, t.some)) (omega (arith, t.some))), t.by64 l (omega (arith, t.some)), ready.enough)
