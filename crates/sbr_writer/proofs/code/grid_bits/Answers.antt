-- `sbr_writer::code::grid_bits` meets its contract.
use Rattle.sbr_grid.specs.Grid.{view_of}
use Rattle.sbr_grid.proofs.Laws.{lengths}
use Rattle.sbr_writer.specs.Code.{Space}
use Rattle.std.proofs.lemmas.Bool.{and_parts}
use Rattle.sbr_writer.proofs.Writable.{told}
use Rattle.sbr_writer.proofs.Gather.{space_field, space_then}
use Rattle.sbr_writer.proofs.Body.{length_counts, whole}
use native.Mathlib.Omega.{arith}
use Rattle.sbr_writer.proofs.code.grid_bits.Goals as goal

pub push_counts-counts-requires-clause-space : goal.push_counts-counts-requires-clause-space
push_counts-counts-requires-clause-space c =
    space_field {m = 31} 2 c.from.result (record { room = omega arith; small = omega arith }) c.push-class.ensures (omega arith)

pub push_flags-requires-clause-space : goal.push_flags-requires-clause-space
push_flags-requires-clause-space c =
    let b = and_parts _ _ c.requires in
    let space : Space c.push-class.result 29 = space_field {m = 31} 2 c.from.result (record { room = omega arith; small = omega arith }) c.push-class.ensures (omega arith) in
    space_then space c.push_counts-counts.ensures (omega (arith, length_counts c.args.g.now.frame_class (view_of c.args.g.now) b.0 b.1, (lengths c.args.g.now).env))

pub push_flags-requires-clause-some : goal.push_flags-requires-clause-some
push_flags-requires-clause-some c = omega (arith, (told c.args.g.now (and_parts _ _ c.requires).0).numbers.some)

pub push_flags-requires-clause-few : goal.push_flags-requires-clause-few
push_flags-requires-clause-few c = (told c.args.g.now (and_parts _ _ c.requires).0).numbers.most

pub returns : goal.returns
returns c =
    whole (view_of c.args.g.now) _ _ _ _ c.from.ensures (and_parts _ _ c.requires).1 c.push-class.ensures c.push_counts-counts.ensures c.push_flags.ensures
