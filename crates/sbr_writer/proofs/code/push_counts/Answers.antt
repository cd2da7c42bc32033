-- `sbr_writer::code::push_counts` meets its contract.
use Rattle.sbr_grid.proofs.First.{first-length}
use mathlib.Core.Bool.{false}
use Rattle.sbr_writer.specs.Code.{before_flags}
use Rattle.sbr_writer.proofs.Body.{fixvar_told, varfix_told}
use native.Mathlib.Omega.{arith}
use Rattle.sbr_writer.proofs.code.push_counts.Goals as goal

pub trailing-requires : goal.trailing-requires
trailing-requires c = omega (arith, (fixvar_told c.args.g.now c.requires.writable c.in-FixVar.is).few)

pub one_side-requires-clause-few : goal.one_side-requires-clause-few
one_side-requires-clause-few c = let t = fixvar_told c.args.g.now c.requires.writable c.in-FixVar.is in rw c.trailing.ensures (omega (arith, t.few, t.count))

pub one_side-requires-clause-small : goal.one_side-requires-clause-small
one_side-requires-clause-small c = let t = fixvar_told c.args.g.now c.requires.writable c.in-FixVar.is in rw c.trailing.ensures t.small

pub one_side-requires-clause-pointed : goal.one_side-requires-clause-pointed
one_side-requires-clause-pointed c = let t = fixvar_told c.args.g.now c.requires.writable c.in-FixVar.is in rw c.trailing.ensures (omega (arith, t.pointed, t.count))

pub leading-requires : goal.leading-requires
leading-requires c = omega (arith, (varfix_told c.args.g.now c.requires.writable c.in-VarFix.is).few)

pub one_side-requires-in-VarFix-clause-few : goal.one_side-requires-in-VarFix-clause-few
one_side-requires-in-VarFix-clause-few c = let t = varfix_told c.args.g.now c.requires.writable c.in-VarFix.is in rw c.leading.ensures (omega (arith, t.few, t.count))

pub one_side-requires-in-VarFix-clause-small : goal.one_side-requires-in-VarFix-clause-small
one_side-requires-in-VarFix-clause-small c = let t = varfix_told c.args.g.now c.requires.writable c.in-VarFix.is in rw c.leading.ensures t.small

pub one_side-requires-in-VarFix-clause-pointed : goal.one_side-requires-in-VarFix-clause-pointed
one_side-requires-in-VarFix-clause-pointed c = let t = varfix_told c.args.g.now c.requires.writable c.in-VarFix.is in rw c.leading.ensures (omega (arith, t.pointed, t.count))

pub returns-in-FixFix : goal.returns-in-FixFix
unfolding before_flags
returns-in-FixFix c = let g = c.args.g.now in rw (c.in-FixFix.is, first-length false g.num_env g.freq_res, ← c.env_code.ensures) c.push.ensures

pub returns-in-FixVar : goal.returns-in-FixVar
unfolding before_flags
returns-in-FixVar c = rw (c.in-FixVar.is, ← c.trailing.ensures) c.one_side.ensures

pub returns-in-VarFix : goal.returns-in-VarFix
unfolding before_flags
returns-in-VarFix c = rw (c.in-VarFix.is, ← c.leading.ensures) c.one_side-in-VarFix.ensures

pub returns-in-VarVar : goal.returns-in-VarVar
unfolding before_flags
returns-in-VarVar c = rw c.in-VarVar.is c.two_sides.ensures
