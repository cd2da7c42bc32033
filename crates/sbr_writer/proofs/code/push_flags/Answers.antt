-- `sbr_writer::code::push_flags` meets its contract.
use mathlib.Core.Path.{◌≡◌, ◌∙◌}
use mathlib.Core.Bool.{Bool, false}
use mathlib.Core.List.{List, reverse}
use mathlib.Core.Logic.{◌⊎◌, inl, inr}
use native.Mathlib.Omega.{arith}
use lib.ListN.{length-reverse}
use Rattle.sbr_grid.specs.declared.FrameClass.{FrameClass}
use Rattle.sbr_grid.specs.declared.FrameClass.TheVariants.{VarFix, VarVar}
use Rattle.sbr_grid.specs.Grid.{first}
use Rattle.sbr_grid.proofs.First.{first-length, first-get_or}
use Rattle.sbr_writer.specs.Code.{sent_flags}
use Rattle.sbr_writer.proofs.Gather.{packed_flags, behind, one_bit}
use Rattle.sbr_writer.proofs.code.push_flags.Goals as goal

-- the classes that send them in their order
forward : (k : FrameClass) (fl : List Bool) → (k ≡ VarFix) ⊎ (k ≡ VarVar) → sent_flags k fl ≡ fl
unfolding sent_flags
forward k fl (inl e) = rw e
forward k fl (inr e) = rw e

pub push-requires-in-FixVar : goal.push-requires-in-FixVar
push-requires-in-FixVar c =
    let g = c.args.g.now in
    let fl = first false g.num_env g.freq_res in
    let p = packed_flags (reverse fl) g.num_env (length-reverse fl ∙ first-length false g.num_env g.freq_res) (omega arith) in
    (c.requires.space, rw (c.joined_back.ensures, c.resolutions.ensures) p.fits)

pub push-requires-in-VarFix : goal.push-requires-in-VarFix
push-requires-in-VarFix c =
    let g = c.args.g.now in
    let p = packed_flags (first false g.num_env g.freq_res) g.num_env (first-length false g.num_env g.freq_res) (omega arith) in
    (c.requires.space, rw (c.joined_flags.ensures, c.resolutions-in-VarFix.ensures) p.fits)

pub returns-in-FixFix : goal.returns-in-FixFix
unfolding sent_flags
returns-in-FixFix c =
    let g = c.args.g.now in
    rw (c.in-FixFix.is, first-get_or false g.num_env 0 g.freq_res c.requires.some, ← one_bit) (rw c.from.ensures at c.push.ensures)

pub returns-in-FixVar : goal.returns-in-FixVar
unfolding sent_flags
returns-in-FixVar c =
    let g = c.args.g.now in
    let fl = first false g.num_env g.freq_res in
    let p = packed_flags (reverse fl) g.num_env (length-reverse fl ∙ first-length false g.num_env g.freq_res) (omega arith) in
    rw c.in-FixVar.is (behind p (rw (c.joined_back.ensures, c.resolutions.ensures) at c.push-in-FixVar.ensures))

pub returns-in-VarFix : goal.returns-in-VarFix
returns-in-VarFix c =
    let g = c.args.g.now in
    let fl = first false g.num_env g.freq_res in
    let p = packed_flags fl g.num_env (first-length false g.num_env g.freq_res) (omega arith) in
    rw (forward g.frame_class fl c.in-VarFix.is) (behind p (rw (c.joined_flags.ensures, c.resolutions-in-VarFix.ensures) at c.push-in-VarFix.ensures))
