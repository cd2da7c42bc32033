use mathlib.Core.Path.{◌≡◌}
use mathlib.Core.Logic.{⊎_elim}
use Prim.Native.Nat.{◌+◌, ◌-◌}
use lib.IntN.{nat_abs}
use lib.ListN.{length}
use mir.Syntax.{w32}
use mir.Val.{SFits, to_z, of_z}
use mir.ValLaws.{to_z-of_z}
use Rattle.std.proofs.Common.{rules}
use Rattle.sbr_grid.specs.declared.FrameClass.TheVariants.{FixVar, VarVar}
use Rattle.sbr_grid.specs.Grid.{by_class}
use Rattle.sbr_named.specs.Shapes.{pointer_for}
use Rattle.sbr_named.proofs.Signed.{unmarked_pointer, marked_pointer}
use Rattle.sbr_named.proofs.frame.NamedFrame.pointer.Goals as goal
use Rattle.sbr_named.proofs.frame.NamedFrame.pointer.Goals.{Else-self-lt0}

-- its pointer
sent : (c : Else-self-lt0) → let f = c.args.self.now in let l = length f.freq_res.now in let m = nat_abs (to_z w32 (of_z w32 f.l_a)) in
    pointer_for c.args.class l f.l_a ≡ by_class c.args.class 0 (l + 1 - m) (m + 1) (l + 1 - m)
sent c =
    let f = c.args.self.now in
    let s : SFits w32 f.l_a = search rules in
    rw (to_z-of_z w32 _ s) (marked_pointer c.args.class (length f.freq_res.now) f.l_a (rw (to_z-of_z w32 _ s) at c.if-self-lt0.false))

pub returns-then-self-lt0 : goal.returns-then-self-lt0
returns-then-self-lt0 c =
    let f = c.args.self.now in
    let s : SFits w32 f.l_a = search rules in
    unmarked_pointer c.args.class (length f.freq_res.now) f.l_a (rw (to_z-of_z w32 _ s) at c.if-self-lt0.true)

pub returns-in-FixFix : goal.returns-in-FixFix
returns-in-FixFix c = rw (sent (goal.at.returns-in-FixFix c).Else-self-lt0, c.in-FixFix.is)

pub returns-in-VarFix : goal.returns-in-VarFix
returns-in-VarFix c = rw (sent (goal.at.returns-in-VarFix c).Else-self-lt0, c.in-VarFix.is)

pub returns-in-FixVar : goal.returns-in-FixVar
returns-in-FixVar c =
    let k = c.args.class in
    rw (sent (goal.at.returns-in-FixVar c).Else-self-lt0)
    (⊎_elim (λ (e : k ≡ FixVar). rw e c.saturating_sub.ensures) (λ (e : k ≡ VarVar). rw e c.saturating_sub.ensures) c.in-FixVar.is)
