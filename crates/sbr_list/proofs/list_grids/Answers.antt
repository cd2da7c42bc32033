use mathlib.Core.Path.{refl, ◌∙◌}
use native.Mathlib.Omega.{arith}
use mir.Syntax.{w32}
use mir.ValLaws.{to_z-of_z}
use Rattle.sbr_list.proofs.Turns.{refusal_holds, listed_short, listed_long}
use Rattle.sbr_list.proofs.list_grids.Goals as goal

pub returns-then-input-lt3 : goal.returns-then-input-lt3
returns-then-input-lt3 c =
    let whole = listed_short _ _ _ _ _ c.if-input-lt3.true (omega arith) (refusal_holds _ _ _ (c.as_bytes.ensures.text ∙ c.refusal_line.ensures))
    c.put.ensures.next c.put.ensures.text in
    record { long = whole.0; text = whole.1 }

pub returns : goal.returns
returns c =
    let carried = rw (to_z-of_z w32 c.from-3.result (record { sfits = c.from-3.type_inv }), c.from-3.ensures) at c.start.ensures in
    let whole = listed_long _ _ _ _ _ _ _ _ c.if-input-lt3.false refl c.from.ensures
    c.from-2.ensures carried c.frames.ensures.long c.frames.ensures.text in
    record { long = whole.0; text = whole.1 }
