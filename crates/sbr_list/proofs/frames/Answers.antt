use native.Mathlib.Omega.{arith}
use mathlib.Core.Path.{◌∙◌}
use Rattle.sbr_list.proofs.Turns.{Read, read_given, shown-short, frame-holds, refusal_holds, reached-frame, reached-refused, reached-all}
use Rattle.sbr_list.proofs.frames.Goals as goal
use Rattle.sbr_list.proofs.frames.Goals.{In-Ok}

-- what a frame that was read tells
read : (c : In-Ok) → let u = c.loop-i in Read c.args.bits.now u.position c.args.slots u.carried c.in-Ok.read u.i
read c = read_given _ _ _ _ _ _ c.in-Ok.ensures (omega (arith, c.loop-i-test.true, c.requires.few))

pub returns-in-Err : goal.returns-in-Err
returns-in-Err c =
    let whole = reached-refused _ _ _ _ _ _ _ _ _ _ c.loop-i.invariant c.loop-i-test.true c.requires.few c.requires.room _
    c.in-Err.ensures _
    (refusal_holds _ _ _ (c.as_bytes-in-Err.ensures.text ∙ c.refusal_line.ensures)) _ _ c.put.ensures.next c.put.ensures.text in
    record { long = whole.0; text = whole.1 }

pub frame_line-line-requires : goal.frame_line-line-requires
frame_line-line-requires c = shown-short _ _ _ _ _ _ (read (goal.at.frame_line-line-requires c).In-Ok)

pub loop-i-preserved : goal.loop-i-preserved
loop-i-preserved c =
    let r = read (goal.at.loop-i-preserved c).In-Ok in
    reached-frame _ _ _ _ _ _ _ _ _ _ c.loop-i.invariant c.loop-i-test.true _ r _
    (frame-holds _ _ _ _ _ _ r _ (c.as_bytes.ensures.text ∙ c.frame_line-line.ensures)) _ _ c.put-at.ensures.next c.put-at.ensures.text

pub returns : goal.returns
returns c =
    let whole = reached-all _ _ _ _ _ _ _ _ _ _ c.loop-i.invariant c.loop-i-test.false c.requires.few c.requires.room in
    record { long = whole.0; text = whole.1 }
