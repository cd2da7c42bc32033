use Rattle.std.proofs.Common.{arith, take, ◌∙◌}
use Rattle.std.proofs.lemmas.List.{length-take-le}
use Rattle.sbr_list.proofs.Lines.{added, room_text}
use Rattle.sbr_list.proofs.text.Line.text.Goals as goal

pub returns : goal.returns
returns c =
    let e = c.try_extend_from_slice.ensures in
    let w = c.args.self.bytes.items in
    let t = c.args.text.now in
    let k = c.min-room.result in
    added c.try_extend_from_slice.result _ w (take k t) c.try_extend_from_slice.new.self.items (omega (arith, length-take-le k t (omega arith))) e.variant e.ok
    ∙ room_text w t c.remaining_capacity.result k c.remaining_capacity.ensures c.min-room.ensures
