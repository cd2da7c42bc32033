use Rattle.std.proofs.Common.{sym}
use Rattle.std.proofs.lemmas.List.{length-take-le}
use Rattle.sbr_make.proofs.Short.{stream-within}
use Rattle.gridmake.proofs.main.Goals as goal

-- the stream lies within its bytes
pub slice_bounds-stream-end : goal.slice_bounds-stream-end
slice_bounds-stream-end c = stream-within _ _ _ c.make_stream.result _ c.make_stream.ensures.answer c.make_stream.ensures.bytes c.in-Ok.is

pub slice_bounds-write_all-end : goal.slice_bounds-write_all-end
slice_bounds-write_all-end c =
    sym (length-take-le _ _ (stream-within _ _ _ c.make_stream.result _ c.make_stream.ensures.answer c.make_stream.ensures.bytes c.in-Ok.is))
