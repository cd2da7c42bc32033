use Rattle.std.proofs.Common.{sym}
use Rattle.std.proofs.lemmas.List.{length-take-le}
use Rattle.sbr_make.proofs.Short.{stream-within}
use Rattle.make_cases.proofs.print_made.Goals as goal

-- the stream lies within its bytes
pub slice_bounds-stream-end : goal.slice_bounds-stream-end
slice_bounds-stream-end g c = stream-within _ _ _ c.make_stream.result _ c.make_stream.ensures.answer c.make_stream.ensures.bytes c.in-Ok.is

pub slice_bounds-print_bytes-end : goal.slice_bounds-print_bytes-end
slice_bounds-print_bytes-end g c =
    sym (length-take-le _ _ (stream-within _ _ _ c.make_stream.result _ c.make_stream.ensures.answer c.make_stream.ensures.bytes c.in-Ok.is))
