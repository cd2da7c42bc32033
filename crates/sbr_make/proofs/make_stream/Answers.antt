-- `sbr_make::make_stream` meets its contract.
use Rattle.std.proofs.Common.{◌≡◌, Ok, sym, ap, ◌∙◌, arith, ℕ}
use lib.ListN.{length-set}
use Rattle.sbr_make.specs.Making.{stream_of, text_stream, bytes_made}
use Rattle.sbr_make.specs.Code.{making_of}
use Rattle.sbr_make.proofs.Streams.{stream-bytes}
use Rattle.sbr_make.proofs.make_stream.Goals as goal

pub returns-clause-bytes : goal.returns-clause-bytes
returns-clause-bytes c =
    let m = making_of c.frames.inside in
    let s : text_stream c.args.text.now ≡ Ok (stream_of m) =
    sym (rw (c.in_ok-frames.was, sym c.frames.view_is) at c.add_lines.ensures) in
    stream-bytes m c.frames.invariant _ _ (omega (arith, length-set {A = ℕ})) c.copy_from_slice.ensures.after ∙ ap (bytes_made c.args.stream.now) (sym s)
