-- No stream that is made is longer than 832 bytes, so it lies within the bytes lent.
use Rattle.std.specs.Prelude.{Result, Ok, Err}
use Rattle.std.specs.Result.{result_map_both}
use mathlib.Core.Path.{◌≡◌, refl, ap, ◌∙◌}
use mathlib.Core.List.{List}
use Prim.Native.Nat.{ℕ, ◌≤◌}
use native.Mathlib.Omega.{arith}
use lib.ListN.{length}
use Rattle.sbr_grid.proofs.First.{first-length}
use Rattle.sbr_make.specs.declared.LineRefused.{LineRefused}
use Rattle.sbr_make.specs.Making.{lines_of, TextOutcome, text_stream, bytes_made}
use Rattle.sbr_make.proofs.Carries.{carries}

-- what a text makes
stream_short : (text s : List ℕ) → text_stream text ≡ Ok s → length s ≤ 832
unfolding text_stream
stream_short text s e =
    let d = carries 0 0 16 (lines_of text) s e in
    rw d.is (omega (arith, d.size))

-- the next law, by what the text comes to
within_by : (o : TextOutcome) (text before after : List ℕ) (r : Result ℕ LineRefused) (n : ℕ) → text_stream text ≡ o
    → r ≡ result_map_both length (λ e. e) o → after ≡ bytes_made before o → r ≡ Ok n → n ≤ length after
within_by (Ok s) text before after r n e a b k =
    let z : n ≡ length s = cc in
    omega (arith, stream_short text s e, ap length b ∙ first-length 0 832 s)
within_by (Err x) text before after r n e a b k = let z : ◌≡◌ {A = ℕ} 0 1 = cc in absurd (omega arith)

-- the stream that a call makes lies within the bytes lent
pub stream-within : (text before after : List ℕ) (r : Result ℕ LineRefused) (n : ℕ) → r ≡ result_map_both length (λ e. e) (text_stream text)
    → after ≡ bytes_made before (text_stream text) → r ≡ Ok n → n ≤ length after
stream-within text before after r n a b k = within_by (text_stream text) text before after r n refl a b k
