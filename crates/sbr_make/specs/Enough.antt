-- How much of a text has to be read: the statement, proved in proofs/Enough.antt.
use Rattle.std.specs.Prelude.{◌≡◌, List, ℕ, ◌+◌, take}
use Rattle.sbr_make.specs.Making.{most_text, text_stream}

-- one byte more than the longest text: what stands behind those changes nothing
abbrev pub EnoughText : Type 0
EnoughText = (text : List ℕ) → text_stream (take (most_text + 1) text) ≡ text_stream text
