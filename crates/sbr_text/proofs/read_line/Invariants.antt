use Rattle.std.proofs.Common.{◌≡◌, drop}
use Rattle.sbr_text.specs.Parts.{no_parts, read_bytes}
use Rattle.sbr_text.specs.Code.{parts_of}
use Rattle.sbr_text.proofs.read_line.Given as goal

-- the bytes that are left read on to the whole line
abbrev pub invariant-loop-byte : goal.invariant-loop-byte
invariant-loop-byte l = read_bytes (parts_of l.parts) (drop l.byte-index l.line) ≡ read_bytes no_parts l.line
