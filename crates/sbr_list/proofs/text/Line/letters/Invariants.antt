use Rattle.std.proofs.Common.{◌≡◌, drop, map}
use Rattle.sbr_list.specs.Listing.{resolution}
use Rattle.sbr_list.specs.Line.{with_text}
use Rattle.sbr_list.proofs.text.Line.letters.Given as goal

-- what is left makes the whole
abbrev pub invariant-loop-high : goal.invariant-loop-high
invariant-loop-high l = with_text l.line.bytes.items (map resolution (drop l.high-index l.high)) ≡ with_text l.initial.line.bytes.items (map resolution l.high)
