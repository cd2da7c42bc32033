use Rattle.std.proofs.Common.{◌≡◌, drop}
use Rattle.sbr_list.specs.Listing.{behind}
use Rattle.sbr_list.specs.Line.{with_text}
use Rattle.sbr_list.proofs.text.Line.others.Given as goal

-- what is left makes the whole
abbrev pub invariant-loop-number : goal.invariant-loop-number
invariant-loop-number l = with_text l.line.bytes.items (behind (drop l.number-index l.numbers)) ≡ with_text l.initial.line.bytes.items (behind l.numbers)
