use Rattle.std.proofs.Common.{length}
use Rattle.sbr_make.proofs.Reached.{Reached}
use Rattle.sbr_make.proofs.add_lines.Given as goal

abbrev pub invariant-loop-i : goal.invariant-loop-i
invariant-loop-i l = record {
  can : (goal.iterator-loop-i).can_next l.i-iterator;
  finite : (goal.iterator-loop-i).is_finite l.i-iterator;
  reached : Reached l.text l.frames (length l.yielded) l.at;
}
