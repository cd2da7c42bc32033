use Rattle.std.proofs.Common.{◌+◌, arith}
use Rattle.sbr_onsets.proofs.Onsets.{peak_part}
use Rattle.sbr_onsets.proofs.onsets_of.Goals as goal

pub returns : goal.returns
returns c = rw (c.detect_onsets.ensures, c.peak_of.ensures, peak_part c.args.e.now (c.args.nts + 8) (omega arith))
