use Rattle.sbr_qmf.specs.Qmf.{columns}
use Rattle.sbr_envelopes.proofs.Rows.{Filled}
use Rattle.sbr_envelopes.proofs.fill_rows.Given as goal

abbrev pub invariant-loop-l : goal.invariant-loop-l
invariant-loop-l l = Filled (columns l.frame.x.now) l.frame.tables.high.now l.frame.tables.low.now l.resolutions l.borders l.initial.out l.l l.at l.out
