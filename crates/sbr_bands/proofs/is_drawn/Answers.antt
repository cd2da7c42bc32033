use Rattle.std.proofs.Common.{◌∙◌}
use Rattle.sbr_bands.proofs.TableLaws.{drawn_by}
use Rattle.sbr_bands.proofs.is_drawn.Goals as goal

pub returns : goal.returns
returns c = c.are_marked.ensures ∙ drawn_by _ _ _ c.marks.ensures
