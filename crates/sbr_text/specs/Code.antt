-- What the program holds of a line.
use Rattle.sbr_text.specs.declared.parts.Parts.{Parts}
use Rattle.sbr_text.specs.Parts.{LineParts, parts}
use Rattle.sbr_text.specs.Items.{item_list}

-- the line that the program holds while it reads
abbrev pub parts_of : Parts → LineParts
parts_of p = parts p.good p.class p.part p.number (item_list p.borders) p.marks p.mark (item_list p.flags)
