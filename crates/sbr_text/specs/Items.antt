-- What clauses see of a short list.
use Rattle.std.specs.Prelude.{List, ℕ, take}
use Rattle.sbr_text.specs.declared.items.Items.{Items}

-- its items, in order
abbrev pub item_list : {T : Type 0} {N : ℕ} → Items T N → List T
item_list l = take l.count l.places
