-- An election depends on the samples of the high table's bands alone, in the columns that are needed: the statement. Proved in proofs/Unread.antt.
use Rattle.std.specs.Prelude.{◌≡◌, Bool, List, ℕ, ℤ, Float}
use Rattle.sbr_bands.specs.Unread.{Alike}
use Rattle.sbr_encoder.specs.Election.{elect}

abbrev pub ElectionsUnread : Type 0
ElectionsUnread =
    (n : ℕ) (high low : List ℕ) (x y : List Float) (previous : ℤ) (variable : Bool) → Alike n high x y
    → elect n high low x previous variable ≡ elect n high low y previous variable
