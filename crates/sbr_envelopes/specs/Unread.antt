-- Energies depend on the samples of the high table's bands alone, in the columns that are needed: the statement. Proved in proofs/Unread.antt.
use Rattle.std.specs.Prelude.{◌≡◌, List, ℕ, Float}
use Rattle.sbr_grid.specs.Grid.{Grid}
use Rattle.sbr_bands.specs.Unread.{Alike}
use Rattle.sbr_envelopes.specs.Envelopes.{energies}

abbrev pub EnergiesUnread : Type 0
EnergiesUnread =
    (n : ℕ) (high low : List ℕ) (x y : List Float) (g : Grid) (room : ℕ) → Alike n high x y
    → energies n high low x g room ≡ energies n high low y g room
