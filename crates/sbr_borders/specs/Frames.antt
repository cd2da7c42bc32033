-- Where the wanted borders of a frame stand.
use Rattle.std.specs.Prelude.{List, ℕ, ◌≤◌, ◌<◌, get_or}
use Rattle.sbr_borders.specs.declared.WantedBorder.{WantedBorder}
use Rattle.sbr_borders.specs.Borders.{onset_at}

-- at most four wanted borders, each in a slot from 1 to 32
pub record InFrame (count : ℕ) (border : List WantedBorder) : Type 0 where
  pub few : count ≤ 4
  pub from : (i : ℕ) → i < count → 1 ≤ (get_or border i (onset_at 0)).slot
  pub by : (i : ℕ) → i < count → (get_or border i (onset_at 0)).slot ≤ 32
