-- What writing a record comes to: docs/ORDER.md, WR-15 to WR-35, with the conditions of `write_grid` of src/sbr_writer.rs.
use Rattle.std.specs.Prelude.{◌≡◌, Bool, false, cond, not, ◌&&◌, ◌||◌, List, ℕ, ◌+◌, leb, eqb, length, get_or, Ok, Err}
use Rattle.std.specs.List.{list_all}
use Rattle.bits.specs.Bits.{put_bits}
use Rattle.bits.specs.Room.{room_for}
use Rattle.bits.specs.Put.{BitsPut}
use Rattle.sbr_grid.specs.declared.FrameClass.{FrameClass}
use Rattle.sbr_grid.specs.declared.FrameClass.TheVariants.{FixFix, FixVar, VarFix, VarVar}
use Rattle.sbr_grid.specs.declared.Refusal.TheVariants.{Room, Record}
use Rattle.sbr_grid.specs.Refusals.{Outcome, unless}
use Rattle.sbr_grid.specs.declared.SbrGrid.{SbrGrid}
use Rattle.sbr_grid.specs.Grid.{Grid, num_env_of, first}
use Rattle.sbr_writer.specs.Syntax.{grid_bits}

-- every element passes a test
unfoldable pub every : {A : Type 0} → (A → Bool) → List A → Bool
every f xs = list_all f xs

-- every stored length fits two bits
abbrev pub small : List ℕ → Bool
small rs = every (λ r. leb r 3) rs

-- a flag is b; every flag is
abbrev pub same : Bool → Bool → Bool
same b x = cond b x (not x)

abbrev pub all_are : Bool → List Bool → Bool
all_are b xs = every (same b) xs

-- the counts are those that the class can send
unfoldable pub class_fits : FrameClass → Grid → Bool
class_fits FixFix g =
    (eqb (num_env_of g) 1 || eqb (num_env_of g) 2 || eqb (num_env_of g) 4) && all_are (get_or g.freq_res 0 false) g.freq_res
class_fits FixVar g = eqb (length g.rel_bord_1 + 1) (num_env_of g) && leb (num_env_of g) 4
class_fits VarFix g = eqb (length g.rel_bord_0 + 1) (num_env_of g) && leb (num_env_of g) 4
class_fits VarVar g =
    eqb (length g.rel_bord_0 + length g.rel_bord_1 + 1) (num_env_of g) && leb (length g.rel_bord_0) 3
    && leb (length g.rel_bord_1) 3

-- both lists and both border bytes count, also those that the class does not send
unfoldable pub fields_fit_of : Grid → Bool
fields_fit_of g =
    leb 1 (num_env_of g) && leb (num_env_of g) 5 && leb g.var_bord_0 3 && leb g.var_bord_1 3 && leb (length g.rel_bord_0) 4
    && leb (length g.rel_bord_1) 4 && small g.rel_bord_0 && small g.rel_bord_1 && leb g.pointer (num_env_of g)

-- the same of a record: its numbers, and its lists and pointer
abbrev pub numbers_fit : SbrGrid → Bool
numbers_fit g =
    leb 1 g.num_env && leb g.num_env 5 && leb g.var_bord_0 3 && leb g.var_bord_1 3 && leb g.num_rel_0 4 && leb g.num_rel_1 4

abbrev pub lists_fit : SbrGrid → Bool
lists_fit g = small (first 0 g.num_rel_0 g.rel_bord_0) && small (first 0 g.num_rel_1 g.rel_bord_1) && leb g.pointer g.num_env

abbrev pub writable : Grid → Bool
writable g = fields_fit_of g && class_fits g.frame_class g

-- the bytes and the position after a write
pub record Wrote : Type 0 where
  pub bytes : List ℕ
  pub position : ℕ

unfoldable pub write_grid : List ℕ → ℕ → Grid → Outcome Wrote
write_grid l p g =
    let n = length (grid_bits g) in
    unless (writable g) Record
    (unless (room_for (length l) p n) Room (Ok (record { bytes = put_bits l p (grid_bits g); position = p + n })))

-- the bytes after, as they were where the call is refused
abbrev pub bytes_after : List ℕ → Outcome Wrote → List ℕ
bytes_after l (Ok w) = w.bytes
bytes_after l (Err e) = l

-- ---- what a write leaves, bit by bit: the statement, proved in proofs/Puts.antt

-- a grid leaves its bytes as its bits leave them, put at once, and the position after the last one
abbrev pub EveryWrite : Type 0
EveryWrite =
    (l : List ℕ) (p : ℕ) (g : Grid) (w : Wrote) → write_grid l p g ≡ Ok w
    → BitsPut l w.bytes p (grid_bits g) × (w.position ≡ p + length (grid_bits g))
