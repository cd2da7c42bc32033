-- sbr_grid() read: ISO/IEC 14496-3, Table 4.69, field by field. Bits that end too soon are refused where the field is read (7), a count
-- that no frame has directly after the last count field (8): docs/ORDER.md, RD-14 to RD-18.
use Rattle.std.specs.Prelude.{Bool, true, false, cond, ◌&&◌, List, [], ◌∷◌, reverse, ℕ, zero, suc, ◌+◌, ◌^◌, leb, eqb, length, take, drop, get_or, replicate, Ok, Err}
use Rattle.bits.specs.Bits.{num_of}
use Rattle.sbr_grid.specs.declared.FrameClass.{FrameClass}
use Rattle.sbr_grid.specs.declared.FrameClass.TheVariants.{FixFix, FixVar, VarFix, VarVar}
use Rattle.sbr_grid.specs.declared.Refusal.TheVariants.{BitsEnd, EnvelopeCount}
use Rattle.sbr_grid.specs.Refusals.{Outcome, unless}
use Rattle.sbr_grid.specs.Grid.{by_class, class_of, ptr_bits, noise_of, Grid, made}

infixl 20 ◌followed_by◌
-- reading takes bits from the front and leaves the rest
abbrev pub Reader : Type 0 → Type 0
Reader A = List Bool → Outcome (A × List Bool)

-- the next reader goes on behind what was read; a refusal stays
abbrev pub onward : {A B : Type 0} → (A → Reader B) → Outcome (A × List Bool) → Outcome (B × List Bool)
onward f (Ok p) = f p.0 p.1
onward f (Err e) = Err e

-- one reader after another, which is given what the first read
unfoldable pub ◌followed_by◌ : {A B : Type 0} → Reader A → (A → Reader B) → Reader B
m followed_by f = λ bs. onward f (m bs)

-- a value that takes no bits
abbrev pub giving : {A : Type 0} → A → Reader A
giving a = λ bs. Ok (a, bs)

-- n flags of a bit each
unfoldable pub flags : ℕ → Reader (List Bool)
flags n bs = unless (leb n (length bs)) BitsEnd (Ok (take n bs, drop n bs))

-- a number of w bits
unfoldable pub field : ℕ → Reader ℕ
field w bs = unless (leb w (length bs)) BitsEnd (Ok (num_of (take w bs), drop w bs))

-- k stored lengths of two bits each
unfoldable pub rel_bords : ℕ → Reader (List ℕ)
rel_bords zero = giving []
rel_bords (suc k) =
    field 2 followed_by λ r.
    rel_bords k followed_by λ rs.
    giving (r ∷ rs)

-- the envelope count is one that a frame has
unfoldable pub checked_count : Bool → ℕ → Reader ℕ
checked_count ok n bs = unless ok EnvelopeCount (Ok (n, bs))

-- the record of what was read: fields that the class does not send are 0 or empty
abbrev pub received : FrameClass → List Bool → ℕ → ℕ → List ℕ → List ℕ → ℕ → Grid
received c res b0 b1 rel0 rel1 p =
    made c (noise_of (length res)) res b0 b1 rel0 rel1 p (by_class c true false false false && eqb (length res) 1)

-- FIXFIX: the count of envelopes as a power of 2, and one resolution for all
unfoldable pub fix_fix : Reader Grid
fix_fix =
    field 2 followed_by λ tmp.
    checked_count (leb tmp 2) (2 ^ tmp) followed_by λ n.
    flags 1 followed_by λ res.
    giving (received FixFix (replicate n (get_or res 0 false)) 0 0 [] [] 0)

-- bs_freq_res in the order of the envelopes: in Table 4.69 FIXVAR sends the last envelope's resolution first
abbrev pub ordered : FrameClass → List Bool → List Bool
ordered c res = cond (by_class c false true false false) (reverse res) res

-- ISO/IEC 14496-3, Table 4.69: what follows the counts is the same in the three classes: leading lengths, trailing lengths, bs_pointer, bs_freq_res
unfoldable pub behind_counts : FrameClass → ℕ → ℕ → ℕ → ℕ → Reader Grid
behind_counts c b0 b1 j k =
    rel_bords j followed_by λ rel0.
    rel_bords k followed_by λ rel1.
    field (ptr_bits (j + k + 1)) followed_by λ p.
    flags (j + k + 1) followed_by λ res.
    giving (received c (ordered c res) b0 b1 rel0 rel1 p)

-- FIXVAR: the border and the count of the trailing side, then what follows the counts
unfoldable pub fix_var : Reader Grid
fix_var =
    field 2 followed_by λ b1.
    field 2 followed_by λ k.
    behind_counts FixVar 0 b1 0 k

-- VARFIX: the border and the count of the leading side, then the same
unfoldable pub var_fix : Reader Grid
var_fix =
    field 2 followed_by λ b0.
    field 2 followed_by λ k.
    behind_counts VarFix b0 0 k 0

-- VARVAR: both borders, both counts, which a frame must have room for, then the same
unfoldable pub var_var : Reader Grid
var_var =
    field 2 followed_by λ b0.
    field 2 followed_by λ b1.
    field 2 followed_by λ j.
    field 2 followed_by λ k.
    checked_count (leb (j + k + 1) 5) (j + k + 1) followed_by λ _.
    behind_counts VarVar b0 b1 j k

-- sbr_grid(): bs_frame_class, then the fields of that class
unfoldable pub sbr_grid : Reader Grid
sbr_grid =
    field 2 followed_by λ c.
    by_class (class_of c) fix_fix fix_var var_fix var_var
