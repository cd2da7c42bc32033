-- What `gridlist` prints: docs/ORDER.md, GL. Text is a list of bytes.
use Rattle.std.specs.Prelude.{◌≡◌, Bool, true, false, cond, List, [], ◌∷◌, ◌++◌, map, ℕ, zero, suc, ◌+◌, ◌/◌, ◌%◌, ltb, ℤ, pos, negsuc, length, drop, Ok, Err}
use Rattle.sbr_grid.specs.declared.FrameClass.{FrameClass}
use Rattle.sbr_grid.specs.declared.Refusal.{Refusal}
use Rattle.sbr_grid.specs.declared.Refusal.TheVariants.{BitsEnd}
use Rattle.sbr_grid.specs.Refusals.{Outcome, number_of}
use Rattle.sbr_grid.specs.Grid.{by_class}
use Rattle.sbr_reader.specs.declared.Carried.{Carried}
use Rattle.sbr_reader.specs.Read.{Accepted, read_grid, carrying, starting}

-- a number below 1000 in base ten
unfoldable pub decimal : ℕ → List ℕ
decimal n =
    cond (ltb n 10) ((48 + n) ∷ [])
    (cond (ltb n 100) ((48 + n / 10) ∷ (48 + n % 10) ∷ []) ((48 + n / 100) ∷ (48 + n / 10 % 10) ∷ (48 + n % 10) ∷ []))

unfoldable pub signed : ℤ → List ℕ
signed (pos n) = decimal n
signed (negsuc n) = 45 ∷ decimal (suc n)

-- numbers with a blank before each, and with a blank between
unfoldable pub behind : List ℕ → List ℕ
behind [] = []
behind (x ∷ xs) = 32 ∷ (decimal x ++ behind xs)

unfoldable pub spaced : List ℕ → List ℕ
spaced [] = []
spaced (x ∷ []) = decimal x
spaced (x ∷ y ∷ xs) = decimal x ++ (32 ∷ spaced (y ∷ xs))

-- FixFix, FixVar, VarFix, VarVar
abbrev pub fix : List ℕ
fix = 70 ∷ 105 ∷ 120 ∷ []

abbrev pub var : List ℕ
var = 86 ∷ 97 ∷ 114 ∷ []

abbrev pub class_name : FrameClass → List ℕ
class_name c = by_class c (fix ++ fix) (fix ++ var) (var ++ fix) (var ++ var)

-- H for high resolution, L for low
abbrev pub resolution : Bool → ℕ
resolution true = 72
resolution false = 76

-- a blank, a stroke, a blank
abbrev pub stroke : List ℕ
stroke = 32 ∷ 47 ∷ 32 ∷ []

-- frame number, class, borders / noise borders / mark / resolutions
unfoldable pub frame_line : ℕ → Accepted → List ℕ
frame_line i f =
    decimal i ++ (32 ∷ class_name f.grid.frame_class ++ (32 ∷ spaced f.time.t_e ++ (stroke ++ (spaced f.time.t_q
    ++ (stroke ++ (signed f.time.l_a ++ (stroke ++ (map resolution f.grid.freq_res ++ (10 ∷ [])))))))))

-- frame number, `refused`, the refusal's number
unfoldable pub refusal_line : ℕ → Refusal → List ℕ
refusal_line i e = decimal i ++ (32 ∷ 114 ∷ 101 ∷ 102 ∷ 117 ∷ 115 ∷ 101 ∷ 100 ∷ 32 ∷ decimal (number_of e) ++ (10 ∷ []))

-- a frame's line and what follows it; a refusal ends the list
abbrev pub and_then : ℕ → (Accepted → List ℕ) → Outcome Accepted → List ℕ
and_then i next (Ok f) = frame_line i f ++ next f
and_then i next (Err e) = refusal_line i e

-- k frames from number i on, each read from the position that the one before left and with what it left to carry
unfoldable pub lines_from : List ℕ → ℕ → ℕ → ℕ → ℕ → Carried → List ℕ
lines_from l n zero i p c = []
lines_from l n (suc k) i p c =
    and_then i (λ f. lines_from l n k (i + 1) f.position (carrying f.border f.ends_on_attack)) (read_grid l p n c)

-- slot count, previous border, frame count, then bits; fewer than three bytes are refused by 7
unfoldable pub listing : List ℕ → List ℕ
listing [] = refusal_line 0 BitsEnd
listing (n ∷ []) = refusal_line 0 BitsEnd
listing (n ∷ b ∷ []) = refusal_line 0 BitsEnd
listing (n ∷ b ∷ k ∷ l) = lines_from l n k 0 0 (starting (pos b))

-- no line depends on the flag that is carried: the statement, proved in proofs/Unprinted.antt
abbrev pub FlagUnprinted : Type 0
FlagUnprinted =
    (l : List ℕ) (n k i p : ℕ) (b : ℤ) (a : Bool)
    → lines_from l n k i p (record { border = b; attack = a }) ≡ lines_from l n k i p (starting b)

-- the bytes l with a text over their front
abbrev pub over : List ℕ → List ℕ → List ℕ
over text l = text ++ drop (length text) l
