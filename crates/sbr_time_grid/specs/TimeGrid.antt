-- Time borders of a grid: ISO/IEC 14496-3, 4.6.18.3.3 with Tables 4.174 and 4.176. L_E is the envelope count.
-- Borders are whole numbers from 0 on. A difference that would fall below 0 is 0 here: like the negative number it is not above
-- the border before it, so the grid is refused either way.
use Rattle.std.specs.Prelude.{◌≡◌, Bool, true, cond, ◌&&◌, List, [], ◌∷◌, ℕ, zero, suc, ◌+◌, ◌-◌, ◌*◌, ◌/◌, ◌≤◌, leb, ltb, eqb, ℤ, pos, negsuc, ◌-ℤ◌, length, get_or, Ok}
use Rattle.sbr_grid.specs.declared.FrameClass.{FrameClass}
use Rattle.sbr_grid.specs.declared.Refusal.TheVariants.{SlotCount, TimeGrid}
use Rattle.sbr_grid.specs.Refusals.{Outcome, unless}
use Rattle.sbr_grid.specs.Grid.{by_class, Grid, num_env_of}
use Rattle.sbr_grid.specs.Times.{Times, is_slot_count}

-- a column of Tables 4.174 and 4.176: the entries for bs_pointer 0, 1 and above
abbrev pub by_pointer : {A : Type 0} → ℕ → A → A → A → A
by_pointer zero a b c = a
by_pointer (suc zero) a b c = b
by_pointer (suc (suc p)) a b c = c

-- NINT(num / den), halves away from zero
abbrev pub nint : ℕ → ℕ → ℕ
nint num den = (2 * num + den) / (2 * den)

-- the slots of a stored relative length
abbrev pub slots : ℕ → ℕ
slots r = 2 * r + 2

unfoldable pub abs_bord_lead : Grid → ℕ
abs_bord_lead g = by_class g.frame_class 0 0 g.var_bord_0 g.var_bord_0

unfoldable pub abs_bord_trail : ℕ → Grid → ℕ
abs_bord_trail n g = by_class g.frame_class n (n + g.var_bord_1) n (n + g.var_bord_1)

unfoldable pub n_rel_lead : Grid → ℕ
n_rel_lead g = by_class g.frame_class (num_env_of g - 1) 0 (length g.rel_bord_0) (length g.rel_bord_0)

unfoldable pub n_rel_trail : Grid → ℕ
n_rel_trail g = by_class g.frame_class 0 (length g.rel_bord_1) 0 (length g.rel_bord_1)

unfoldable pub rel_bord_lead : ℕ → Grid → ℕ → ℕ
rel_bord_lead n g l =
    by_class g.frame_class (nint n (num_env_of g)) 0 (slots (get_or g.rel_bord_0 l 0)) (slots (get_or g.rel_bord_0 l 0))

abbrev pub rel_bord_trail : Grid → ℕ → ℕ
rel_bord_trail g l = slots (get_or g.rel_bord_1 l 0)

-- f 0 + .. + f (k - 1)
unfoldable pub slot_sum : (ℕ → ℕ) → ℕ → ℕ
slot_sum f zero = 0
slot_sum f (suc k) = slot_sum f k + f k

-- k of them from i on: f i .. f (i + k - 1)
unfoldable pub list_from : (ℕ → ℕ) → ℕ → ℕ → List ℕ
list_from f i zero = []
list_from f i (suc k) = f i ∷ list_from f (suc i) k

unfoldable pub t_e_of : ℕ → Grid → ℕ → ℕ
t_e_of n g l =
    cond (eqb l 0) (abs_bord_lead g)
    (cond (eqb l (num_env_of g)) (abs_bord_trail n g)
    (cond (leb l (n_rel_lead g)) (abs_bord_lead g + slot_sum (rel_bord_lead n g) l)
    (abs_bord_trail n g - slot_sum (rel_bord_trail g) (num_env_of g - l))))

-- each border from the second to the one at k is above the one before it
unfoldable pub rises : (ℕ → ℕ) → ℕ → Bool
rises f zero = true
rises f (suc k) = rises f k && ltb (f k) (f (suc k))

-- Table 4.174: the envelope border at which the two noise floors meet
unfoldable pub middle_border : Grid → ℕ
middle_border g =
    let l = num_env_of g in
    let p = g.pointer in
    by_class g.frame_class (l / 2) (by_pointer p (l - 1) (l - 1) (l + 1 - p)) (by_pointer p 1 (l - 1) (p - 1))
    (by_pointer p (l - 1) (l - 1) (l + 1 - p))

-- Table 4.176: the mark of pointer p in a class, with l envelopes: the envelope at which an attack begins; -1 for none
abbrev pub mark_of : FrameClass → ℕ → ℕ → ℤ
mark_of c l p =
    let none = negsuc 0 in
    let at = pos (l + 1) -ℤ pos p in
    by_class c none (by_pointer p none at at) (by_pointer p none none (pos (p - 1))) (by_pointer p none at at)

unfoldable pub l_a_of : Grid → ℤ
l_a_of g = mark_of g.frame_class (num_env_of g) g.pointer

-- the counts are within the record (docs/ORDER.md, TG-33 to TG-36, TG-40, TG-41), and the list in use has a length for each envelope but one
unfoldable pub counts_fit : Grid → Bool
counts_fit g =
    leb 1 (num_env_of g) && leb (num_env_of g) 5 && leb (length g.rel_bord_0) 4 && leb (length g.rel_bord_1) 4
    && eqb (n_rel_lead g + n_rel_trail g + 1) (num_env_of g)

-- a border byte that the class uses is at most 3 (docs/ORDER.md, TG-38, TG-39)
unfoldable pub borders_fit : Grid → Bool
borders_fit g =
    let leading = leb g.var_bord_0 3 in
    let trailing = leb g.var_bord_1 3 in
    by_class g.frame_class true trailing leading (leading && trailing)

-- L_Q: one noise floor for one envelope, else two, which meet inside the frame
unfoldable pub noise_fits : Grid → Bool
noise_fits g =
    cond (leb (num_env_of g) 1) (eqb g.num_noise 1)
    (eqb g.num_noise 2 && leb 1 (middle_border g) && ltb (middle_border g) (num_env_of g))

-- the noise borders of l envelopes with the borders t, which meet at the border m
abbrev pub noise_borders : ℕ → ℕ → (ℕ → ℕ) → List ℕ
noise_borders l m t = cond (leb l 1) (t 0 ∷ t l ∷ []) (t 0 ∷ t m ∷ t l ∷ [])

unfoldable pub t_q_of : ℕ → Grid → List ℕ
t_q_of n g = noise_borders (num_env_of g) (middle_border g) (t_e_of n g)

abbrev pub times : ℕ → Grid → Times
times n g = record { t_e = list_from (t_e_of n g) 0 (num_env_of g + 1); t_q = t_q_of n g; l_a = l_a_of g }

abbrev pub accepts : ℕ → Grid → Bool
accepts n g = counts_fit g && borders_fit g && rises (t_e_of n g) (num_env_of g) && noise_fits g

unfoldable pub time_grid : ℕ → Grid → Outcome Times
time_grid n g = unless (is_slot_count n) SlotCount (unless (accepts n g) TimeGrid (Ok (times n g)))

-- the last border of every answered time grid is at most 3 slots past the frame: proved in proofs/Ends.antt
abbrev pub EndsNear : Type 0
EndsNear = (n : ℕ) (g : Grid) (t : Times) → time_grid n g ≡ Ok t → get_or t.t_e (num_env_of g) 0 ≤ n + 3
