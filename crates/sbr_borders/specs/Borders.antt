-- Wanted borders, their shifts, and the even lengths that reach them: `varvar_from_borders` of src/sbr_encoder.rs, docs/ORDER.md, BS.
use Rattle.std.specs.Prelude.{Bool, true, cond, ◌&&◌, ◌||◌, List, [], ◌∷◌, reverse, ℕ, ◌+◌, ◌-◌, ◌%◌, leb, ltb, eqb, length, take, drop, Option, Some, None}
use Rattle.std.specs.List.{find, range_with_len}
use Rattle.sbr_borders.specs.declared.WantedBorder.{WantedBorder}

-- ---- wanted borders and their shifts

-- an onset may stay or move one slot earlier, the isolating border one slot later too: the shifts 0, 1, 2 in the order 0, -1, +1
abbrev pub shift_count : WantedBorder → ℕ
shift_count w = cond w.onset 2 3

abbrev pub place : WantedBorder → ℕ → ℕ
place w i = cond (eqb i 0) w.slot (cond (w.onset || eqb i 1) (w.slot - 1) (w.slot + 1))

abbrev pub price : WantedBorder → ℕ → ℕ
price w i = cond (eqb i 0) 0 (cond w.onset 2 1)

unfoldable pub places : List WantedBorder → List ℕ → List ℕ
places [] is = []
places (w ∷ ws) [] = []
places (w ∷ ws) (i ∷ is) = place w i ∷ places ws is

unfoldable pub prices : List WantedBorder → List ℕ → ℕ
prices [] is = 0
prices (w ∷ ws) [] = 0
prices (w ∷ ws) (i ∷ is) = price w i + prices ws is

-- the next shifts, the first border's turning fastest
abbrev pub prepend : ℕ → Option (List ℕ) → Option (List ℕ)
prepend i None = None
prepend i (Some is) = Some (i ∷ is)

unfoldable pub next_shifts : List WantedBorder → List ℕ → Option (List ℕ)
next_shifts [] is = None
next_shifts (w ∷ ws) [] = None
next_shifts (w ∷ ws) (i ∷ is) = cond (ltb (i + 1) (shift_count w)) (Some ((i + 1) ∷ is)) (prepend 0 (next_shifts ws is))

-- ---- what the borders ask for

-- each border is above the one before it, the first above p; and the last one
unfoldable pub rises_from : ℕ → List ℕ → Bool
rises_from p [] = true
rises_from p (b ∷ bs) = ltb p b && rises_from b bs

unfoldable pub last_or : ℕ → List ℕ → ℕ
last_or p [] = p
last_or p (b ∷ bs) = last_or b bs

-- the steps from p up through the borders, and from t down through borders that stand last first
unfoldable pub steps_up : ℕ → List ℕ → List ℕ
steps_up p [] = []
steps_up p (b ∷ bs) = (b - p) ∷ steps_up b bs

unfoldable pub steps_down : ℕ → List ℕ → List ℕ
steps_down t [] = []
steps_down t (b ∷ bs) = (t - b) ∷ steps_down b bs

-- the first k borders are reached by leading lengths, the others by trailing ones
abbrev pub leading_steps : ℕ → ℕ → List ℕ → List ℕ
leading_steps lead k bs = steps_up lead (take k bs)

abbrev pub trailing_steps : ℕ → ℕ → List ℕ → List ℕ
trailing_steps t k bs = steps_down t (reverse (drop k bs))

-- a length is even and 2 to 8; at most 3 a side
abbrev pub even_ok : ℕ → Bool
even_ok d = leb 2 d && leb d 8 && eqb (d % 2) 0

unfoldable pub all_even : List ℕ → Bool
all_even [] = true
all_even (d ∷ ds) = even_ok d && all_even ds

unfoldable pub reaches : ℕ → ℕ → ℕ → List ℕ → Bool
reaches lead t k bs =
    leb k 3 && leb k (length bs) && leb (length bs - k) 3 && all_even (leading_steps lead k bs) && all_even (trailing_steps t k bs)

-- the least of the counts 0 to 3 of leading lengths that reaches every border
abbrev pub fit : ℕ → ℕ → List ℕ → Option ℕ
fit lead t bs = find (λ k. reaches lead t k bs) (range_with_len 0 4)

-- the border wanted for an onset
abbrev pub onset_at : ℕ → WantedBorder
onset_at s = record { slot = s; onset = true }
