-- A listing looks at 26 bits for each frame.
use Rattle.std.specs.Prelude.{Ok, Err}
use mathlib.Core.Path.{◌≡◌, refl}
use mathlib.Core.Bool.{Bool, true, false}
use mathlib.Core.List.{List, [], ◌∷◌, ◌++◌}
use Prim.Native.Nat.{ℕ, zero, suc, ◌+◌, ◌-◌, ◌*◌, ◌/◌, ◌≤◌, ◌<◌}
use native.Mathlib.Omega.{arith}
use native.Mathlib.Decide.{dec_le}
use lib.IntN.{pos}
use lib.ListN.{length, take, get_or, length-append}
use lib.Seq.{length-take-le, take_all, get_or-take}
use Rattle.bits.specs.Bits.{get_bit, bits_at}
use Rattle.bits.specs.Room.{end_of, bits_from}
use Rattle.bits.proofs.Stream.{bits_at-add, length-bits_at, bits_alike}
use Rattle.sbr_grid.specs.declared.Refusal.{Refusal}
use Rattle.sbr_grid.specs.declared.Refusal.TheVariants.{SlotCount, Chain}
use Rattle.sbr_grid.specs.Refusals.{Outcome, value_or, unless}
use Rattle.sbr_grid.specs.Grid.{Grid}
use Rattle.sbr_grid.specs.Times.{Times, is_number, is_slot_count}
use Rattle.sbr_time_grid.specs.TimeGrid.{time_grid}
use Rattle.sbr_parse.specs.Syntax.{sbr_grid}
use Rattle.sbr_parse.proofs.Monad.{Seen}
use Rattle.sbr_parse.proofs.Inverse.{Sent, seen_grid}
use Rattle.sbr_parse.proofs.Window.{behind, prefix_reads}
use Rattle.sbr_reader.specs.declared.Carried.{Carried}
use Rattle.sbr_reader.specs.Read.{Accepted, meets, timed, parsed, read_grid, carrying, starting}
use Rattle.sbr_list.specs.Listing.{and_then, lines_from, listing}
use Rattle.sbr_list.specs.Enough.{most_input, EnoughInput}

-- bits behind those that are read move no position
pub more_behind : (n : ℕ) (from : Carried) (p : ℕ) (xs ys : List Bool) (o : Outcome (Grid × List Bool))
    → parsed n from p (length (xs ++ ys)) (behind ys o) ≡ parsed n from p (length xs) o
more_behind n from p xs ys (Err e) = refl
more_behind n from p xs ys (Ok r) =
    let q : length (xs ++ ys) - length (r.1 ++ ys) ≡ length xs - length r.1 =
    omega (arith, length-append xs ys, length-append r.1 ys) in
    rw q

module _ (l : List ℕ) (k : ℕ) (p : ℕ) (few : k ≤ most_input) (room : p + 26 ≤ 8 * k) where
  -- the bits of the first k bytes
  front : (q m : ℕ) → q + m ≤ 8 * k → bits_at (take k l) q m ≡ bits_at l q m
  unfolding get_bit
  front q m h = bits_alike l (take k l) q m (λ i a c. rw (get_or-take k l (i / 8) 0 (omega arith)))

  -- all bits from p on are those of the first k bytes and others behind them, where there are more bytes
  cut : k < length l → bits_from l p ≡ bits_from (take k l) p ++ bits_at l (8 * k) (end_of (length l) - 8 * k)
  unfolding end_of
  cut h =
      let m = 8 * k - p in
      let e = end_of (length l) - 8 * k in
      let a : end_of (length (take k l)) - p ≡ m = omega (arith, length-take-le k l (omega arith)) in
      let c : m + e ≡ end_of (length l) - p = omega arith in
      let d : p + m ≡ 8 * k = omega arith in
      rw (a, front p m (omega arith)) (rw (c, d) at (bits_at-add l p m e))

  -- a frame of which 26 bits lie in the first k bytes is read from those
  frame-front : (n : ℕ) (from : Carried) → read_grid (take k l) p n from ≡ read_grid l p n from
  unfolding read_grid end_of
  frame-front n from = go (dec_le (length l) k)
    where
      go : Dec (length l ≤ k) → read_grid (take k l) p n from ≡ read_grid l p n from
      go (yes h) = rw (take_all k l h)
      go (no h) =
          let xs = bits_from (take k l) p in
          let ys = bits_at l (8 * k) (end_of (length l) - 8 * k) in
          let long : 26 ≤ length xs = omega (arith, length-take-le k l (omega arith), length-bits_at (take k l) p (end_of (length (take k l)) - p)) in
          rw (cut (omega arith), prefix_reads xs ys long, more_behind n from p xs ys (sbr_grid xs))

-- an accepted frame's position is at most m
abbrev Within : ℕ → Outcome Accepted → Type 0
Within m o = value_or (λ f. f.position) 0 o ≤ m

within_test : (t : Bool) (e : Refusal) (o : Outcome Accepted) (m : ℕ) → Within m o → Within m (unless t e o)
within_test true e o m h = h
within_test false e o m h = omega arith

within-timed : (n : ℕ) (from : Carried) (g : Grid) (q m : ℕ) → q ≤ m → (o : Outcome Times) → Within m (timed n from g q o)
unfolding meets
within-timed n from g q m h (Ok t) = within_test (is_number from.border (get_or t.t_e 0 0 + n)) Chain _ m h
within-timed n from g q m h (Err e) = omega arith

within-parsed : (n : ℕ) (from : Carried) (p : ℕ) (bs : List Bool) → Within (p + 26) (parsed n from p (length bs) (sbr_grid bs))
within-parsed n from p bs = go (seen_grid bs)
  where
    go : Seen 26 Sent sbr_grid bs → Within (p + 26) (parsed n from p (length bs) (sbr_grid bs))
    go (Seen.full g u r e j s t) =
        rw (e, t.reads r) (within-timed n from g _ (p + 26) (omega (arith, length-append u r)) (time_grid n g))
    go (Seen.none e h never) = rw h (omega arith)

within-read : (l : List ℕ) (p n : ℕ) (from : Carried) → Within (p + 26) (read_grid l p n from)
unfolding read_grid
within-read l p n from = within_test (is_slot_count n) SlotCount _ (p + 26) (within-parsed n from p (bits_from l p))

-- a frame takes at most 26 bits
frame_short : (l : List ℕ) (p n : ℕ) (from : Carried) (f : Accepted) → read_grid l p n from ≡ Ok f → f.position ≤ p + 26
frame_short l p n from f h = rw h at (within-read l p n from)

-- a line and what follows it depends on what follows an accepted frame only
same_line : (i : ℕ) (f g : Accepted → List ℕ) (o : Outcome Accepted) → ((a : Accepted) → o ≡ Ok a → f a ≡ g a) → and_then i f o ≡ and_then i g o
same_line i f g (Ok a) h = rw (h a refl)
same_line i f g (Err e) h = refl

-- lines of frames that all lie in the first k bytes
lines_front : (l : List ℕ) (k n c i p : ℕ) (from : Carried) → k ≤ most_input → p + 26 * c ≤ 8 * k → lines_from (take k l) n c i p from ≡ lines_from l n c i p from
unfolding lines_from
lines_front l k n zero i p from few room = refl
lines_front l k n (suc c) i p from few room =
    rw (frame-front l k p few (omega arith) n from)
    (same_line i _ _ (read_grid l p n from) (λ f h. lines_front l k n c (i + 1) f.position (carrying f.border f.ends_on_attack) few (omega (arith, frame_short l p n from f h))))

pub enough_input : EnoughInput
unfolding listing
enough_input [] h = refl
enough_input (n ∷ []) h = refl
enough_input (n ∷ b ∷ []) h = refl
enough_input (n ∷ b ∷ c ∷ l) h = lines_front l (most_input - 3) n c 0 0 (starting (pos b)) (omega arith) (omega arith)
