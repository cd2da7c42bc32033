-- What was read of a listing's frames stays, whatever follows.
use Rattle.std.specs.Prelude.{Ok, Err}
use mathlib.Core.Path.{◌≡◌, refl, ◌∙◌}
use mathlib.Core.Bool.{Bool, true, false}
use mathlib.Core.List.{List, [], ◌∷◌, ◌++◌, append_assoc}
use Prim.Native.Nat.{ℕ, zero, suc, ◌+◌, ◌-◌, ◌/◌, ◌≤◌}
use native.Mathlib.Omega.{arith}
use native.Mathlib.Decide.{dec_le}
use borrow.Author.Tests.{le-leb, lt-leb}
use lib.IntN.{pos}
use lib.ListN.{length, length-append, get_or-append}
use lib.Seq.{get_or-append-add}
use Rattle.bits.specs.Bits.{get_bit, bits_at}
use Rattle.bits.specs.Room.{end_of, bits_from}
use Rattle.bits.proofs.Stream.{bits_at-add, bits_alike}
use Rattle.sbr_grid.specs.declared.Refusal.{Refusal}
use Rattle.sbr_grid.specs.declared.Refusal.TheVariants.{SlotCount, Samples, Tables, Room, Record, TimeGrid, BitsEnd, EnvelopeCount, Chain, NoGrid}
use Rattle.sbr_grid.specs.Refusals.{Outcome}
use Rattle.sbr_grid.specs.Times.{is_slot_count}
use Rattle.sbr_parse.specs.Syntax.{sbr_grid}
use Rattle.sbr_parse.proofs.Monad.{Seen}
use Rattle.sbr_parse.proofs.Inverse.{Sent, seen_grid}
use Rattle.sbr_parse.proofs.Window.{behind}
use Rattle.sbr_reader.specs.declared.Carried.{Carried}
use Rattle.sbr_reader.specs.Read.{Accepted, parsed, read_grid, carrying, starting}
use Rattle.sbr_list.specs.Listing.{decimal, frame_line, refusal_line, and_then, lines_from, listing}
use Rattle.sbr_list.specs.Enough.{settled, SettledInput}
use Rattle.sbr_list.proofs.Enough.{more_behind}

-- ---- bits

-- the bits of more bytes are those of the first and others behind them
bits_more : (l m : List ℕ) (p : ℕ) → (ys : List Bool) × (bits_from (l ++ m) p ≡ bits_from l p ++ ys)
unfolding end_of bits_at get_bit
bits_more l m p = go (dec_le p (end_of (length l)))
  where
    go : Dec (p ≤ end_of (length l)) → (ys : List Bool) × (bits_from (l ++ m) p ≡ bits_from l p ++ ys)
    go (yes h) =
        let e = end_of (length l) in
        let k = end_of (length (l ++ m)) - e in
        let n = e - p in
        let a : end_of (length (l ++ m)) - p ≡ n + k = omega (arith, length-append l m) in
        let alike = bits_alike l (l ++ m) p n (λ i u v. rw (get_or-append l m 0 (i / 8) (omega arith))) in
        (bits_at (l ++ m) (p + n) k, rw (a, bits_at-add (l ++ m) p n k, alike))
    go (no h) =
        let a : end_of (length l) - p ≡ 0 = omega arith in
        (bits_from (l ++ m) p, rw a)

-- an accepted frame is accepted with more bits behind it
parsed_more : (n : ℕ) (from : Carried) (p : ℕ) (xs ys : List Bool) (f : Accepted) → parsed n from p (length xs) (sbr_grid xs) ≡ Ok f
    → parsed n from p (length (xs ++ ys)) (sbr_grid (xs ++ ys)) ≡ Ok f
parsed_more n from p xs ys f h = go (seen_grid xs)
  where
    go : Seen 26 Sent sbr_grid xs → parsed n from p (length (xs ++ ys)) (sbr_grid (xs ++ ys)) ≡ Ok f
    go (Seen.full g u r e j s t) =
        let a : sbr_grid xs ≡ Ok (g, r) = rw e (t.reads r) in
        let c : sbr_grid (xs ++ ys) ≡ behind ys (sbr_grid xs) = rw (a, e, append_assoc u r ys, t.reads (r ++ ys)) in
        rw c (more_behind n from p xs ys (sbr_grid xs) ∙ h)
    go (Seen.none e q never) = let z : ◌≡◌ {A = ℕ} 0 1 = cc (rw q at h) in absurd (omega arith)

-- ---- texts

settled-append : (xs ys : List ℕ) → (1 ≤ length ys → 2 ≤ length ys) → settled (xs ++ ys) ≡ true → settled ys ≡ true
unfolding settled
settled-append xs ys h e = go (dec_le (length ys) 1)
  where
    go : Dec (length ys ≤ 1) → settled ys ≡ true
    go (yes l) = rw (le-leb (length ys) 1 l)
    go (no l) =
        let a : length (xs ++ ys) - 2 ≡ length xs + (length ys - 2) = omega (arith, length-append xs ys) in
        rw (lt-leb (length ys) 1 (omega arith))
        (rw (lt-leb (length (xs ++ ys)) 1 (omega (arith, length-append xs ys)), a, get_or-append-add xs ys (length ys - 2) 0) at e)

-- the line of a refusal ends in a digit
not_refused : (i : ℕ) (e : Refusal) → settled (refusal_line i e) ≡ true → ⊥
unfolding refusal_line settled decimal
not_refused i SlotCount h = let z : ◌≡◌ {A = ℕ} 0 1 = cc (settled-append (decimal i) _ (λ l. omega arith) h) in omega arith
not_refused i Samples h = let z : ◌≡◌ {A = ℕ} 0 1 = cc (settled-append (decimal i) _ (λ l. omega arith) h) in omega arith
not_refused i Tables h = let z : ◌≡◌ {A = ℕ} 0 1 = cc (settled-append (decimal i) _ (λ l. omega arith) h) in omega arith
not_refused i Room h = let z : ◌≡◌ {A = ℕ} 0 1 = cc (settled-append (decimal i) _ (λ l. omega arith) h) in omega arith
not_refused i Record h = let z : ◌≡◌ {A = ℕ} 0 1 = cc (settled-append (decimal i) _ (λ l. omega arith) h) in omega arith
not_refused i TimeGrid h = let z : ◌≡◌ {A = ℕ} 0 1 = cc (settled-append (decimal i) _ (λ l. omega arith) h) in omega arith
not_refused i BitsEnd h = let z : ◌≡◌ {A = ℕ} 0 1 = cc (settled-append (decimal i) _ (λ l. omega arith) h) in omega arith
not_refused i EnvelopeCount h = let z : ◌≡◌ {A = ℕ} 0 1 = cc (settled-append (decimal i) _ (λ l. omega arith) h) in omega arith
not_refused i Chain h = let z : ◌≡◌ {A = ℕ} 0 1 = cc (settled-append (decimal i) _ (λ l. omega arith) h) in omega arith
not_refused i NoGrid h = let z : ◌≡◌ {A = ℕ} 0 1 = cc (settled-append (decimal i) _ (λ l. omega arith) h) in omega arith

-- no listing has one byte
frame_long : (i : ℕ) (f : Accepted) (s : List ℕ) → 2 ≤ length (frame_line i f ++ s)
unfolding frame_line
frame_long i f s = simp length-append (omega arith)

refusal_long : (i : ℕ) (e : Refusal) → 2 ≤ length (refusal_line i e)
unfolding refusal_line
refusal_long i e = simp length-append (omega arith)

lines_long : (l : List ℕ) (n c i p : ℕ) (from : Carried) → 1 ≤ length (lines_from l n c i p from) → 2 ≤ length (lines_from l n c i p from)
unfolding lines_from
lines_long l n zero i p from h = absurd (omega arith)
lines_long l n (suc c) i p from h = go (read_grid l p n from)
  where
    go : (o : Outcome Accepted) → 2 ≤ length (and_then i (λ f. lines_from l n c (i + 1) f.position (carrying f.border f.ends_on_attack)) o)
    go (Ok f) = frame_long i f _
    go (Err e) = refusal_long i e

-- ---- listings

module _ (l m : List ℕ) where
  read_more : (p n : ℕ) (from : Carried) (f : Accepted) → read_grid l p n from ≡ Ok f → read_grid (l ++ m) p n from ≡ Ok f
  unfolding read_grid
  read_more p n from f h = go (is_slot_count n) refl
    where
      go : (t : Bool) → is_slot_count n ≡ t → read_grid (l ++ m) p n from ≡ Ok f
      go true e =
          let ys = bits_more l m p in
          rw (e, ys.1) (parsed_more n from p (bits_from l p) ys.0 f (rw e at h))
      go false e = let z : ◌≡◌ {A = ℕ} 0 1 = cc (rw e at h) in absurd (omega arith)

-- a line and what follows it, with more input
lines_step : (i : ℕ) (more now : Accepted → List ℕ) (p o : Outcome Accepted) → ((f : Accepted) → o ≡ Ok f → p ≡ Ok f)
    → ((f : Accepted) → 1 ≤ length (now f) → 2 ≤ length (now f)) → ((f : Accepted) → settled (now f) ≡ true → more f ≡ now f)
    → settled (and_then i now o) ≡ true → and_then i more p ≡ and_then i now o
lines_step i more now p (Err e) same long rest h = absurd (not_refused i e h)
lines_step i more now p (Ok f) same long rest h = rw (same f refl, rest f (settled-append (frame_line i f) (now f) (long f) h))

lines_more : (l m : List ℕ) (n c i p : ℕ) (from : Carried) → settled (lines_from l n c i p from) ≡ true → lines_from (l ++ m) n c i p from ≡ lines_from l n c i p from
unfolding lines_from
lines_more l m n zero i p from h = refl
lines_more l m n (suc c) i p from h =
    lines_step i _ _ (read_grid (l ++ m) p n from) (read_grid l p n from) (λ f. read_more l m p n from f)
    (λ f. lines_long l n c (i + 1) f.position (carrying f.border f.ends_on_attack)) (λ f. lines_more l m n c (i + 1) f.position (carrying f.border f.ends_on_attack)) h

pub settled_input : SettledInput
unfolding listing
settled_input [] m h = absurd (not_refused 0 BitsEnd h)
settled_input (n ∷ []) m h = absurd (not_refused 0 BitsEnd h)
settled_input (n ∷ b ∷ []) m h = absurd (not_refused 0 BitsEnd h)
settled_input (n ∷ b ∷ c ∷ l) m h = lines_more l m n c 0 0 (starting (pos b)) h
