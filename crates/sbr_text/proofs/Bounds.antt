-- What a line holds is small.
use mathlib.Core.Bool.{Bool, true, false, cond}
use mathlib.Core.List.{List, [], ◌∷◌, ◌++◌}
use Prim.Native.Nat.{ℕ, zero, suc, ◌≤◌}
use native.Mathlib.Omega.{arith}
use native.Mathlib.Decide.{dec_lt}
use borrow.Author.Tests.{lt-ltb, le-ltb}
use lib.Dec.{eqb, ltb}
use lib.IntN.{ℤ, pos, nat_abs}
use lib.ListN.{length, get_or, length-append}
use Rattle.sbr_text.specs.Parts.{is_borders, is_mark, LineParts, pushed, numbered, signed_of, with_number, closed, is_digit, is_blank, is_flag, is_class_letter, read_byte, read_bytes, no_parts, read_line}

-- no number of a list is more than 1000, with or without its sign
abbrev pub Near : List ℤ → Type 0
Near l = (i : ℕ) → nat_abs (get_or l i (pos 0)) ≤ 1000

-- no number is, and no list is longer than its places
pub record Small (v : ℕ) (bs : List ℤ) (z : ℤ) (fs : List Bool) : Type 0 where
  pub value : v ≤ 1000
  pub borders : length bs ≤ 7
  pub near : Near bs
  pub marked : nat_abs z ≤ 1000
  pub flags : length fs ≤ 6

-- so it is in a line, by its parts
abbrev pub Bounded : LineParts → Type 0
Bounded s = Small s.number.value s.borders s.mark s.flags

-- what holds of two holds of either
either : {A : Type 0} (P : A → Type 0) (b : Bool) {x y : A} → P x → P y → P (cond b x y)
either P true p q = p
either P false p q = q

-- one more of at most k leaves at most k
pushed_few : {A : Type 0} (k : ℕ) (xs : List A) (x : A) → length xs ≤ k → length (pushed k xs x) ≤ k
pushed_few k xs x h = elim (dec_lt (length xs) k) [
  | yes l ↦ rw (lt-ltb (length xs) k l) (omega (arith, length-append xs (x ∷ [])))
  | no l ↦ rw (le-ltb (length xs) k (omega arith)) h
]

-- a list with one more number that is near
more_near : (xs : List ℤ) (x : ℤ) → Near xs → nat_abs x ≤ 1000 → Near (xs ++ (x ∷ []))
more_near [] x h k zero = k
more_near [] x h k (suc i) = omega arith
more_near (y ∷ xs) x h k zero = h 0
more_near (y ∷ xs) x h k (suc i) = more_near xs x (λ j. h (suc j)) k i

-- a number is as near with its sign
pub signed_near : (m d : Bool) (v : ℕ) → v ≤ 1000 → nat_abs (signed_of (numbered m d v)) ≤ 1000
signed_near false d v h = h
signed_near true d zero h = omega arith
signed_near true d (suc v) h = h

-- a number at its place leaves a line small
bounded_number : (s : LineParts) (z : ℤ) → nat_abs z ≤ 1000 → Bounded s → Bounded (with_number s z)
bounded_number s z h b = record {
  value = omega arith;
  borders = either (λ l. length l ≤ 7) (is_borders s.part) (pushed_few 7 s.borders z b.borders) b.borders;
  near = either Near (is_borders s.part) (either Near (ltb (length s.borders) 7) (more_near s.borders z b.near h) b.near) b.near;
  marked = either (λ m. nat_abs m ≤ 1000) (is_mark s.part) h b.marked;
  flags = b.flags;
}

-- any other value that is small
revalued : {v w : ℕ} {bs : List ℤ} {z : ℤ} {fs : List Bool} → w ≤ 1000 → Small v bs z fs → Small w bs z fs
revalued h b = record { value = h; borders = b.borders; near = b.near; marked = b.marked; flags = b.flags }

-- so does the end of a number
bounded_closed : (s : LineParts) → Bounded s → Bounded (closed s)
bounded_closed s b =
    either Bounded s.number.digits
    (bounded_number s (signed_of s.number) (signed_near s.number.minus s.number.digits s.number.value b.value) b)
    (revalued (omega arith) b)

-- so does any byte
pub bounded_byte : (s : LineParts) (b : ℕ) → Bounded s → Bounded (read_byte s b)
unfolding read_byte
bounded_byte s b h =
    either Bounded (is_digit b) (revalued (omega arith) h)
    (either Bounded (is_blank b) (bounded_closed s h)
    (either Bounded (eqb b 47) (bounded_closed s h)
    (either Bounded (eqb b 45) h
    (either Bounded (is_flag b)
    (record { value = h.value; borders = h.borders; near = h.near; marked = h.marked; flags = pushed_few 6 s.flags (eqb b 72) h.flags })
    (either Bounded (is_class_letter b)
    (record { value = h.value; borders = omega arith; near = λ i. omega arith; marked = h.marked; flags = h.flags }) h)))))

-- a line of which nothing has been read is small
pub bounded_none : Bounded no_parts
bounded_none = record { value = omega arith; borders = omega arith; near = λ i. omega arith; marked = omega arith; flags = omega arith }

-- so is one after any bytes
bounded_bytes : (s : LineParts) (l : List ℕ) → Bounded s → Bounded (read_bytes s l)
unfolding read_bytes
bounded_bytes s [] h = h
bounded_bytes s (b ∷ l) h = bounded_bytes (read_byte s b) l (bounded_byte s b h)

-- what is read of a line is small
pub line_bounded : (l : List ℕ) → Bounded (read_line l)
unfolding read_line
line_bounded l = bounded_closed (read_bytes no_parts l) (bounded_bytes no_parts l bounded_none)
