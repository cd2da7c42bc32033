-- Laws of a line that is made of parts.
use mathlib.Core.Path.{◌≡◌, refl, ap}
use mathlib.Core.Bool.{Bool, false}
use mathlib.Core.List.{List, [], ◌∷◌, ◌++◌, map, append-nil, append_assoc}
use Prim.Native.Nat.{ℕ, zero, suc, ◌+◌, ◌/◌, ◌%◌, ◌≤◌, ◌<◌}
use native.Mathlib.Omega.{arith}
use native.Mathlib.Decide.{dec_lt}
use native.Mathlib.Numerals.{add-one}
use borrow.Author.Tests.{lt-ltb, le-ltb}
use lib.IntN.{ℤ, pos, negsuc}
use lib.ListN.{length, get_or, take, drop, drop_of_length-le}
use lib.Seq.{take_all, drop-cons}
use lib.Signed.{mag}
use Rattle.std.specs.Prelude.{min, Result, Ok, Err, IsOk, OnOk, ◌↔◌}
use Rattle.std.specs.Fmt as fmt
use Rattle.std.proofs.lemmas.Bool.{false≢true}
use Rattle.std.proofs.lemmas.Fmt.{decimal_digit, decimal_step}
use Rattle.sbr_list.specs.Listing.{decimal, signed, behind, spaced, resolution}
use Rattle.sbr_list.specs.Line.{with_text}

-- ---- texts behind a line

-- what is cut off may be cut off later
take_again : {A : Type 0} (n : ℕ) (x b : List A) → take n (take n x ++ b) ≡ take n (x ++ b)
take_again zero x b = refl
take_again (suc n) [] b = refl
take_again (suc n) (y ∷ x) b = ap {B = List _} (λ t. y ∷ t) (take_again n x b)

-- a text behind another is both behind the line
pub text_append : (w a b : List ℕ) → with_text (with_text w a) b ≡ with_text w (a ++ b)
unfolding with_text
text_append w a b = rw (take_again 64 (w ++ a) b, append_assoc)

-- a line behind which two texts were put, one after the other
pub then : (v w r a b : List ℕ) → w ≡ with_text v a → r ≡ with_text w b → r ≡ with_text v (a ++ b)
then v w r a b e f = rw (f, e, text_append v a b)

-- a text of at most 64 bytes is a line
pub line_whole : (t : List ℕ) → length t ≤ 64 → with_text [] t ≡ t
unfolding with_text
line_whole t h = take_all 64 t h

-- no text behind one of at most 64 bytes
pub text_none : (w : List ℕ) → length w ≤ 64 → w ≡ with_text w []
unfolding with_text
text_none w h = rw (append-nil, take_all 64 w h)

-- as many items as there are
take_min : (c k : ℕ) (s : List ℕ) → k ≡ min c (length s) → take k s ≡ take c s
take_min c k s e = elim (dec_lt c (length s)) [
  | yes h ↦ let z : k ≡ c = omega arith in rw z
  | no h ↦ let z : k ≡ length s = omega arith in rw (z, take_all (length s) s (omega arith), take_all c s (omega arith))
]

-- as much of a text as there is room for
pub room_text : (w t : List ℕ) (c k : ℕ) → c + length w ≡ 64 → k ≡ min c (length t) → w ++ take k t ≡ with_text w t
unfolding with_text
room_text w t c k h e = rw (take_min c k t e) (go 64 w t c h)
  where
    go : (n : ℕ) (v s : List ℕ) (j : ℕ) → j + length v ≡ n → v ++ take j s ≡ take n (v ++ s)
    go n [] s j e = let z : j ≡ n = omega arith in rw z
    go zero (y ∷ v) s j e = absurd (omega arith)
    go (suc n) (y ∷ v) s j e = ap {B = List _} (λ t. y ∷ t) (go n v s j (omega arith))

-- what a call adds that has room
pub added : {T E : Type 0} (r : Result T E) (P : Type 0) (w t v : List ℕ) → P → (IsOk r ↔ P) → OnOk r (v ≡ w ++ t) → v ≡ w ++ t
added (Ok x) P w t v p f e = e
added (Err x) P w t v p f e = absurd (false≢true (f.1 p))

-- one letter more, and none
pub letter_next : (w r : List ℕ) (t : List Bool) (j : ℕ) → j < length t → r ≡ with_text w (resolution (get_or t j false) ∷ [])
    → with_text r (map resolution (drop (j + 1) t)) ≡ with_text w (map resolution (drop j t))
letter_next w r t j h e = rw (e, text_append, add-one, drop-cons t j false h)

pub letters_done : (w : List ℕ) (t : List Bool) (j : ℕ) → length w ≤ 64 → length t ≤ j → w ≡ with_text w (map resolution (drop j t))
letters_done w t j h k = rw (drop_of_length-le t {i = j} k) (text_none w h)

-- ---- numbers

-- of one, two and three digits
pub decimal_one : (n : ℕ) → n < 10 → decimal n ≡ (48 + n) ∷ []
unfolding decimal
decimal_one n h = rw (lt-ltb n 10 h)

pub decimal_two : (n : ℕ) → 10 ≤ n → n < 100 → decimal n ≡ (48 + n / 10) ∷ (48 + n % 10) ∷ []
unfolding decimal
decimal_two n g h = rw (le-ltb n 10 g, lt-ltb n 100 h)

pub decimal_three : (n : ℕ) → 100 ≤ n → decimal n ≡ (48 + n / 100) ∷ (48 + n / 10 % 10) ∷ (48 + n % 10) ∷ []
unfolding decimal
decimal_three n g = rw (le-ltb n 10 (omega arith), le-ltb n 100 g)

-- a number below 1000 is printed so
pub decimal_is : (n : ℕ) → n < 1000 → fmt.decimal n ≡ decimal n
decimal_is n h = elim (dec_lt n 10) [
  | yes a ↦ rw (decimal_digit n a, decimal_one n a)
  | no a ↦ elim (dec_lt n 100) [
    | yes b ↦ rw (decimal_step n (omega arith) (omega arith), decimal_digit (n / 10) (omega arith), decimal_two n (omega arith) b)
    | no b ↦
        let q : n / 10 / 10 ≡ n / 100 = omega arith in
        rw (
          decimal_step n (omega arith) (omega arith),
          decimal_step (n / 10) (omega arith) (omega arith),
          decimal_digit (n / 10 / 10) (omega arith),
          decimal_three n (omega arith),
          q,
        )
  ]
]

-- so is one with its sign
pub signed_is : (z : ℤ) → mag z < 100 → fmt.signed_decimal z ≡ signed z
unfolding signed
signed_is (pos n) h = decimal_is n (omega arith)
signed_is (negsuc n) h = ap {B = List _} (λ t. 45 ∷ t) (decimal_is (suc n) (omega arith))

-- the first of several numbers, and the others
pub spaced_behind : (x : ℕ) (xs : List ℕ) → spaced (x ∷ xs) ≡ decimal x ++ behind xs
unfolding spaced behind
spaced_behind x [] = rw append-nil
spaced_behind x (y ∷ xs) = rw (spaced_behind y xs)

-- one number more, and none
pub behind_next : (w s r t : List ℕ) (j : ℕ) → j < length t → s ≡ with_text w (32 ∷ []) → r ≡ with_text s (decimal (get_or t j 0))
    → with_text r (behind (drop (j + 1) t)) ≡ with_text w (behind (drop j t))
unfolding behind
behind_next w s r t j h e f = rw (f, e, text_append, text_append, add-one, drop-cons t j 0 h)

pub behind_done : (w t : List ℕ) (j : ℕ) → length w ≤ 64 → length t ≤ j → w ≡ with_text w (behind (drop j t))
unfolding behind
behind_done w t j h k = rw (drop_of_length-le t {i = j} k) (text_none w h)

-- numbers with a blank between: none, and the first with the others
pub spaced_none : (w t : List ℕ) → length t < 1 → length w ≤ 64 → w ≡ with_text w (spaced t)
unfolding spaced
spaced_none w [] h k = text_none w k
spaced_none w (x ∷ t) h k = absurd (omega arith)

pub spaced_some : (w s r t u : List ℕ) → 1 ≤ length t → u ≡ drop 1 t → s ≡ with_text w (decimal (get_or t 0 0)) → r ≡ with_text s (behind u)
    → r ≡ with_text w (spaced t)
spaced_some w s r [] u h d e f = absurd (omega arith)
spaced_some w s r (x ∷ t) u h d e f = rw (f, e, d, text_append, spaced_behind x t)
