-- Lengths between borders that are at most 33 are bytes.
use mathlib.Core.Path.{◌≡◌, refl, ap, ◌∙◌}
use mathlib.Core.Bool.{true}
use mathlib.Core.List.{List, [], ◌∷◌, map, reverse}
use Prim.Native.Nat.{ℕ, zero, suc, ◌-◌, ◌≤◌}
use native.Mathlib.Omega.{arith}
use borrow.Author.Tests.{leb-true}
use lib.ListN.{length, take, drop}
use Rattle.std.specs.Prelude.{leb, min}
use Rattle.std.specs.List.{list_all}
use Rattle.std.proofs.lemmas.Bool.{and_parts}
use Rattle.std.proofs.lemmas.List.{reverse-append}
use Rattle.std.proofs.lemmas.List.Folds.{list_all-append}
use Rattle.sbr_borders.specs.Borders.{steps_up, steps_down, leading_steps, trailing_steps}

-- each border is at most 33
abbrev pub near : List ℕ → Type 0
near bs = list_all (λ b. leb b 33) bs ≡ true

-- so are the first k
near_take : (k : ℕ) (bs : List ℕ) → near bs → near (take k bs)
near_take zero bs h = refl
near_take (suc k) [] h = refl
near_take (suc k) (b ∷ bs) h =
    let s = and_parts (leb b 33) (list_all (λ b. leb b 33) bs) h in
    rw s.0 (near_take k bs s.1)

-- and the others
near_drop : (k : ℕ) (bs : List ℕ) → near bs → near (drop k bs)
near_drop zero bs h = h
near_drop (suc k) [] h = refl
near_drop (suc k) (b ∷ bs) h = near_drop k bs (and_parts (leb b 33) (list_all (λ b. leb b 33) bs) h).1

-- last first too
near_reverse : (bs : List ℕ) → near bs → near (reverse bs)
near_reverse [] h = refl
near_reverse (b ∷ bs) h =
    let s = and_parts (leb b 33) (list_all (λ b. leb b 33) bs) h in
    ap (list_all (λ b. leb b 33)) (reverse-append (b ∷ []) bs) ∙ list_all-append (λ b. leb b 33) (reverse bs) (b ∷ []) ∙ rw (near_reverse bs s.1, s.0) refl

-- a number up to 255 is its byte
byte : (n : ℕ) → n ≤ 255 → min n 255 ≡ n
byte n h = omega arith

-- the lengths up
up_bytes : (p : ℕ) (bs : List ℕ) → near bs → map (λ n. min n 255) (steps_up p bs) ≡ steps_up p bs
unfolding steps_up
up_bytes p [] h = refl
up_bytes p (b ∷ bs) h =
    let s = and_parts (leb b 33) (list_all (λ b. leb b 33) bs) h in
    rw (byte (b - p) (omega (arith, leb-true b 33 s.0))) (ap {B = List ℕ} (λ l. (b - p) ∷ l) (up_bytes b bs s.1))

-- the lengths down
down_bytes : (t : ℕ) (bs : List ℕ) → t ≤ 255 → near bs → map (λ n. min n 255) (steps_down t bs) ≡ steps_down t bs
unfolding steps_down
down_bytes t [] k h = refl
down_bytes t (b ∷ bs) k h =
    let s = and_parts (leb b 33) (list_all (λ b. leb b 33) bs) h in
    rw (byte (t - b) (omega arith)) (ap {B = List ℕ} (λ l. (t - b) ∷ l) (down_bytes b bs (omega (arith, leb-true b 33 s.0)) s.1))

-- the leading lengths
pub leading_bytes : (lead k : ℕ) (bs : List ℕ) → near bs → map (λ n. min n 255) (leading_steps lead k bs) ≡ leading_steps lead k bs
leading_bytes lead k bs h = up_bytes lead (take k bs) (near_take k bs h)

-- and the trailing ones
pub trailing_bytes : (t k : ℕ) (bs : List ℕ) → t ≤ 255 → near bs → map (λ n. min n 255) (trailing_steps t k bs) ≡ trailing_steps t k bs
trailing_bytes t k bs m h = down_bytes t (reverse (drop k bs)) m (near_reverse (drop k bs) (near_drop k bs h))

-- a cut past the end is one at the end
pub cut : (k m : ℕ) (bs : List ℕ) → m ≡ min k (length bs) → (take m bs ≡ take k bs) × (drop m bs ≡ drop k bs)
cut zero zero bs h = (refl, refl)
cut zero (suc m) bs h = absurd (omega arith)
cut (suc k) zero [] h = (refl, refl)
cut (suc k) (suc m) [] h = absurd (omega arith)
cut (suc k) zero (b ∷ bs) h = absurd (omega arith)
cut (suc k) (suc m) (b ∷ bs) h =
    let e = cut k m bs (omega arith) in
    (ap {B = List ℕ} (λ l. b ∷ l) e.0, e.1)
