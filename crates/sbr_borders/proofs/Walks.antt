-- Walks over borders, each element with the one before it: a test of all of them, and the list of what they give.
use mathlib.Core.Path.{◌≡◌, refl, sym, ap, ◌∙◌}
use mathlib.Core.Bool.{Bool, true, false, ◌&&◌}
use mathlib.Core.List.{List, [], ◌∷◌, ◌++◌, append_assoc, append-nil, reverse}
use Prim.Native.Nat.{ℕ, suc, ◌+◌, ◌-◌, ◌≤◌, ◌<◌}
use borrow.Author.Tests.{lt-ltb, le-ltb, le-leb}
use native.Mathlib.Omega.{arith}
use lib.Dec.{ltb}
use lib.ListN.{length, length-append, take, drop, get_or, drop_of_length-le}
use Rattle.std.specs.Option.{unwrap_or}
use Rattle.std.specs.List.{list_all, slice_get}
use Rattle.std.proofs.lemmas.List.{drop_more, length-drop, length-reverse, reverse-append}
use Rattle.sbr_borders.specs.Borders.{rises_from, last_or, steps_up, steps_down, even_ok, all_even, reaches}
use Rattle.sbr_borders.proofs.Shifts.{taken_up}

-- every element passes the test with the one before it, the first with p
unfoldable pub walk : (ℕ → ℕ → Bool) → ℕ → List ℕ → Bool
walk t p [] = true
walk t p (b ∷ bs) = t p b && walk t b bs

-- what each element gives with the one before it, the first with p
unfoldable pub steps : (ℕ → ℕ → ℕ) → ℕ → List ℕ → List ℕ
steps f p [] = []
steps f p (b ∷ bs) = f p b ∷ steps f b bs

-- the length from p up to b
abbrev pub up : ℕ → ℕ → ℕ
up p b = b - p

-- the length from t down to b
abbrev pub down : ℕ → ℕ → ℕ
down t b = t - b

-- that length is even and 2 to 8
abbrev pub even_by : (ℕ → ℕ → ℕ) → ℕ → ℕ → Bool
even_by f p b = even_ok (f p b)

-- rising borders are a walk
pub rises_walk : (p : ℕ) (bs : List ℕ) → rises_from p bs ≡ walk ltb p bs
unfolding rises_from walk
rises_walk p [] = refl
rises_walk p (b ∷ bs) = ap (λ r. ltb p b && r) (rises_walk b bs)

-- the steps up are such a list
pub up_steps : (p : ℕ) (bs : List ℕ) → steps_up p bs ≡ steps up p bs
unfolding steps_up steps
up_steps p [] = refl
up_steps p (b ∷ bs) = ap {B = List ℕ} (λ r. (b - p) ∷ r) (up_steps b bs)

-- the same of the steps down
pub down_steps : (t : ℕ) (bs : List ℕ) → steps_down t bs ≡ steps down t bs
unfolding steps_down steps
down_steps t [] = refl
down_steps t (b ∷ bs) = ap {B = List ℕ} (λ r. (t - b) ∷ r) (down_steps b bs)

-- the test of the lengths is a walk
pub even_walk : (f : ℕ → ℕ → ℕ) (p : ℕ) (bs : List ℕ) → all_even (steps f p bs) ≡ walk (even_by f) p bs
unfolding all_even steps walk
even_walk f p [] = refl
even_walk f p (b ∷ bs) = ap (λ r. even_ok (f p b) && r) (even_walk f b bs)

-- from an index on: the element there and the rest
pub drop-next : {A : Type 0} (d : A) (l : List A) (i : ℕ) (x : A) → i < length l → get_or l i d ≡ x → drop i l ≡ x ∷ drop (i + 1) l
drop-next d l i x h e = rw e at (drop_more l i d h)

-- one step more, d, behind those so far
step_more : (f : ℕ → ℕ → ℕ) (p b d : ℕ) (out more r bs : List ℕ) → d ≡ f p b → more ≡ out ++ (d ∷ []) → out ++ steps f p (b ∷ bs) ≡ r → more ++ steps f b bs ≡ r
unfolding steps
step_more f p b d out more r bs e g k = rw (g, e, append_assoc out (f p b ∷ []) (steps f b bs)) k

-- no step more
step_none : (f : ℕ → ℕ → ℕ) (p : ℕ) (out r : List ℕ) → out ++ steps f p [] ≡ r → out ≡ r
unfolding steps
step_none f p out r k = sym (append-nil out) ∙ k

-- before index i of n, with p the element before it, all tests passed: the rest decides r
pub record Walk (t : ℕ → ℕ → Bool) (l : List ℕ) (n : ℕ) (r : Bool) (i p : ℕ) : Type 0 where
  pub size : length l ≡ n
  pub rest : walk t p (drop i l) ≡ r

module _ {t : ℕ → ℕ → Bool} {l : List ℕ} {n : ℕ} {r : Bool} {i p : ℕ} (w : Walk t l n r i p) where
  -- one element further
  pub walk-next : (b : ℕ) → i < n → get_or l i 0 ≡ b → t p b ≡ true → Walk t l n r (i + 1) b
  unfolding walk
  walk-next b h e k = record { size = w.size; rest = rw (drop-next 0 l i b (omega (arith, w.size)) e, k) at w.rest }

  -- an element fails the test
  pub walk-stop : (b : ℕ) → i < n → get_or l i 0 ≡ b → t p b ≡ false → false ≡ r
  unfolding walk
  walk-stop b h e k = rw (drop-next 0 l i b (omega (arith, w.size)) e, k) at w.rest

  -- no element is left
  pub walk_end : n ≤ i → true ≡ r
  unfolding walk
  walk_end h = rw (drop_of_length-le l {i = i} (omega (arith, w.size))) at w.rest

-- out holds the steps before index i of n, at most four, with p the element before it: with the rest they are r
pub record Steps (f : ℕ → ℕ → ℕ) (l : List ℕ) (n : ℕ) (r : List ℕ) (i p : ℕ) (out : List ℕ) : Type 0 where
  pub size : length l ≡ n
  pub few : n ≤ 4
  pub count : length out ≡ i
  pub rest : out ++ steps f p (drop i l) ≡ r

-- no element is passed
pub steps_begin : {f : ℕ → ℕ → ℕ} {l : List ℕ} {n : ℕ} {r : List ℕ} {p : ℕ} {out : List ℕ} → length l ≡ n → n ≤ 4 → out ≡ []
    → steps f p l ≡ r → Steps f l n r 0 p out
steps_begin s h e g = record { size = s; few = h; count = ap length e; rest = rw e g }

module _ {f : ℕ → ℕ → ℕ} {l : List ℕ} {n : ℕ} {r : List ℕ} {i p : ℕ} {out : List ℕ} (s : Steps f l n r i p out) where
  -- one step more
  pub steps_next : (b d : ℕ) (more : List ℕ) → i < n → get_or l i 0 ≡ b → d ≡ f p b → more ≡ out ++ (d ∷ []) → Steps f l n r (i + 1) b more
  steps_next b d more h e g k =
      record {
        size = s.size;
        few = s.few;
        count = rw (k, length-append) (omega (arith, s.count));
        rest = step_more f p b d out more r (drop (i + 1) l) g k (rw (drop-next 0 l i b (omega (arith, s.size)) e) at s.rest);
      }

  -- no element is left
  pub steps-end : n ≤ i → out ≡ r
  steps-end h = step_none f p out r (rw (drop_of_length-le l {i = i} (omega (arith, s.size))) at s.rest)

-- the borders that are left of a walk from the end down, last first, are those from as many on as are passed
abbrev pub Left : List ℕ → List ℕ → Type 0
Left bs rest = reverse rest ≡ drop (length bs - length rest) (reverse bs)

-- all are left
pub left_begin : (bs : List ℕ) → Left bs bs
left_begin bs = let e : length bs - length bs ≡ 0 = omega arith in rw e refl

-- the next of those stands there, and the others are left
pub left-next : (bs rest fewer : List ℕ) (b : ℕ) → Left bs rest → rest ≡ fewer ++ (b ∷ [])
    → (length bs - length rest < length bs) × (get_or (reverse bs) (length bs - length rest) 0 ≡ b) × (length bs - length fewer ≡ length bs - length rest + 1) × Left bs fewer
left-next bs rest fewer b e h =
    let i = length bs - length rest in
    let t = taken_up 0 (reverse bs) i b (reverse fewer) (sym e ∙ ap reverse h ∙ reverse-append fewer (b ∷ [])) in
    let m : i < length bs = rw (length-reverse bs) at t.0 in
    let n : length rest ≡ length fewer + 1 = rw (h, length-append) refl in
    let u : length rest ≡ length bs - i = rw (length-drop i (reverse bs), length-reverse bs, length-reverse rest) at (ap length e) in
    let k : length bs - length fewer ≡ i + 1 = omega (arith, m, n, u) in
    (m, t.1, k, rw k (sym t.2))

-- ---- the same in the words of the definitions, and for lengths of any number of borders

-- rising borders are such a walk
rising : (p : ℕ) (r : Bool) (bs : List ℕ) (i : ℕ) → rises_from p (drop i bs) ≡ r → Walk ltb bs (length bs) r i p
rising p r bs i g = record { size = refl; rest = sym (rises_walk p (drop i bs)) ∙ g }

-- rising borders, the first of those that are left above p
pub rises_more : (p : ℕ) (r : Bool) (bs : List ℕ) (i : ℕ) → i < length bs → p < get_or bs i 0 → rises_from p (drop i bs) ≡ r → rises_from (get_or bs i 0) (drop (i + 1) bs) ≡ r
rises_more p r bs i h k g =
    rises_walk (get_or bs i 0) (drop (i + 1) bs) ∙ (walk-next (rising p r bs i g) (get_or bs i 0) h refl (lt-ltb p (get_or bs i 0) k)).rest

-- the first of those is not
pub rises_not : (p : ℕ) (r : Bool) (bs : List ℕ) (i : ℕ) → i < length bs → get_or bs i 0 ≤ p → rises_from p (drop i bs) ≡ r → false ≡ r
rises_not p r bs i h k g = walk-stop (rising p r bs i g) (get_or bs i 0) h refl (le-ltb p (get_or bs i 0) k)

-- none is left
pub rises_all : (p : ℕ) (r : Bool) (bs : List ℕ) (i : ℕ) → length bs ≤ i → rises_from p (drop i bs) ≡ r → true ≡ r
rises_all p r bs i h g = walk_end (rising p r bs i g) h

-- one step more of those up
pub up_more : (p d : ℕ) (out more r bs : List ℕ) (i : ℕ) → i < length bs → more ≡ out ++ (d ∷ []) → d ≡ get_or bs i 0 - p → out ++ steps_up p (drop i bs) ≡ r
    → more ++ steps_up (get_or bs i 0) (drop (i + 1) bs) ≡ r
up_more p d out more r bs i h e f g =
    rw up_steps (step_more up p (get_or bs i 0) d out more r (drop (i + 1) bs) f e (rw (up_steps, drop_more bs i 0 h) at g))

-- no border is left
pub up_all : (p : ℕ) (out r bs : List ℕ) (i : ℕ) → length bs ≤ i → out ++ steps_up p (drop i bs) ≡ r → out ≡ r
up_all p out r bs i h g = step_none up p out r (rw (up_steps, drop_of_length-le bs {i = i} h) at g)

-- one step more of those down, where rest holds the borders that are left
pub down_more : (t d b : ℕ) (out more r rest fewer : List ℕ) → rest ≡ fewer ++ (b ∷ []) → more ≡ out ++ (d ∷ []) → d ≡ t - b
    → out ++ steps_down t (reverse rest) ≡ r → more ++ steps_down b (reverse fewer) ≡ r
down_more t d b out more r rest fewer h e f g =
    rw down_steps (step_more down t b d out more r (reverse fewer) f e (rw (down_steps, h, reverse-append fewer (b ∷ [])) at g))

-- no border is left
pub down_all : (t : ℕ) (out r rest : List ℕ) → length rest ≡ 0 → out ++ steps_down t (reverse rest) ≡ r → out ≡ r
down_all t out r [] h g = step_none down t out r (rw down_steps at g)
down_all t out r (b ∷ rest) h g = absurd (omega arith)

-- the lengths one by one
pub all_even_is : (ds : List ℕ) → list_all (λ d. even_ok d) ds ≡ all_even ds
unfolding all_even
all_even_is [] = refl
all_even_is (d ∷ ds) = ap (λ r. even_ok d && r) (all_even_is ds)

-- both sides' tests, of counts that fit
pub reaches_by : (lead t k : ℕ) (bs ups downs : List ℕ) (r : Bool) → k ≤ 3 → k ≤ length bs → length bs - k ≤ 3 → ups ≡ steps_up lead (take k bs)
    → list_all (λ d. even_ok d) ups ≡ true → downs ≡ steps_down t (reverse (drop k bs)) → r ≡ list_all (λ d. even_ok d) downs → r ≡ reaches lead t k bs
unfolding reaches
reaches_by lead t k bs ups downs r h i j u e d f =
    rw (← u, ← d, le-leb k 3 h, le-leb k (length bs) i, le-leb (length bs - k) 3 j, ← all_even_is ups, e) (f ∙ all_even_is downs)

-- the last border of a list that begins with b
last_at : (p b : ℕ) (bs : List ℕ) → unwrap_or (slice_get (b ∷ bs) (length bs)) p ≡ last_or b bs
unfolding last_or
last_at p b [] = refl
last_at p b (c ∷ bs) = last_at p c bs

-- the last border, or p where there is none
pub last_is : (p : ℕ) (bs : List ℕ) → unwrap_or (slice_get bs (length bs - 1)) p ≡ last_or p bs
unfolding last_or
last_is p [] = refl
last_is p (b ∷ bs) = let e : suc (length bs) - 1 ≡ length bs = omega arith in rw e (last_at p b bs)
