-- What reading takes from the bits and leaves, for each part that the readers of specs/Syntax.antt are made of.
use Rattle.std.specs.Prelude.{Ok, Err}
use Rattle.std.proofs.lemmas.Bool.{and_parts}
use mathlib.Core.Path.{◌≡◌, refl, sym, ap, ◌∙◌}
use mathlib.Core.Bool.{Bool, true, false, cond}
use mathlib.Core.List.{List, [], ◌∷◌, ◌++◌, append_assoc, append-nil}
use Prim.Native.Nat.{ℕ, zero, suc, ◌-◌, ◌*◌, ◌^◌, ◌≤◌, ◌<◌}
use native.Mathlib.Omega.{arith}
use native.Mathlib.Decide.{dec_le}
use borrow.Author.Tests.{le-leb, lt-leb, leb-true}
use lib.Dec.{leb}
use lib.ListN.{length, take, drop, length-append, take-append-drop}
use lib.Seq.{length-take-le, take_at, drop_at}
use Rattle.bits.specs.Bits.{bits_of, num_of}
use Rattle.bits.proofs.Numbers.{length-bits_of, num_bits, bits_num, num_lt}
use Rattle.sbr_grid.specs.declared.Refusal.{Refusal}
use Rattle.sbr_grid.specs.declared.Refusal.TheVariants.{BitsEnd, EnvelopeCount}
use Rattle.sbr_grid.specs.Refusals.{Outcome}
use Rattle.sbr_writer.specs.Syntax.{twos}
use Rattle.sbr_writer.specs.Write.{every, small}
use Rattle.sbr_parse.specs.Syntax.{Reader, onward, ◌followed_by◌, giving, flags, field, rel_bords, checked_count}

-- m reads a from the bits u, whatever follows
pub record Back {A : Type 0} (m : Reader A) (a : A) (u : List Bool) : Type 0 where
  pub reads : (r : List Bool) → m (u ++ r) ≡ Ok (a, r)

-- what m does at bs: it reads a value from the first bits, at most k; or it refuses, whatever follows where k bits are there
pub data Seen {A : Type 0} (k : ℕ) (P : A → List Bool → Type 0) (m : Reader A) (bs : List Bool) : Type 0 where
  full : (a : A) (u r : List Bool) → bs ≡ u ++ r → length u ≤ k → P a u → Back m a u → Seen k P m bs
  none : (e : Refusal) → m bs ≡ Err e → (k ≤ length bs → (ys : List Bool) → m (bs ++ ys) ≡ Err e) → Seen k P m bs

-- what m does at every list of bits
abbrev pub Reads : {A : Type 0} → ℕ → (A → List Bool → Type 0) → Reader A → Type 0
Reads k P m = (bs : List Bool) → Seen k P m bs

-- a value that satisfies P, from the bits that w writes for it
abbrev pub Coded : {A : Type 0} → (A → Type 0) → (A → List Bool) → A → List Bool → Type 0
Coded P w a u = P a × (u ≡ w a)

-- ---- one reader after another

-- where the first answers, the second goes on
then_reads : {A B : Type 0} (m : Reader A) (f : A → Reader B) (bs : List Bool) {r : List Bool} {a : A} {x : Outcome (B × List Bool)}
    → m bs ≡ Ok (a, r) → f a r ≡ x → (m followed_by f) bs ≡ x
unfolding ◌followed_by◌
then_reads m f bs e h = ap (onward f) e ∙ h

-- where the first refuses, both do
then_refuses : {A B : Type 0} (m : Reader A) (f : A → Reader B) (bs : List Bool) {e : Refusal} → m bs ≡ Err e → (m followed_by f) bs ≡ Err e
unfolding ◌followed_by◌
then_refuses m f bs e = ap (onward f) e

-- the bits of the first value, then those of the second
pub back_then : {A B : Type 0} {m : Reader A} (f : A → Reader B) {a : A} {b : B} {u v : List Bool}
    → Back m a u → Back (f a) b v → Back (m followed_by f) b (u ++ v)
back_then {m = m} f {u = u} {v = v} h k =
    record { reads = λ r. then_reads m f ((u ++ v) ++ r) (rw (append_assoc u v r) (h.reads (v ++ r))) (k.reads r) }

-- a value that is there takes no bits
pub back_pure : {A : Type 0} (a : A) → Back (giving a) a []
back_pure a = record { reads = λ r. refl }

-- what is made of a value takes the bits of that value
pub back_map : {A B : Type 0} {m : Reader A} (h : A → B) {a : A} {u : List Bool} → Back m a u → Back (m followed_by λ x. giving (h x)) (h a) u
back_map h {a = a} {u = u} k = rw (append-nil u) at (back_then (λ x. giving (h x)) k (back_pure (h a)))

-- the same three, at any list of bits
pub seen_pure : {A : Type 0} {P : A → List Bool → Type 0} (n : ℕ) (a : A) → P a [] → Reads n P (giving a)
seen_pure n a p bs = full a [] bs refl (omega arith) p (back_pure a)

pub seen_then : {A B : Type 0} {P : A → Type 0} {w : A → List Bool} {k : ℕ} {m : Reader A} (f : A → Reader B) (Q : B → List Bool → Type 0)
    (n : ℕ) → Reads k (Coded P w) m → k ≤ n → ((a : A) → P a → Reads (n - k) (λ b v. Q b (w a ++ v)) (f a)) → Reads n Q (m followed_by f)
seen_then {A} {B} {P} {w} {k} {m} f Q n h j g bs = first (h bs)
  where
    second : (a : A) (u r : List Bool) → bs ≡ u ++ r → length u ≤ k → u ≡ w a → Back m a u
        → Seen (n - k) (λ b v. Q b (w a ++ v)) (f a) r → Seen n Q (m followed_by f) bs
    second a u r e l c t (full b v s d i q z) =
        full b (u ++ v) s (rw (e, d, append_assoc u v s)) (omega (arith, length-append u v)) (rw c q) (back_then f t z)
    second a u r e l c t (none d q never) =
        none d (then_reads m f bs (rw e (t.reads r)) q)
        (λ i ys. then_reads m f (bs ++ ys) (rw (e, append_assoc u r ys) (t.reads (r ++ ys)))
        (never (omega (arith, length-append u r, ap length e)) ys))

    first : Seen k (Coded P w) m bs → Seen n Q (m followed_by f) bs
    first (full a u r e l p t) = second a u r e l p.1 t (g a p.0 r)
    first (none e q never) = none e (then_refuses m f bs q) (λ i ys. then_refuses m f (bs ++ ys) (never (omega arith) ys))

pub seen_map : {A B : Type 0} {P : A → Type 0} {w : A → List Bool} {k : ℕ} {m : Reader A} (h : A → B) (Q : B → List Bool → Type 0)
    (n : ℕ) → Reads k (Coded P w) m → k ≤ n → ((a : A) → P a → Q (h a) (w a)) → Reads n Q (m followed_by λ x. giving (h x))
seen_map {w = w} {k = k} h Q n g l q =
    seen_then (λ x. giving (h x)) Q n g l (λ a p. seen_pure (n - k) (h a) (rw (append-nil (w a)) (q a p)))

-- ---- the first n bits, for a value h that they stand for

abbrev front : {A : Type 0} → (List Bool → A) → ℕ → Reader A
front h n bs = cond (leb n (length bs)) (Ok (h (take n bs), drop n bs)) (Err BitsEnd)

back_front : {A : Type 0} (h : List Bool → A) (n : ℕ) (u : List Bool) → length u ≡ n → Back (front h n) (h u) u
back_front h n u e =
    record { reads = λ r. rw (le-leb n (length (u ++ r)) (omega (arith, length-append u r)), take_at u r n e, drop_at u r n e) }

seen_front : {A : Type 0} {P : A → List Bool → Type 0} (h : List Bool → A) (n : ℕ)
    → ((u : List Bool) → length u ≡ n → P (h u) u) → Reads n P (front h n)
seen_front {A} {P} h n p bs = go (dec_le n (length bs))
  where
    go : Dec (n ≤ length bs) → Seen n P (front h n) bs
    go (yes l) =
        let e : length (take n bs) ≡ n = length-take-le n bs l in
        full (h (take n bs)) (take n bs) (drop n bs) (sym (take-append-drop n bs)) (omega arith) (p (take n bs) e)
        (back_front h n (take n bs) e)
    go (no l) = none BitsEnd (rw (lt-leb n (length bs) (omega arith))) (λ j. absurd (l j))

-- ---- each part

-- n flags are read from themselves
pub back_flags : (n : ℕ) (fs : List Bool) → length fs ≡ n → Back (flags n) fs fs
unfolding flags
back_flags n fs e = back_front (λ u. u) n fs e

pub seen_flags : (n : ℕ) → Reads n (Coded (λ fs. length fs ≡ n) (λ fs. fs)) (flags n)
unfolding flags
seen_flags n = seen_front (λ u. u) n (λ u e. (e, refl))

-- a number of n bits is read from its bits
pub back_field : (n v : ℕ) → v < 2 ^ n → Back (field n) v (bits_of n v)
unfolding field
back_field n v l = rw (num_bits n v l) at (back_front num_of n (bits_of n v) (length-bits_of n v))

pub seen_field : (n : ℕ) → Reads n (Coded (λ v. v < 2 ^ n) (bits_of n)) (field n)
unfolding field
seen_field n = seen_front num_of n (λ u e. (rw e at (num_lt u), sym (rw e at (bits_num u))))

-- a count takes no bits, and is refused or not whatever follows
pub back_counted : (n : ℕ) (ok : Bool) → ok ≡ true → Back (checked_count ok n) n []
unfolding checked_count
back_counted n ok e = record { reads = λ r. rw e }

pub seen_counted : (n : ℕ) (ok : Bool) → Reads 0 (Coded (λ k. (ok ≡ true) × (k ≡ n)) (λ k. [])) (checked_count ok n)
unfolding checked_count
seen_counted n true bs = full n [] bs refl (omega arith) ((refl, refl), refl) (record { reads = λ r. refl })
seen_counted n false bs = none EnvelopeCount refl (λ l ys. refl)

-- stored lengths are read from two bits each
pub back_lengths : (rs : List ℕ) → small rs ≡ true → Back (rel_bords (length rs)) rs (twos rs)
unfolding rel_bords twos every
back_lengths [] h = back_pure []
back_lengths (r ∷ rs) h =
    let s = and_parts (leb r 3) (small rs) h in
    back_then _ (back_field 2 r (omega (arith, leb-true r 3 s.0))) (back_map (λ x. r ∷ x) (back_lengths rs s.1))

pub seen_lengths : (k : ℕ) → Reads (2 * k) (Coded (λ rs. (length rs ≡ k) × (small rs ≡ true)) twos) (rel_bords k)
unfolding rel_bords twos every
seen_lengths zero = seen_pure _ [] ((refl, refl), refl)
seen_lengths (suc k) =
    seen_then _ _ (2 * suc k) (seen_field 2) (omega arith)
    (λ r l. seen_map (λ x. r ∷ x) _ (2 * suc k - 2) (seen_lengths k) (omega arith)
    (λ rs h. ((ap suc h.0, rw (le-leb r 3 (omega arith)) h.1), refl)))
