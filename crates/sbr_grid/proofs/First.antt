-- Laws of `first`: n places of a list, and d where the list has no more.
use mathlib.Core.Path.{◌≡◌, refl, sym, ap, ◌∙◌}
use mathlib.Core.List.{List, [], ◌∷◌, ◌++◌}
use Prim.Native.Nat.{ℕ, zero, suc, ◌+◌, ◌-◌, ◌≤◌, ◌<◌}
use native.Mathlib.Omega.{arith}
use native.Mathlib.Nat.{sub-zero, suc-sub-suc}
use native.Mathlib.Numerals.{add-one}
use Rattle.std.specs.Prelude.{min, map}
use lib.ListN.{length, get_or, take, drop, set, replicate, get_or-eq_default}
use lib.Seq.{drop-cons}
use Rattle.sbr_grid.specs.Grid.{first}

-- ---- the list

-- there are n of them
pub first-length : {A : Type 0} (d : A) (n : ℕ) (xs : List A) → length (first d n xs) ≡ n
first-length d zero xs = refl
first-length d (suc n) [] = ap suc (first-length d n [])
first-length d (suc n) (x ∷ xs) = ap suc (first-length d n xs)

-- of nothing they are all d
pub first_none : {A : Type 0} (d : A) (n : ℕ) → first d n [] ≡ replicate n d
first_none d zero = refl
first_none d (suc n) = ap {B = List _} (λ t. d ∷ t) (first_none d n)

-- of nothing but d they are all d
pub first-replicate : {A : Type 0} (d : A) (n m : ℕ) → first d n (replicate m d) ≡ replicate n d
first-replicate d zero m = refl
first-replicate d (suc n) zero = ap {B = List _} (λ t. d ∷ t) (first_none d n)
first-replicate d (suc n) (suc m) = ap {B = List _} (λ t. d ∷ t) (first-replicate d n m)

-- the next law, by the list
pad : {A : Type 0} (d : A) (n : ℕ) (xs : List A) → length xs ≤ n → first d n xs ≡ xs ++ replicate (n - length xs) d
pad d n [] h = rw sub-zero (first_none d n)
pad d zero (x ∷ xs) h = absurd (omega arith)
pad d (suc n) (x ∷ xs) h = rw suc-sub-suc (ap {B = List _} (λ t. x ∷ t) (pad d n xs (omega arith)))

-- of a list of k, at most n, they are the list and n - k times d
pub first_pad : {A : Type 0} (d : A) (n k : ℕ) (xs : List A) → length xs ≡ k → k ≤ n → first d n xs ≡ xs ++ replicate (n - k) d
first_pad d n k xs e h = rw (← e) (pad d n xs (omega arith))

-- as many as the list has are the list
pub first_all : {A : Type 0} (d : A) (xs : List A) → first d (length xs) xs ≡ xs
first_all d [] = refl
first_all d (x ∷ xs) = ap {B = List _} (λ t. x ∷ t) (first_all d xs)

-- at most as many as the list has are its front
pub first_take : {A : Type 0} (d : A) (n : ℕ) (xs : List A) → n ≤ length xs → take n xs ≡ first d n xs
first_take d zero xs h = refl
first_take d (suc n) [] h = absurd (omega arith)
first_take d (suc n) (x ∷ xs) h = ap {B = List _} (λ t. x ∷ t) (first_take d n xs (omega arith))

-- a front of the list, k of its items, over n places that are all d
over : {A : Type 0} (d : A) (n k : ℕ) (xs : List A) → k ≤ n → k ≤ length xs → (k < n → length xs ≤ k) → take k xs ++ drop k (replicate n d) ≡ first d n xs
over d n zero [] h l m = sym (first_none d n)
over d zero zero (x ∷ xs) h l m = refl
over d (suc n) zero (x ∷ xs) h l m = absurd (omega (arith, m (omega arith)))
over d n (suc k) [] h l m = absurd (omega arith)
over d zero (suc k) (x ∷ xs) h l m = absurd (omega arith)
over d (suc n) (suc k) (x ∷ xs) h l m = ap {B = List _} (λ t. x ∷ t) (over d n k xs (omega arith) (omega arith) (λ a. let b = m (omega arith) in omega arith))

-- as much of the list as n places hold, over n places that are all d
pub first_over : {A : Type 0} (d : A) (n k : ℕ) (xs : List A) → k ≡ min (length xs) n → take k xs ++ drop k (replicate n d) ≡ first d n xs
first_over d n k xs e = over d n k xs (omega arith) (omega arith) (λ a. omega arith)

-- ---- a place

-- a place below n is the list's
pub first-get_or : {A : Type 0} (d : A) (n i : ℕ) (xs : List A) → i < n → get_or (first d n xs) i d ≡ get_or xs i d
first-get_or d zero i xs h = absurd (omega arith)
first-get_or d (suc n) zero [] h = refl
first-get_or d (suc n) (suc i) [] h = first-get_or d n i [] (omega arith)
first-get_or d (suc n) zero (x ∷ xs) h = refl
first-get_or d (suc n) (suc i) (x ∷ xs) h = first-get_or d n i xs (omega arith)

-- a place below n past the end of the list is d
pub first-get_or_short : {A : Type 0} (d : A) (n i : ℕ) (xs : List A) → i < n → length xs ≤ i → get_or (first d n xs) i d ≡ d
first-get_or_short d n i xs h k = first-get_or d n i xs h ∙ get_or-eq_default xs d {n = i} k

-- ---- a part

-- from a place below n on: that place and the rest
pub first-drop : {A : Type 0} (d : A) (n i : ℕ) (xs : List A) → i < n → drop i (first d n xs) ≡ get_or xs i d ∷ drop (i + 1) (first d n xs)
first-drop d n i xs h = rw (add-one, drop-cons (first d n xs) i d (rw (first-length d n xs) h), first-get_or d n i xs h)

-- the first k of them, at most n
pub first_taken : {A : Type 0} (d : A) (k n : ℕ) (xs : List A) → k ≤ n → take k (first d n xs) ≡ first d k xs
first_taken d zero n xs h = refl
first_taken d (suc k) zero xs h = absurd (omega arith)
first_taken d (suc k) (suc n) [] h = ap {B = List _} (λ t. d ∷ t) (first_taken d k n [] (omega arith))
first_taken d (suc k) (suc n) (x ∷ xs) h = ap {B = List _} (λ t. x ∷ t) (first_taken d k n xs (omega arith))

-- n places of n places are those
pub first_again : {A : Type 0} (d : A) (n : ℕ) (xs : List A) → first d n (first d n xs) ≡ first d n xs
first_again d zero xs = refl
first_again d (suc n) [] = ap {B = List _} (λ t. d ∷ t) (first_again d n [])
first_again d (suc n) (x ∷ xs) = ap {B = List _} (λ t. x ∷ t) (first_again d n xs)

-- as many as the list has, of m places that hold it, are the list
pub first-first : {A : Type 0} (d : A) (m : ℕ) (xs : List A) → length xs ≤ m → first d (length xs) (first d m xs) ≡ xs
first-first d m [] h = refl
first-first d zero (x ∷ xs) h = absurd (omega arith)
first-first d (suc m) (x ∷ xs) h = ap {B = List _} (λ t. x ∷ t) (first-first d m xs (omega arith))

-- the same by the list's length n
pub first_back : {A : Type 0} (d : A) (m n : ℕ) (xs : List A) → length xs ≡ n → n ≤ m → first d n (first d m xs) ≡ xs
first_back d m n xs e h = rw (← e) (first-first d m xs (omega arith))

-- m places of as many items as the list and n places have, k of them, are m places of the n places
pub first_front : {A : Type 0} (d : A) (m n k : ℕ) (xs : List A) → k ≡ min n (length xs) → first d m (take k xs) ≡ first d m (first d n xs)
first_front d zero n k xs e = refl
first_front d (suc m) n zero [] e = first_none d (suc m) ∙ sym (first-replicate d (suc m) n) ∙ ap (first d (suc m)) (sym (first_none d n))
first_front d (suc m) n (suc k) [] e = absurd (omega arith)
first_front d (suc m) zero zero (x ∷ xs) e = refl
first_front d (suc m) zero (suc k) (x ∷ xs) e = absurd (omega arith)
first_front d (suc m) (suc n) zero (x ∷ xs) e = absurd (omega arith)
first_front d (suc m) (suc n) (suc k) (x ∷ xs) e = ap {B = List _} (λ t. x ∷ t) (first_front d m n k xs (omega arith))

-- f of n places
pub first_map : {A B : Type 0} (f : A → B) (d : A) (n : ℕ) (xs : List A) → map f (first d n xs) ≡ first (f d) n (map f xs)
first_map f d zero xs = refl
first_map f d (suc n) [] = ap {B = List _} (λ t. f d ∷ t) (first_map f d n [])
first_map f d (suc n) (x ∷ xs) = ap {B = List _} (λ t. f x ∷ t) (first_map f d n xs)

-- ---- one place more, and a store

-- the next law at suc n
next : {A : Type 0} (d : A) (n : ℕ) (xs : List A) → first d (suc n) xs ≡ first d n xs ++ (get_or xs n d ∷ [])
next d zero [] = refl
next d zero (x ∷ xs) = refl
next d (suc n) [] = ap {B = List _} (λ t. d ∷ t) (next d n [])
next d (suc n) (x ∷ xs) = ap {B = List _} (λ t. x ∷ t) (next d n xs)

-- one place more
pub first_next : {A : Type 0} (d : A) (n : ℕ) (xs : List A) → first d (n + 1) xs ≡ first d n xs ++ (get_or xs n d ∷ [])
first_next d n xs = rw add-one (next d n xs)

-- a store in the list is a store in its places
pub first-set : {A : Type 0} (d : A) (n i : ℕ) (xs : List A) (v : A) → i < length xs → first d n (set xs i v) ≡ set (first d n xs) i v
first-set d zero i xs v h = refl
first-set d (suc n) i [] v h = absurd (omega arith)
first-set d (suc n) zero (x ∷ xs) v h = refl
first-set d (suc n) (suc i) (x ∷ xs) v h = ap {B = List _} (λ t. x ∷ t) (first-set d n i xs v (omega arith))

-- the next law at suc n
push : {A : Type 0} (d : A) (n : ℕ) (xs : List A) (v : A) → n < length xs → first d (suc n) (set xs n v) ≡ first d n xs ++ (v ∷ [])
push d n [] v h = absurd (omega arith)
push d zero (x ∷ xs) v h = refl
push d (suc n) (x ∷ xs) v h = ap {B = List _} (λ t. x ∷ t) (push d n xs v (omega arith))

-- a store behind n places is one place more
pub first_push : {A : Type 0} (d : A) (n : ℕ) (xs : List A) (v : A) → n < length xs → first d (n + 1) (set xs n v) ≡ first d n xs ++ (v ∷ [])
first_push d n xs v h = rw add-one (push d n xs v h)

-- the next law at the length of the list
append : {A : Type 0} (d : A) (m : ℕ) (xs : List A) (v : A) → length xs < m → set (first d m xs) (length xs) v ≡ first d m (xs ++ (v ∷ []))
append d zero xs v h = absurd (omega arith)
append d (suc m) [] v h = refl
append d (suc m) (x ∷ xs) v h = ap {B = List _} (λ t. x ∷ t) (append d m xs v (omega arith))

-- a store right behind a list of n, in m places that hold it, is one element more
pub first-append : {A : Type 0} (d : A) (m n : ℕ) (xs : List A) (v : A) → length xs ≡ n → n < m → set (first d m xs) n v ≡ first d m (xs ++ (v ∷ []))
first-append d m n xs v e h = rw (← e) (append d m xs v (omega arith))

-- m places that are d from n on are so from n + 1 on after a store at n
pub first_fill : {A : Type 0} (d : A) (m n : ℕ) (xs : List A) (v : A) → length xs ≡ m → n < m → xs ≡ first d m (first d n xs)
    → set xs n v ≡ first d m (first d (n + 1) (set xs n v))
first_fill d m n xs v l h e =
    ap (λ t. set t n v) e
    ∙ first-append d m n (first d n xs) v (first-length d n xs) h
    ∙ ap (first d m) (sym (first_push d n xs v (omega arith)))
