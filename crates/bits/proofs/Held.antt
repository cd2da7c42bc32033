-- Bytes that hold bits.
use mathlib.Core.Path.{◌≡◌, refl, sym, ap, ◌∙◌}
use mathlib.Core.Bool.{Bool}
use mathlib.Core.List.{List, ◌++◌, append_assoc}
use Prim.Native.Nat.{ℕ, zero, suc, ◌+◌, ◌-◌, ◌≤◌}
use native.Mathlib.Nat.{add-zero, add-suc, suc-add}
use native.Mathlib.Omega.{arith}
use lib.ListN.{length, drop}
use lib.Seq.{drop-append_seam}
use Rattle.bits.specs.Bits.{bits_at}
use Rattle.bits.specs.Room.{end_of, Holds}
use Rattle.bits.proofs.Stream.{bits_at-add}

-- bits that lie within the bytes and are read there are held
pub holds_read : (l : List ℕ) (p : ℕ) (bs : List Bool) → p + length bs ≤ end_of (length l) → bits_at l p (length bs) ≡ bs → Holds l p bs
holds_read l p bs within same =
    let n = length bs in
    let m = end_of (length l) - (p + n) in
    let z : end_of (length l) - p ≡ n + m = omega arith in
    (bits_at l (p + n) m, ap (bits_at l p) z ∙ bits_at-add l p n m ∙ ap (λ (x : List Bool). x ++ bits_at l (p + n) m) same)

-- bits further on
drop-bits_at : (l : List ℕ) (k p n : ℕ) → drop k (bits_at l p n) ≡ bits_at l (p + k) (n - k)
unfolding bits_at
drop-bits_at l zero p n = let z : n - 0 ≡ n = omega arith in rw (add-zero p, z) refl
drop-bits_at l (suc k) p zero = let z : 0 - suc k ≡ 0 = omega arith in rw z refl
drop-bits_at l (suc k) p (suc n) =
    let z : suc n - suc k ≡ n - k = omega arith in
    drop-bits_at l k (suc p) n ∙ (λ i. bits_at l ((suc-add p k ∙ sym (add-suc p k)) i) (sym z i))

-- past the first bits that are held, the others are
pub holds_past : (l : List ℕ) (p : ℕ) (xs ys : List Bool) → Holds l p (xs ++ ys) → Holds l (p + length xs) ys
holds_past l p xs ys h =
    let e = end_of (length l) in (
      h.0,
      (let z : e - (p + length xs) ≡ e - p - length xs = omega arith in ap (bits_at l (p + length xs)) z)
          ∙ sym (drop-bits_at l (length xs) p (e - p))
          ∙ ap (drop (length xs)) (h.1 ∙ append_assoc xs ys h.0)
          ∙ drop-append_seam xs (ys ++ h.0),
    )
