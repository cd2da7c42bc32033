-- What readers that take a set number of bits make of the low bits of a number.
use Rattle.std.specs.Prelude.{Ok, Err}
use mathlib.Core.Path.{◌≡◌, refl, ap, ◌∙◌}
use mathlib.Core.Bool.{Bool, cond}
use mathlib.Core.List.{List, [], ◌∷◌}
use Prim.Native.Nat.{ℕ, zero, suc, ◌+◌, ◌-◌, ◌*◌, ◌/◌, ◌%◌, ◌^◌, ◌<◌}
use native.Mathlib.Nat.{zero-add, add_comm}
use native.Mathlib.Decide.{dec_lt}
use native.Mathlib.Omega.{arith}
use borrow.Author.Tests.{le-leb, lt-leb}
use lib.Dec.{leb}
use lib.ListN.{length, take, drop}
use lib.Pow.{shr-shr}
use lib.Seq.{take_at, drop_at}
use Rattle.bits.specs.Bits.{bits_of, num_of}
use Rattle.bits.proofs.Numbers.{length-bits_of, bits_of_split, num_from_lem}
use Rattle.sbr_grid.specs.declared.Refusal.TheVariants.{BitsEnd}
use Rattle.sbr_parse.specs.Syntax.{Reader, onward, ◌followed_by◌, giving, flags, field, rel_bords}
use Rattle.sbr_parse.specs.Parse.{twos_of}

-- fewer than w bits are refused with 7
abbrev pub Short : {A : Type 0} → ℕ → Reader A → Type 0
Short w r = (n v : ℕ) → n < w → r (bits_of n v) ≡ Err BitsEnd

-- r takes w bits and gives f of the number that ends in them; fewer bits are refused
pub record Takes {A : Type 0} (w : ℕ) (f : ℕ → A) (r : Reader A) : Type 0 where
  pub reads : (n m v : ℕ) → n ≡ w + m → r (bits_of n v) ≡ Ok (f (v / 2 ^ m), bits_of m v)
  pub short : Short w r

-- a value that is there takes no bits
pub takes_pure : {A : Type 0} (a : A) → Takes 0 (λ v. a) (giving a)
takes_pure a = record { reads = λ n m v e. rw (e, zero-add); short = λ n v h. absurd (omega arith) }

-- one reader after another where the first takes w bits
pub then_reads : {A B : Type 0} {w : ℕ} {f : ℕ → A} {r : Reader A} (g : A → Reader B) → Takes w f r
    → (n m v : ℕ) → n ≡ w + m → (r followed_by g) (bits_of n v) ≡ g (f (v / 2 ^ m)) (bits_of m v)
unfolding ◌followed_by◌
then_reads g t n m v e = ap (onward g) (t.reads n m v e)

-- too few bits for the first reader, or for the second after it
pub then_short : {A B : Type 0} {w : ℕ} {f : ℕ → A} {r : Reader A} (g : A → Reader B) (k : ℕ) → Takes w f r → ((a : A) → Short k (g a)) → Short (w + k) (r followed_by g)
unfolding ◌followed_by◌
then_short {w = w} {r = r} g k t s n v h = go (dec_lt n w)
  where
    go : Dec (n < w) → (r followed_by g) (bits_of n v) ≡ Err BitsEnd
    go (yes l) = ap (onward g) (t.short n v l)
    go (no l) = then_reads g t n (n - w) v (omega arith) ∙ s _ (n - w) v (omega arith)

-- both take the sum of their widths
pub takes_then : {A B : Type 0} {w k : ℕ} {f : ℕ → A} {h : A → ℕ → B} {r : Reader A} (g : A → Reader B) → Takes w f r → ((a : A) → Takes k (h a) (g a))
    → Takes (w + k) (λ v. h (f (v / 2 ^ k)) v) (r followed_by g)
takes_then {w = w} {k} {f} {h} {r} g t s = record {
  reads = λ n m v e. then_reads g t n (k + m) v (omega arith) ∙ (s _).reads (k + m) m v refl ∙ rw (shr-shr v m k, add_comm m k);
  short = then_short g k t (λ a. (s a).short);
}

-- w bits are taken, and h is made of them
takes_bits : {A : Type 0} (w : ℕ) (h : List Bool → A) → Takes w (λ v. h (bits_of w v)) (λ bs. cond (leb w (length bs)) (Ok (h (take w bs), drop w bs)) (Err BitsEnd))
takes_bits w h = record {
  reads = λ n m v e. rw (e, length-bits_of (w + m) v, le-leb w (w + m) (omega arith), bits_of_split w m v, take_at (bits_of w (v / 2 ^ m)) (bits_of m v) w (length-bits_of w (v / 2 ^ m)), drop_at (bits_of w (v / 2 ^ m)) (bits_of m v) w (length-bits_of w (v / 2 ^ m)));
  short = λ n v l. rw (length-bits_of n v, lt-leb w n l);
}

-- flags take a bit each
pub takes_flags : (n : ℕ) → Takes n (bits_of n) (flags n)
unfolding flags
takes_flags n = takes_bits n (λ bs. bs)

-- the number of w low bits
num_low : (w v : ℕ) → num_of (bits_of w v) ≡ v % 2 ^ w
num_low w v = num_from_lem 0 w v ∙ omega arith

-- a field takes its width, and is the number of those bits
pub takes_field : (w : ℕ) → Takes w (λ v. v % 2 ^ w) (field w)
unfolding field
takes_field w = simp (num_low w) at (takes_bits w num_of)

-- what is made of the value that a reader gives
pub takes_map : {A B : Type 0} {w : ℕ} {f : ℕ → A} {r : Reader A} (h : A → B) → Takes w f r → Takes w (λ v. h (f v)) (r followed_by λ a. giving (h a))
unfolding ◌followed_by◌
takes_map h t = record {
  reads = λ n m v e. then_reads (λ a. giving (h a)) t n m v e;
  short = λ n v l. ap (onward (λ a. giving (h a))) (t.short n v l);
}

-- k stored lengths are the k digits of one field of twice as many bits
pub takes_lengths : (k : ℕ) → Takes (2 * k) (twos_of k) (rel_bords k)
unfolding rel_bords twos_of
takes_lengths zero = takes_pure []
takes_lengths (suc k) =
    let e : 2 * suc k ≡ 2 + 2 * k = omega arith in
    rw e (takes_then (λ r. rel_bords k followed_by λ rs. giving (r ∷ rs)) (takes_field 2) (λ r. takes_map (λ rs. r ∷ rs) (takes_lengths k)))
