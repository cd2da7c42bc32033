-- What sbr_grid() and each class make of the low bits of a number, way by way as the program goes.
use Rattle.std.specs.Prelude.{Ok, Err}
use mathlib.Core.Path.{◌≡◌, refl, ap, ◌∙◌}
use mathlib.Core.Bool.{Bool, true, false, cond}
use mathlib.Core.List.{List, [], reverse}
use Prim.Native.Nat.{ℕ, zero, suc, ◌+◌, ◌*◌, ◌/◌, ◌%◌, ◌^◌, ◌≤◌, ◌<◌}
use native.Mathlib.Nat.{add-zero, pow-suc}
use native.Mathlib.Omega.{arith}
use borrow.Author.Tests.{le-leb, lt-leb}
use lib.Dec.{eqb}
use lib.ListN.{length, get_or, replicate, length-replicate, length-reverse}
use lib.Pow.{shr-shr, pow_pos}
use Rattle.bits.specs.Bits.{bit_at, bits_of}
use Rattle.bits.proofs.Numbers.{length-bits_of, bit_high}
use Rattle.sbr_grid.specs.declared.FrameClass.{FrameClass}
use Rattle.sbr_grid.specs.declared.FrameClass.TheVariants.{FixFix, FixVar, VarFix, VarVar}
use Rattle.sbr_grid.specs.declared.Refusal.TheVariants.{BitsEnd, EnvelopeCount}
use Rattle.sbr_grid.specs.Refusals.{Outcome, result_map}
use Rattle.sbr_grid.specs.Grid.{by_class, class_of, ptr_bits, noise_of, first}
use Rattle.sbr_parse.specs.Syntax.{Reader, ◌followed_by◌, giving, flags, field, checked_count, received, ordered, behind_counts, fix_fix, fix_var, var_fix, var_var, sbr_grid}
use Rattle.sbr_parse.specs.Parse.{parsed, twos_of}
use Rattle.sbr_parse.specs.declared.Parsed.{Parsed}
use Rattle.sbr_parse.proofs.ParseReads.{Short, Takes, then_reads, then_short, takes_then, takes_map, takes_field, takes_flags, takes_lengths}

-- two numbers of two bits each, then what is read behind them
pub pair_reads : {A : Type 0} (f : ℕ → ℕ → Reader A) (n m v : ℕ) → n ≡ 4 + m
    → (field 2 followed_by λ a. field 2 followed_by f a) (bits_of n v) ≡ f (v / 2 ^ (m + 2) % 4) (v / 2 ^ m % 4) (bits_of m v)
pair_reads f n m v e =
    then_reads (λ a. field 2 followed_by f a) (takes_field 2) n (m + 2) v (omega arith)
    ∙ then_reads (f (v / 2 ^ (m + 2) % 4)) (takes_field 2) (m + 2) m v (omega arith)

-- too few bits for the two numbers and k bits behind them
pub pair_short : {A : Type 0} (f : ℕ → ℕ → Reader A) (k : ℕ) → ((a b : ℕ) → Short k (f a b)) → Short (2 + (2 + k)) (field 2 followed_by λ a. field 2 followed_by f a)
pair_short f k s = then_short (λ a. field 2 followed_by f a) (2 + k) (takes_field 2) (λ a. then_short (f a) k (takes_field 2) (s a))

-- too few bits for the two numbers, whatever is read behind them
pub pair_end : {A : Type 0} (f : ℕ → ℕ → Reader A) → Short 4 (field 2 followed_by λ a. field 2 followed_by f a)
pair_end f = pair_short f 0 (λ a b n v h. absurd (omega arith))

-- ---- what stands behind the counts

-- lengths, pointer and resolutions are there exactly where the sum of their widths is
pub behind_takes : (c : FrameClass) (b0 b1 j k : ℕ) → let n = j + k + 1 in let p = ptr_bits n in
    Takes (2 * j + (2 * k + (p + n)))
    (λ v. received c (ordered c (bits_of n v)) b0 b1 (twos_of j (v / 2 ^ (2 * k + (p + n)))) (twos_of k (v / 2 ^ (p + n))) (v / 2 ^ n % 2 ^ p))
    (behind_counts c b0 b1 j k)
unfolding behind_counts
behind_takes c b0 b1 j k =
    let n = j + k + 1 in
    takes_then _ (takes_lengths j) (λ rel0. takes_then _ (takes_lengths k) (λ rel1. takes_then _ (takes_field (ptr_bits n))
    (λ p. takes_map (λ res. received c (ordered c res) b0 b1 rel0 rel1 p) (takes_flags n))))

-- putting resolutions in order keeps their number
pub length-ordered : (b : Bool) (res : List Bool) → length (cond b (reverse res) res) ≡ length res
length-ordered true res = length-reverse res
length-ordered false res = refl

-- k digits are k numbers
length-twos : (k v : ℕ) → length (twos_of k v) ≡ k
unfolding twos_of
length-twos zero v = refl
length-twos (suc k) v = ap suc (length-twos k v)

-- too few bits for all of them
pub behind_short : (c : FrameClass) (b0 b1 j k w v : ℕ) → w < 2 * j + 2 * k + ptr_bits (j + k + 1) + (j + k + 1)
    → behind_counts c b0 b1 j k (bits_of w v) ≡ Err BitsEnd
behind_short c b0 b1 j k w v h = (behind_takes c b0 b1 j k).short w v (omega arith)

-- what is handed out for them, where q0, q1, q2 and m bits are left behind the leading lengths, the trailing ones, the pointer and the resolutions
pub behind_given : (c : FrameClass) (b0 b1 j k w q0 q1 q2 m v : ℕ) → let n = j + k + 1 in
    by_class c true false false false ≡ false → w ≡ 2 * j + q0 → q0 ≡ 2 * k + q1 → q1 ≡ ptr_bits n + q2 → q2 ≡ n + m
    → ◌≡◌ {A = Outcome Parsed}
    (Ok (record {
      grid = record {
        frame_class = c;
        num_env = n;
        num_noise = noise_of n;
        freq_res = first false 5 (ordered c (bits_of n (v / 2 ^ m)));
        var_bord_0 = b0;
        var_bord_1 = b1;
        rel_bord_0 = first 0 4 (twos_of j (v / 2 ^ q0));
        num_rel_0 = j;
        rel_bord_1 = first 0 4 (twos_of k (v / 2 ^ q1));
        num_rel_1 = k;
        pointer = v / 2 ^ q2 % 2 ^ ptr_bits n;
        amp_res_override = false;
      };
      left = m;
    }))
    (result_map parsed (behind_counts c b0 b1 j k (bits_of w v)))
behind_given c b0 b1 j k w q0 q1 q2 m v f d0 d1 d2 d =
    let n = j + k + 1 in
    let p = ptr_bits n in
    let e0 : m + (2 * k + (p + n)) ≡ q0 = omega arith in
    let e1 : m + (p + n) ≡ q1 = omega arith in
    let e2 : m + n ≡ q2 = omega arith in
    rw ((behind_takes c b0 b1 j k).reads w m v (omega arith), shr-shr v m (2 * k + (p + n)), shr-shr v m (p + n), shr-shr v m n, e0, e1, e2)
    (rw (length-ordered (by_class c false true false false) (bits_of n (v / 2 ^ m)), length-bits_of n (v / 2 ^ m), length-bits_of m v, length-twos j (v / 2 ^ q0), length-twos k (v / 2 ^ q1), f))

-- ---- FixVar and VarFix

-- the two numbers of two bits in four bits
pub record Halves (x m v : ℕ) : Type 0 where
  pub first : x / 4 ≡ v / 2 ^ (m + 2) % 4
  pub second : x % 4 ≡ v / 2 ^ m % 4

pub halves : (x m v : ℕ) → x ≡ v / 2 ^ m % 2 ^ 4 → Halves x m v
halves x m v e = let s = shr-shr v m 2 in record { first = omega (arith, s); second = omega arith }

-- both need four bits for the border byte and the count
pub side_short : (c : FrameClass) → by_class c false true true false ≡ true → Short 4 (by_class c fix_fix fix_var var_fix var_var)
unfolding fix_var var_fix
side_short FixFix h = let z : ◌≡◌ {A = Bool} false true = h in cc
side_short FixVar h = pair_end _
side_short VarFix h = pair_end _
side_short VarVar h = let z : ◌≡◌ {A = Bool} false true = h in cc

-- with them each goes on behind the counts
pub fixvar_reads : (n m v x : ℕ) → n ≡ 4 + m → x ≡ v / 2 ^ m % 2 ^ 4 → fix_var (bits_of n v) ≡ behind_counts FixVar 0 (x / 4) 0 (x % 4) (bits_of m v)
unfolding fix_var
fixvar_reads n m v x d e = let h = halves x m v e in pair_reads _ n m v d ∙ rw (h.first, h.second)

pub varfix_reads : (n m v x : ℕ) → n ≡ 4 + m → x ≡ v / 2 ^ m % 2 ^ 4 → var_fix (bits_of n v) ≡ behind_counts VarFix (x / 4) 0 (x % 4) 0 (bits_of m v)
unfolding var_fix
varfix_reads n m v x d e = let h = halves x m v e in pair_reads _ n m v d ∙ rw (h.first, h.second)

-- a class with one side that is not FixVar is VarFix
pub is_varfix : (c : FrameClass) → by_class c false true true false ≡ true → (c ≡ FixVar → ⊥) → c ≡ VarFix
is_varfix FixFix h k = let z : ◌≡◌ {A = Bool} false true = h in cc
is_varfix FixVar h k = absurd (k refl)
is_varfix VarFix h k = refl
is_varfix VarVar h k = let z : ◌≡◌ {A = Bool} false true = h in cc

-- ---- VarVar

-- VarVar needs eight bits for its border bytes and its counts
pub var-var_short : Short 8 var_var
unfolding var_var
var-var_short = pair_short _ 4 (λ a b. pair_end _)

-- counts that make more than five envelopes are refused with 8
pub var-var_counts : (n q m v : ℕ) → n ≡ 4 + q → q ≡ 4 + m → let j = v / 2 ^ (m + 2) % 4 in let k = v / 2 ^ m % 4 in 5 < j + k + 1
    → var_var (bits_of n v) ≡ Err EnvelopeCount
unfolding var_var checked_count ◌followed_by◌
var-var_counts n q m v d e h = pair_reads _ n q v d ∙ pair_reads _ q m v e ∙ rw (lt-leb (v / 2 ^ (m + 2) % 4 + v / 2 ^ m % 4 + 1) 5 h)

-- with any others it goes on behind them
pub var-var_reads : (n q m v : ℕ) → n ≡ 4 + q → q ≡ 4 + m → let j = v / 2 ^ (m + 2) % 4 in let k = v / 2 ^ m % 4 in j + k + 1 ≤ 5
    → var_var (bits_of n v) ≡ behind_counts VarVar (v / 2 ^ (q + 2) % 4) (v / 2 ^ q % 4) j k (bits_of m v)
unfolding var_var checked_count ◌followed_by◌
var-var_reads n q m v d e h = pair_reads _ n q v d ∙ pair_reads _ q m v e ∙ rw (le-leb (v / 2 ^ (m + 2) % 4 + v / 2 ^ m % 4 + 1) 5 h)

-- the four numbers of two bits in eight bits
pub record Quarters (l : List ℕ) (q m v : ℕ) : Type 0 where
  pub zeroth : get_or l 0 0 ≡ v / 2 ^ (q + 2) % 4
  pub first : get_or l 1 0 ≡ v / 2 ^ q % 4
  pub second : get_or l 2 0 ≡ v / 2 ^ (m + 2) % 4
  pub third : get_or l 3 0 ≡ v / 2 ^ m % 4

quarters : (l : List ℕ) (m v : ℕ) → l ≡ twos_of 4 (v / 2 ^ m % 2 ^ 8) → Quarters l (4 + m) m v
unfolding twos_of
quarters l m v e =
    let s0 = shr-shr v m 6 in
    let s1 = shr-shr v m 4 in
    let s2 = shr-shr v m 2 in
    let d0 : 4 + m + 2 ≡ m + 6 = omega arith in
    let d1 : 4 + m ≡ m + 4 = omega arith in
    record {
      zeroth = rw (e, d0, ← s0) (omega arith);
      first = rw (e, d1, ← s1) (omega arith);
      second = rw (e, ← s2) (omega arith);
      third = rw e (omega arith);
    }

-- counts that make more than five envelopes are refused with 8
pub varvar_over : (n m v : ℕ) (l : List ℕ) → n ≡ 8 + m → l ≡ twos_of 4 (v / 2 ^ m % 2 ^ 8) → 5 < get_or l 2 0 + get_or l 3 0 + 1
    → var_var (bits_of n v) ≡ Err EnvelopeCount
varvar_over n m v l d e h =
    let q = quarters l m v e in
    var-var_counts n (4 + m) m v (omega arith) refl (omega (arith, q.second, q.third))

-- any others are the counts, and what stands before them the border bytes
pub varvar_reads : (n m v : ℕ) (l : List ℕ) → n ≡ 8 + m → l ≡ twos_of 4 (v / 2 ^ m % 2 ^ 8) → get_or l 2 0 + get_or l 3 0 + 1 ≤ 5
    → var_var (bits_of n v) ≡ behind_counts VarVar (get_or l 0 0) (get_or l 1 0) (get_or l 2 0) (get_or l 3 0) (bits_of m v)
varvar_reads n m v l d e h =
    let q = quarters l m v e in
    var-var_reads n (4 + m) m v (omega arith) refl (omega (arith, q.second, q.third)) ∙ rw (q.zeroth, q.first, q.second, q.third)

-- ---- FixFix

-- a count that is a power of 2 is one that a frame has where its exponent is at most 2
count_fits : (t : ℕ) → 2 ^ t ≤ 5 → t ≤ 2
count_fits zero h = omega arith
count_fits (suc zero) h = omega arith
count_fits (suc (suc zero)) h = omega arith
count_fits (suc (suc (suc t))) h = absurd (omega (arith, pow-suc 2 (suc (suc t)), pow-suc 2 (suc t), pow-suc 2 t, pow_pos t))

-- and is none where it is above 2
count_over : (t : ℕ) → 5 < 2 ^ t → 2 < t
count_over zero h = absurd (omega arith)
count_over (suc zero) h = absurd (omega arith)
count_over (suc (suc zero)) h = absurd (omega arith)
count_over (suc (suc (suc t))) h = omega arith

-- FixFix needs two bits for its count
pub fix-fix_short : Short 2 fix_fix
unfolding fix_fix
fix-fix_short = then_short _ 0 (takes_field 2) (λ a n v h. absurd (omega arith))

-- a count above five is refused with 8
pub fix-fix_count : (n m v : ℕ) → n ≡ 2 + m → 5 < 2 ^ (v / 2 ^ m % 4) → fix_fix (bits_of n v) ≡ Err EnvelopeCount
unfolding fix_fix checked_count ◌followed_by◌
fix-fix_count n m v e h = then_reads _ (takes_field 2) n m v e ∙ rw (lt-leb (v / 2 ^ m % 4) 2 (count_over (v / 2 ^ m % 4) h))

-- the resolution of n envelopes
fix-fix_takes : (n : ℕ) → Takes 1 (λ v. received FixFix (replicate n (bit_at v 0)) 0 0 [] [] 0) (flags 1 followed_by λ res. giving (received FixFix (replicate n (get_or res 0 false)) 0 0 [] [] 0))
unfolding bits_of
fix-fix_takes n = takes_map (λ res. received FixFix (replicate n (get_or res 0 false)) 0 0 [] [] 0) (takes_flags 1)

-- behind a count that a frame has
fix-fix_counted : (n m v : ℕ) → n ≡ 2 + m → let t = v / 2 ^ m % 4 in 2 ^ t ≤ 5
    → fix_fix (bits_of n v) ≡ (flags 1 followed_by λ res. giving (received FixFix (replicate (2 ^ t) (get_or res 0 false)) 0 0 [] [] 0)) (bits_of m v)
unfolding fix_fix checked_count ◌followed_by◌
fix-fix_counted n m v e h = then_reads _ (takes_field 2) n m v e ∙ rw (le-leb (v / 2 ^ m % 4) 2 (count_fits (v / 2 ^ m % 4) h))

-- a count that a frame has, and no bit behind it, is refused with 7
pub fix-fix_end : (n m v : ℕ) → n ≡ 2 + m → m < 1 → 2 ^ (v / 2 ^ m % 4) ≤ 5 → fix_fix (bits_of n v) ≡ Err BitsEnd
fix-fix_end n m v e l h = fix-fix_counted n m v e h ∙ (fix-fix_takes (2 ^ (v / 2 ^ m % 4))).short m v l

-- with a bit behind it that bit is the resolution of every envelope
pub fix-fix_reads : (n q m v : ℕ) → n ≡ 2 + q → q ≡ 1 + m → 2 ^ (v / 2 ^ q % 4) ≤ 5
    → fix_fix (bits_of n v) ≡ Ok (received FixFix (replicate (2 ^ (v / 2 ^ q % 4)) (bit_at v m)) 0 0 [] [] 0, bits_of m v)
fix-fix_reads n q m v d e h =
    fix-fix_counted n q v d h ∙ (fix-fix_takes (2 ^ (v / 2 ^ q % 4))).reads q m v e ∙ rw (bit_high v m 0, add-zero)

-- what is handed out for them, where q and m bits are left behind the count and the resolution
pub fix-fix_given : (w q m v : ℕ) → w ≡ 2 + q → q ≡ 1 + m → let n = 2 ^ (v / 2 ^ q % 4) in n ≤ 5
    → ◌≡◌ {A = Outcome Parsed}
    (Ok (record {
      grid = record {
        frame_class = FixFix;
        num_env = n;
        num_noise = noise_of n;
        freq_res = first false 5 (replicate n (bit_at v m));
        var_bord_0 = 0;
        var_bord_1 = 0;
        rel_bord_0 = first 0 4 [];
        num_rel_0 = 0;
        rel_bord_1 = first 0 4 [];
        num_rel_1 = 0;
        pointer = 0;
        amp_res_override = eqb n 1;
      };
      left = m;
    }))
    (result_map parsed (fix_fix (bits_of w v)))
fix-fix_given w q m v d e h = rw (fix-fix_reads w q m v d e h, length-replicate (2 ^ (v / 2 ^ q % 4)) (bit_at v m), length-bits_of m v)

-- ---- sbr_grid()

-- sbr_grid() needs two bits for the class
pub grid_short : Short 2 sbr_grid
unfolding sbr_grid
grid_short = then_short _ 0 (takes_field 2) (λ a n v h. absurd (omega arith))

-- with them it goes on as the class says
pub grid_reads : (n m v : ℕ) → n ≡ 2 + m → sbr_grid (bits_of n v) ≡ by_class (class_of (v / 2 ^ m % 4)) fix_fix fix_var var_fix var_var (bits_of m v)
unfolding sbr_grid
grid_reads n m v e = then_reads (λ c. by_class (class_of c) fix_fix fix_var var_fix var_var) (takes_field 2) n m v e
