-- Frames of the same number are alike.
use mathlib.Core.Path.{◌≡◌, refl, sym, ap, ◌∙◌}
use mathlib.Core.Bool.{Bool, true, false}
use mathlib.Core.List.{List, [], ◌∷◌, ◌++◌}
use Prim.Native.Nat.{ℕ, zero, suc, ◌+◌, ◌*◌, ◌/◌, ◌^◌, ◌≤◌, ◌<◌}
use native.Mathlib.Omega.{arith}
use lib.IntN.{ℤ, pos, negsuc}
use lib.ListN.{length, take, drop, get_or, length-append}
use lib.Seq.{take_at, drop_at}
use Rattle.bits.specs.Bits.{bit_n, bits_of, num_of}
use Rattle.bits.proofs.Numbers.{bits_num}
use Rattle.sbr_grid.specs.declared.FrameClass.{FrameClass}
use Rattle.sbr_grid.specs.declared.SbrGrid.{SbrGrid}
use Rattle.sbr_grid.specs.declared.TimeGrid.{TimeGrid}
use Rattle.sbr_grid.specs.Grid.{class_code, class_of}
use Rattle.sbr_grid.proofs.Laws.{class_of_code, code_lt}
use Rattle.run_lines.specs.Number.{with_digit, with_digits, mark_number, digits_of, frame_number, Digits, NumberTells}

-- ---- digits

-- what a number with n digits yet to come stays below
cap : ℕ → ℕ
cap zero = 2 ^ 64
cap (suc n) = cap n / 32

cap_top : (n : ℕ) → cap n ≤ 2 ^ 64
unfolding cap
cap_top zero = omega arith
cap_top (suc n) = omega (arith, cap_top n)

digit_same : (a b d e : ℕ) → a < 2 ^ 59 → b < 2 ^ 59 → d < 32 → e < 32 → with_digit a d ≡ with_digit b e → (a ≡ b) × (d ≡ e)
digit_same a b d e i j k l h = (omega arith, omega arith)

digit_below : (a d c : ℕ) → a < c / 32 → with_digit a d < c
digit_below a d c h = omega arith

digits_same : (ds es : List ℕ) (a b : ℕ) → a < cap (length ds) → b < cap (length ds) → length ds ≡ length es → ((k : ℕ) → get_or ds k 0 < 32)
    → ((k : ℕ) → get_or es k 0 < 32) → with_digits a ds ≡ with_digits b es → (a ≡ b) × (ds ≡ es)
unfolding cap
digits_same [] [] a b i j l s t h = (h, refl)
digits_same [] (e ∷ es) a b i j l s t h = absurd (omega arith)
digits_same (d ∷ ds) [] a b i j l s t h = absurd (omega arith)
digits_same (d ∷ ds) (e ∷ es) a b i j l s t h =
    let n = length ds in
    let r = digits_same ds es (with_digit a d) (with_digit b e) (digit_below a d (cap n) i) (digit_below b e (cap n) j) (omega arith) (λ k. s (suc k)) (λ k. t (suc k)) h in
    let q = digit_same a b d e (omega (arith, cap_top n)) (omega (arith, cap_top n)) (s 0) (t 0) r.0 in
    (q.0, cc (q.1, r.1))

-- ---- parts

class_same : (c d : FrameClass) → class_code c ≡ class_code d → c ≡ d
class_same c d h = sym (class_of_code c) ∙ ap class_of h ∙ class_of_code d

mark_same : (x y : ℤ) → mark_number x ≡ mark_number y → x ≡ y
mark_same (pos m) (pos n) h = let e : m ≡ n = omega arith in ap pos e
mark_same (pos m) (negsuc n) h = absurd (omega arith)
mark_same (negsuc m) (pos n) h = absurd (omega arith)
mark_same (negsuc m) (negsuc n) h = let e : m ≡ n = omega arith in ap negsuc e

flags-same : (xs ys : List Bool) → length xs ≡ 5 → length ys ≡ 5 → num_of xs ≡ num_of ys → xs ≡ ys
flags-same xs ys i j h = sym (rw i at (bits_num xs)) ∙ ap (bits_of 5) h ∙ rw j at (bits_num ys)

-- the front of two lists
front_same : (n : ℕ) (xs ys us vs : List ℕ) → length xs ≡ n → length ys ≡ n → xs ++ us ≡ ys ++ vs → (xs ≡ ys) × (us ≡ vs)
front_same n xs ys us vs i j h =
    (sym (take_at xs us n i) ∙ ap (take n) h ∙ take_at ys vs n j, sym (drop_at xs us n i) ∙ ap (drop n) h ∙ drop_at ys vs n j)

-- ---- frames

length_digits : (g : SbrGrid) (t : TimeGrid) → Digits g t → length (digits_of g t) ≡ 12
length_digits g t d =
    omega (arith, length-append t.t_e (t.t_q ++ (mark_number t.l_a ∷ [])), length-append t.t_q (mark_number t.l_a ∷ []), d.borders, d.noise)

-- the flag and the class in three bits
kind_same : (a b : Bool) (c d : ℕ) → c < 4 → d < 4 → 4 * bit_n a + c ≡ 4 * bit_n b + d → (a ≡ b) × (c ≡ d)
kind_same true true c d i j h = (refl, omega arith)
kind_same true false c d i j h = absurd (omega arith)
kind_same false true c d i j h = absurd (omega arith)
kind_same false false c d i j h = (refl, omega arith)

-- a flag is at most 1
flag_few : (a : Bool) → bit_n a ≤ 1
flag_few true = omega arith
flag_few false = omega arith

pub number_tells : NumberTells
unfolding frame_number cap
number_tells g h t u x y a b e =
    let few : cap (length (digits_of g t)) ≡ 16 = ap cap (length_digits g t a) in
    let r = digits_same (digits_of g t) (digits_of h u) (4 * bit_n x + class_code g.frame_class) (4 * bit_n y + class_code h.frame_class)
    (omega (arith, few, code_lt g.frame_class, flag_few x)) (omega (arith, few, code_lt h.frame_class, flag_few y)) (omega (arith, length_digits g t a, length_digits h u b)) a.small b.small e in
    let kind = kind_same x y _ _ (code_lt g.frame_class) (code_lt h.frame_class) r.0 in
    let behind : t.t_e ++ (t.t_q ++ (mark_number t.l_a ∷ [])) ≡ u.t_e ++ (u.t_q ++ (mark_number u.l_a ∷ [])) = cc r.1 in
    let borders = front_same 6 t.t_e u.t_e _ _ a.borders b.borders behind in
    let noise = front_same 3 t.t_q u.t_q _ _ a.noise b.noise borders.1 in (
      record {
        classes = class_same _ _ kind.1;
        flags = flags-same _ _ a.flags b.flags (cc r.1);
        counts = cc r.1;
        borders = borders.0;
        noise = noise.0;
        marks = mark_same _ _ (cc noise.1);
      },
      kind.0,
    )
