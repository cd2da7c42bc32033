-- Laws of the sums and of the arrays of specs/Energy.
use Prim.Native.Nat.{ℕ, zero, suc, ◌+◌, ◌-◌, ◌*◌, ◌≤◌, ◌<◌}
use mathlib.Core.Path.{◌≡◌, refl, sym, ◌∙◌}
use mathlib.Core.Logic.{inl, inr}
use mathlib.Core.List.{List, ◌∷◌, ◌++◌, append_assoc}
use native.Mathlib.Decide.{ℕ_discrete, dec_lt}
use native.Mathlib.Omega.{arith}
use native.Mathlib.Nat.{not-suc-le-zero, le_of_suc-le-suc, eq-or-lt_of_le}
use native.Mathlib.Numerals.{add-one}
use lib.ListN.{length, set, get_or, replicate, length-append, length-set, length-replicate, get_or-replicate}
use lib.Seq.{get_or_at, get_or-set_same, get_or-set_other, get_or-append-add, ext_get_or}
use lib.Ieee as Ieee
use lib.Ieee.{Float, nan, binary64}
use Rattle.sbr_qmf.specs.Qmf.{SampleAt}
use Rattle.sbr_floats.specs.Floats.{total, zero64}
use Rattle.sbr_energy.specs.declared.Start.{Start}
use Rattle.sbr_energy.specs.Energy.{sum_from, slot_start, next_start, slot_energy, list_of, slot_energies}

-- nothing is summed yet
pub total_none : (f : ℕ → Float) → zero64 ≡ total f 0
unfolding total
total_none f = refl

-- one number more
pub total_more : (f : ℕ → Float) (n : ℕ) (sum v : Float) → sum ≡ total f n → v ≡ f n → Ieee.add binary64 sum v ≡ total f (n + 1)
unfolding total
total_more f n sum v p q = rw (add-one n, p, q)

-- a slot's energy out of the sums of its two columns, from the places p and q on
pub slot_is : (x : SampleAt) (kl kh s : ℕ) (p q : Start) (a b : Float) → p ≡ slot_start s kl → q ≡ next_start p → a ≡ sum_from x (kh - kl) p → b ≡ sum_from x (kh - kl) q
    → Ieee.add binary64 (Ieee.add binary64 zero64 a) b ≡ slot_energy x kl kh s
slot_is x kl kh s p q a b d e f g =
    let h : 2 * s + 2 + 1 ≡ 2 * s + 3 = omega arith in
    rw (f, g, e, d, h)

-- a list of n numbers is n long
pub list_length : (f : ℕ → Float) (n : ℕ) → length (list_of f n) ≡ n
unfolding list_of
list_length f zero = refl
list_length f (suc n) = rw (length-append, list_length f n) (add-one n)

-- the number at a place of a list, with anything behind it
pub list_at : (f : ℕ → Float) (n i : ℕ) (rest : List Float) (d : Float) → i < n → get_or (list_of f n ++ rest) i d ≡ f i
unfolding list_of
list_at f zero i rest d h = absurd (not-suc-le-zero h)
list_at f (suc n) i rest d h =
    let here : get_or (list_of f n ++ (f n ∷ rest)) i d ≡ f i = elim (eq-or-lt_of_le (le_of_suc-le-suc h)) [
      | inl e ↦ rw e (get_or_at (list_of f n) (f n) rest d n (list_length f n))
      | inr l ↦ list_at f n i (f n ∷ rest) d l
    ] in
    rw append_assoc here

-- ---- an array whose quarters are filled side by side

module _ (f : ℕ → Float) where
  -- a place that holds its number holds it after another, or the same, was put
  kept : (t : List Float) (i j : ℕ) (v : Float) → i < length t → v ≡ f i → get_or t j nan ≡ f j → get_or (set t i v) j nan ≡ f j
  kept t i j v h e g = elim (ℕ_discrete j i) [
    | yes p ↦ rw (p, get_or-set_same t i v nan h) e
    | no p ↦ get_or-set_other t i j v nan p ∙ g
  ]

  -- after four numbers were put: their places hold them, places that held theirs still do, the others are as they were
  pub record Put (t u : List Float) (a b c d : ℕ) : Type 0 where
    pub size : length u ≡ length t
    pub at_a : get_or u a nan ≡ f a
    pub at_b : get_or u b nan ≡ f b
    pub at_c : get_or u c nan ≡ f c
    pub at-d : get_or u d nan ≡ f d
    pub still : (j : ℕ) → get_or t j nan ≡ f j → get_or u j nan ≡ f j
    pub other : (j : ℕ) → (j ≡ a → ⊥) → (j ≡ b → ⊥) → (j ≡ c → ⊥) → (j ≡ d → ⊥) → get_or u j nan ≡ get_or t j nan

  pub put_four : (t : List Float) (a b c d : ℕ) (va vb vc vd : Float) → a < length t → b < length t → c < length t → d < length t
      → va ≡ f a → vb ≡ f b → vc ≡ f c → vd ≡ f d → Put t (set (set (set (set t a va) b vb) c vc) d vd) a b c d
  put_four t a b c d va vb vc vd ha hb hc hd ea eb ec ed =
      let t1 = set t a va in
      let t2 = set t1 b vb in
      let t3 = set t2 c vc in
      let l1 : length t1 ≡ length t = length-set t a va in
      let l2 : length t2 ≡ length t = length-set t1 b vb ∙ l1 in
      let l3 : length t3 ≡ length t = length-set t2 c vc ∙ l2 in
      let hb1 : b < length t1 = omega arith in
      let hc2 : c < length t2 = omega arith in
      let hd3 : d < length t3 = omega arith in
      record {
        size = length-set t3 d vd ∙ l3;
        at_a = kept t3 d a vd hd3 ed (kept t2 c a vc hc2 ec (kept t1 b a vb hb1 eb (get_or-set_same t a va nan ha ∙ ea)));
        at_b = kept t3 d b vd hd3 ed (kept t2 c b vc hc2 ec (get_or-set_same t1 b vb nan hb1 ∙ eb));
        at_c = kept t3 d c vd hd3 ed (get_or-set_same t2 c vc nan hc2 ∙ ec);
        at-d = get_or-set_same t3 d vd nan hd3 ∙ ed;
        still = λ j g. kept t3 d j vd hd3 ed (kept t2 c j vc hc2 ec (kept t1 b j vb hb1 eb (kept t a j va ha ea g)));
        other = λ j na nb nc nd. get_or-set_other t3 d j vd nan nd ∙ get_or-set_other t2 c j vc nan nc ∙ get_or-set_other t1 b j vb nan nb ∙ get_or-set_other t a j va nan na;
      }

  -- the first s places of each quarter are filled, the last quarter ending at n; past n there is z
  pub record Quarters (z : Float) (n s : ℕ) (t : List Float) : Type 0 where
    pub size : length t ≡ 24
    pub first : (i : ℕ) → i < s → get_or t i nan ≡ f i
    pub second : (i : ℕ) → i < s → get_or t (i + 6) nan ≡ f (i + 6)
    pub third : (i : ℕ) → i < s → get_or t (i + 12) nan ≡ f (i + 12)
    pub last : (i : ℕ) → i < s → get_or t (i + n - 6) nan ≡ f (i + n - 6)
    pub rest : (i : ℕ) → n ≤ i → i < 24 → get_or t i nan ≡ z

  -- a quarter of which one place more is filled
  more : (t u : List Float) (s : ℕ) (at : ℕ → ℕ) → ((i : ℕ) → i < s → get_or t (at i) nan ≡ f (at i)) → ((j : ℕ) → get_or t j nan ≡ f j → get_or u j nan ≡ f j)
      → get_or u (at s) nan ≡ f (at s) → (i : ℕ) → i < s + 1 → get_or u (at i) nan ≡ f (at i)
  more t u s at held still new i h = elim (ℕ_discrete i s) [
    | yes p ↦ rw p new
    | no p ↦ still (at i) (held i (omega arith))
  ]

  pub quarters-more : (z : Float) (n s : ℕ) (t u : List Float) → 18 ≤ n → n ≤ 24 → s < 6 → Quarters z n s t → Put t u s (s + 6) (s + 12) (s + n - 6)
      → Quarters z n (s + 1) u
  quarters-more z n s t u a b h q p = record {
    size = p.size ∙ q.size;
    first = more t u s (λ i. i) q.first p.still p.at_a;
    second = more t u s (λ i. i + 6) q.second p.still p.at_b;
    third = more t u s (λ i. i + 12) q.third p.still p.at_c;
    last = more t u s (λ i. i + n - 6) q.last p.still p.at-d;
    rest = λ i l k. p.other i (λ e. omega arith) (λ e. omega arith) (λ e. omega arith) (λ e. omega arith) ∙ q.rest i l k;
  }

  -- every place up to n is in a quarter
  all : (z : Float) (n : ℕ) (t : List Float) → 18 ≤ n → n ≤ 24 → Quarters z n 6 t → (i : ℕ) → i < n → get_or t i nan ≡ f i
  all z n t a b q i h = elim (dec_lt i 6) [
    | yes l ↦ q.first i l
    | no l ↦ elim (dec_lt i 12) [
      | yes m ↦ let e : i - 6 + 6 ≡ i = omega arith in rw e at (q.second (i - 6) (omega arith))
      | no m ↦ elim (dec_lt i 18) [
        | yes o ↦ let e : i - 12 + 12 ≡ i = omega arith in rw e at (q.third (i - 12) (omega arith))
        | no o ↦ let e : i + 6 - n + n - 6 ≡ i = omega arith in rw e at (q.last (i + 6 - n) (omega arith))
      ]
    ]
  ]

  -- and the array is the list of the numbers with z behind it
  pub quarters-all : (z : Float) (n : ℕ) (t : List Float) → 18 ≤ n → n ≤ 24 → Quarters z n 6 t → t ≡ list_of f n ++ replicate (24 - n) z
  quarters-all z n t a b q =
      ext_get_or nan t _ (q.size ∙ sym (rw (length-append, list_length f n, length-replicate (24 - n) z) (omega arith))) (λ i h. elim (dec_lt i n) [
        | yes l ↦ all z n t a b q i l ∙ sym (list_at f n i (replicate (24 - n) z) nan l)
        | no l ↦
            let k : i < 24 = omega (arith, q.size) in
            let e : length (list_of f n) + (i - n) ≡ i = omega (arith, list_length f n) in
            q.rest i (omega arith) k ∙ sym (rw e at (get_or-append-add (list_of f n) (replicate (24 - n) z) (i - n) nan) ∙ get_or-replicate (24 - n) (i - n) z nan (omega arith))
      ])

-- place s of the array of energies holds the energy of slot s
pub energies_at : (x : SampleAt) (kl kh n s : ℕ) (d : Float) → s < n → get_or (slot_energies x kl kh n) s d ≡ slot_energy x kl kh s
energies_at x kl kh n s d h = list_at (slot_energy x kl kh) n s _ d h
