-- The claims of specs/Named.antt: an answer is the first record that has what is named, 10 says that none has it, and clearing changes nothing.
use Rattle.std.specs.Prelude.{Option, Some, None, Ok, Err}
use Rattle.std.specs.Option.{option_map, ok_or}
use Rattle.std.specs.List.{list_all, find, range_with_len}
use mathlib.Core.Path.{◌≡◌, refl, sym, ap, ◌∙◌}
use mathlib.Core.Bool.{Bool, true, false, false≢true}
use mathlib.Core.List.{List, [], ◌∷◌, map}
use mathlib.Core.Logic.{◌⊎◌, inl, inr, ◌↔◌}
use Prim.Native.Nat.{ℕ, suc, ◌+◌, ◌-◌, ◌≤◌, ◌<◌}
use native.Mathlib.Nat.{eq-or-lt_of_le}
use native.Mathlib.Omega.{arith}
use lib.IntN.{ℤ, pos, negsuc, nat_abs}
use lib.ListN.{length}
use Rattle.sbr_grid.specs.declared.FrameClass.{FrameClass}
use Rattle.sbr_grid.specs.declared.FrameClass.TheVariants.{FixFix, FixVar, VarFix, VarVar}
use Rattle.sbr_grid.specs.declared.Refusal.{Refusal}
use Rattle.sbr_grid.specs.declared.Refusal.TheVariants.{SlotCount, NoGrid}
use Rattle.sbr_grid.specs.Refusals.{Outcome, unless}
use Rattle.sbr_grid.specs.Grid.{by_class, class_code, class_of, Grid, num_env_of}
use Rattle.sbr_grid.specs.Times.{is_slot_count}
use Rattle.sbr_grid.proofs.Laws.{class_of_code}
use Rattle.sbr_grid.proofs.Outcomes.{unless_answered}
use Rattle.sbr_time_grid.proofs.Borders.{length-list_from}
use Rattle.sbr_writer.specs.Syntax.{grid_bits}
use Rattle.sbr_writer.specs.Write.{class_fits}
use Rattle.sbr_writer.proofs.Writable.{one_told, writable_view}
use Rattle.sbr_parse.specs.Inverse.{cleared}
use Rattle.sbr_parse.proofs.Inverse.{reads_back}
use Rattle.sbr_named.specs.Shapes.{leading, shape_at, shaped, pointer_for, candidate, has_borders, named, from_zero_of, named_grid}
use Rattle.sbr_named.specs.Named.{HasNamed, key, Before, NamedIsFirst, NoGridExactly, ClearingKeeps}
use Rattle.sbr_named.proofs.Passed.{fit_fields, fit_class}
use Rattle.sbr_named.proofs.Signed.{pos_back}
use Rattle.sbr_named.proofs.Alike.{clear_bits, clear_fits, clear_time}
use Rattle.sbr_named.proofs.Shapes.{shape_of, shape_class, shape_few, shaped_is, shaped_clear}
use Rattle.sbr_named.proofs.Pointers.{bit_count_lem, class_rise, bits_rise}
use Rattle.sbr_named.proofs.Exists.{HasBorders, passes-has, mark-told, shape_exactly}
use Rattle.sbr_named.proofs.FirstFrom.{FirstIn, first_of}

-- ---- the order

-- numbers in front of keys: the smaller comes before, and of equal ones the rest decides
step : {E : Type 0} (x y : ℕ) (xs ys : List ℕ) → x ≤ y → (x ≡ y → E ⊎ Before xs ys) → E ⊎ Before (x ∷ xs) (y ∷ ys)
step {E} x y xs ys l f = go (eq-or-lt_of_le l)
  where
    behind : x ≡ y → E ⊎ Before xs ys → E ⊎ Before (x ∷ xs) (y ∷ ys)
    behind e (inl z) = inl z
    behind e (inr b) = inr (inr (e, b))

    go : (x ≡ y) ⊎ (x < y) → E ⊎ Before (x ∷ xs) (y ∷ ys)
    go (inl e) = behind e (f e)
    go (inr a) = inr (inl a)

-- keys of four numbers, of which those behind the second are told where the second are the same, and all of which are the same only of E
by_four : {E : Type 0} (a b c d v x y z : ℕ) → a ≤ v → b ≤ x → (b ≡ x → (c ≤ y) × (d ≤ z)) → (b ≡ x → c ≡ y → d ≡ z → E)
    → E ⊎ Before (a ∷ b ∷ c ∷ d ∷ []) (v ∷ x ∷ y ∷ z ∷ [])
by_four a b c d v x y z l m n same =
    step a v (b ∷ c ∷ d ∷ []) (x ∷ y ∷ z ∷ []) l
    (λ _. step b x (c ∷ d ∷ []) (y ∷ z ∷ []) m
    (λ p. step c y (d ∷ []) (z ∷ []) (n p).0
    (λ j. step d z [] [] (n p).1 (λ q. inl (same p j q)))))

-- the leading lengths of shape k in class c with l envelopes are at most those of a record of this class whose shape is not before k
lead_le : (c : FrameClass) (g : Grid) (k l : ℕ) → num_env_of g ≡ l → class_fits c g ≡ true → k ≤ by_class c 0 1 2 (suc (suc (suc (length g.rel_bord_0))))
    → by_class c 0 0 (l - 1) (k - 3) ≤ length g.rel_bord_0
unfolding class_fits
lead_le FixFix g k l n e h = omega arith
lead_le FixVar g k l n e h = omega arith
lead_le VarFix g k l n e h = omega (arith, one_told (length g.rel_bord_0) (num_env_of g) e)
lead_le VarVar g k l n e h = omega arith

module _ (n : ℕ) (bs : List ℕ) (res : List Bool) (mark : ℤ) where
  -- a record that has the borders is, once cleared, the record of its shape with its pointer
  shape-of : (g : Grid) → HasBorders n bs res mark g → shaped n bs res (shape_at (shape_of g)) g.pointer ≡ cleared g
  shape-of g s =
      ap (λ fs. shaped n bs fs (shape_at (shape_of g)) g.pointer) (sym s.flags) ∙ shaped_is n g.pointer g _ s.fits s.time

  -- so two of them with the same class, leading lengths and pointer are one
  one-record : (g h : Grid) → HasBorders n bs res mark g → HasBorders n bs res mark h
      → g.frame_class ≡ h.frame_class → length g.rel_bord_0 ≡ length h.rel_bord_0 → g.pointer ≡ h.pointer → cleared h ≡ cleared g
  one-record g h s t c j p =
      let k : shape_of h ≡ shape_of g = λ i. by_class (sym c i) 0 1 2 (suc (suc (suc (sym j i)))) in
      sym (shape-of h t) ∙ (λ i. shaped n bs res (shape_at (k i)) (sym p i)) ∙ shape-of g s

  -- a candidate is cleared
  candidate-clear : (k : ℕ) → let g = candidate n bs res mark (shape_at k) in cleared g ≡ g
  candidate-clear k = shaped_clear n bs res (pointer_for (class_of k) (length res) mark) k

  -- one that passes comes before every other record whose shape is not before its own
  candidate-first : (k : ℕ) → let g = candidate n bs res mark (shape_at k) in has_borders n bs mark g ≡ true → (h : Grid) → HasBorders n bs res mark h → k ≤ shape_of h
      → (cleared h ≡ g) ⊎ Before (key g) (key h)
  unfolding leading
  candidate-first k y h s l =
      let c = h.frame_class in
      let g = candidate n bs res mark (shape_at k) in
      let has = passes-has n bs mark g y in
      let z : k + (shape_of h - k) ≡ shape_of h = omega arith in
      let code : class_code (class_of k) ≤ class_code c =
      rw (z, shape_class h) at (class_rise class_code (omega arith) (omega arith) (omega arith) k (shape_of h - k))
      in
      let same : class_code (class_of k) ≡ class_code c → class_of k ≡ c = λ p. sym (class_of_code (class_of k)) ∙ ap class_of p ∙ class_of_code c in
      let bits : length (grid_bits g) ≤ length (grid_bits h) =
      rw (bit_count_lem g has.fits, bit_count_lem h s.fits, ← s.flags) (bits_rise (class_of k) c (num_env_of h) (fit_fields h s.fits).some code)
      in
      let lead : class_of k ≡ c → length g.rel_bord_0 ≤ length h.rel_bord_0 =
      λ p. rw (length-list_from, p) (lead_le c h k (length res) (ap length s.flags) (fit_class h s.fits) l)
      in
      let point : class_of k ≡ c → g.pointer ≤ h.pointer = λ p. rw (p, ← s.flags) (mark-told n bs res mark h s).low in
      by_four (length (grid_bits g)) (class_code (class_of k)) (length g.rel_bord_0) g.pointer (length (grid_bits h)) (class_code c) (length h.rel_bord_0) h.pointer
      bits code (λ p. (lead (same p), point (same p))) (λ p j q. one-record g h has s (same p) j q ∙ candidate-clear k)

-- ---- the choice is right

-- a record has the borders, is cleared, and comes before every other record that has them, whatever that one's class does not send
record FirstBorders (n : ℕ) (bs : List ℕ) (res : List Bool) (mark : ℤ) (g : Grid) : Type 0 where
  has : HasBorders n bs res mark g
  clear : cleared g ≡ g
  first : (h : Grid) → HasBorders n bs res mark h → (cleared h ≡ g) ⊎ Before (key g) (key h)

-- no record has the borders, or the one chosen is the first
abbrev Right : ℕ → List ℕ → List Bool → ℤ → Option Grid → Type 0
Right n bs res mark None = (g : Grid) → HasBorders n bs res mark g → ⊥
Right n bs res mark (Some g) = FirstBorders n bs res mark g

module _ (n : ℕ) (bs : List ℕ) (res : List Bool) (mark : ℤ) where
  -- the next law, by the shape that is found
  right_by : (o : Option ℕ) → FirstIn (λ k. has_borders n bs mark (candidate n bs res mark (shape_at k))) 0 7 o → Right n bs res mark (option_map (λ k. candidate n bs res mark (shape_at k)) o)
  right_by None x = λ h s. x (shape_of h) (omega arith) (shape_few h s.fits) ((shape_exactly n bs res mark (shape_of h)).1 (h, refl, s))
  right_by (Some k) x = record {
    has = passes-has n bs mark (candidate n bs res mark (shape_at k)) x.0;
    clear = candidate-clear n bs res mark k;
    first = λ h s. candidate-first n bs res mark k x.0 h s (x.1 (shape_of h) (omega arith) ((shape_exactly n bs res mark (shape_of h)).1 (h, refl, s)));
  }

  -- the choice is right, whatever is handed in
  right : Right n bs res mark (named n bs res mark)
  unfolding named
  right =
      let f : ℕ → Bool = λ k. has_borders n bs mark (candidate n bs res mark (shape_at k)) in
      right_by (find f (range_with_len 0 7)) (first_of f 0 7)

-- ---- signed borders

-- numbers that are not below 0 are their absolute values
abs_back : (zs : List ℤ) → list_all from_zero_of zs ≡ true → map pos (map nat_abs zs) ≡ zs
abs_back [] h = refl
abs_back (pos b ∷ zs) h = ap {B = List ℤ} (λ t. pos b ∷ t) (abs_back zs h)
abs_back (negsuc b ∷ zs) h = absurd (false≢true h)

-- whole numbers are not below 0
from_zero : (bs : List ℕ) → list_all from_zero_of (map pos bs) ≡ true
from_zero [] = refl
from_zero (b ∷ bs) = from_zero bs

-- an answer is no refusal
not_refused : (g : Grid) (e : Refusal) → ◌≡◌ {A = Outcome Grid} (Ok g) (Err e) → ⊥
not_refused g e h = let z : ◌≡◌ {A = ℕ} 0 1 = cc in omega arith

-- 1 is not 10
not_both : ◌≡◌ {A = Outcome Grid} (Err SlotCount) (Err NoGrid) → ⊥
not_both h = let z : ◌≡◌ {A = ℕ} 0 1 = cc in omega arith

module _ (n : ℕ) (zs : List ℤ) (res : List Bool) (mark : ℤ) where
  -- a record has signed borders where none is below 0 and it has their absolute values
  to-signed : (g : Grid) → list_all from_zero_of zs ≡ true → HasBorders n (map nat_abs zs) res mark g → HasNamed n zs res mark g
  to-signed g e s = record {
    fits = s.fits;
    time = record { t_e = map nat_abs zs; t_q = s.noise; l_a = mark };
    derived = s.time;
    same_borders = abs_back zs e;
    same_mark = refl;
    same_flags = s.flags;
  }

  -- and only there
  pub of-signed : (g : Grid) → HasNamed n zs res mark g → (list_all from_zero_of zs ≡ true) × HasBorders n (map nat_abs zs) res mark g
  of-signed g h =
      let t = h.time in
      let b : t.t_e ≡ map nat_abs zs = sym (pos_back t.t_e) ∙ ap (map nat_abs) h.same_borders in (
        rw (← h.same_borders) (from_zero t.t_e),
        record {
          fits = h.fits;
          noise = t.t_q;
          time = h.derived ∙ λ i. Ok (record { t_e = b i; t_q = t.t_q; l_a = h.same_mark i });
          flags = h.same_flags;
        },
      )

  -- ---- the refusals

  -- what a call that comes to o tells
  abbrev Tells : Outcome Grid → Type 0
  Tells o =
      ((o ≡ Err SlotCount) ↔ (is_slot_count n ≡ false))
      × ((o ≡ Err NoGrid) ↔ ((is_slot_count n ≡ true) × ((g : Grid) → HasNamed n zs res mark g → ⊥)))
      × ((e : Refusal) → o ≡ Err e → (e ≡ SlotCount) ⊎ (e ≡ NoGrid))

  -- what 1 tells
  tells-slots : is_slot_count n ≡ false → Tells (Err SlotCount)
  tells-slots s = ((λ h. s, λ h. refl), (λ h. absurd (not_both h), λ h. absurd (false≢true (sym s ∙ h.0))), λ e h. inl (cc))

  -- what 10 tells
  tells_none : is_slot_count n ≡ true → ((g : Grid) → HasNamed n zs res mark g → ⊥) → Tells (Err NoGrid)
  tells_none s x = ((λ h. absurd (not_both (sym h)), λ h. absurd (false≢true (sym h ∙ s))), (λ h. (s, x), λ h. refl), λ e h. inr (cc))

  -- what an answer tells
  tells-given : is_slot_count n ≡ true → (g : Grid) → HasNamed n zs res mark g → Tells (Ok g)
  tells-given s g x = (
    (λ h. absurd (not_refused g _ h), λ h. absurd (false≢true (sym h ∙ s))),
    (λ h. absurd (not_refused g _ h), λ h. absurd (h.1 g x)),
    λ e h. absurd (not_refused g e h),
  )

  -- what the call tells, by its tests and the choice
  tells-by : (a b : Bool) (o : Option Grid) → is_slot_count n ≡ a → list_all from_zero_of zs ≡ b → Right n (map nat_abs zs) res mark o
      → Tells (unless a SlotCount (unless b NoGrid (ok_or o NoGrid)))
  tells-by false b o s z r = tells-slots s
  tells-by true false o s z r = tells_none s (λ g h. false≢true (sym z ∙ (of-signed g h).0))
  tells-by true true None s z r = tells_none s (λ g h. r g (of-signed g h).1)
  tells-by true true (Some g) s z r = tells-given s g (to-signed g z r.has)

  -- an answer is the record that was chosen
  answer-right : (o : Option Grid) (g : Grid) → ok_or o NoGrid ≡ Ok g → Right n (map nat_abs zs) res mark o → FirstBorders n (map nat_abs zs) res mark g
  answer-right None g e r = absurd (not_refused g NoGrid (sym e))
  answer-right (Some h) g e r = let z : h ≡ g = cc in rw z at r

-- ---- the claims

-- every answer is the first record that has what is named
pub named_is_first : NamedIsFirst
unfolding named_grid
named_is_first n zs res mark g e =
    let s = unless_answered (is_slot_count n) _ _ e in
    let z = unless_answered (list_all from_zero_of zs) _ _ s.1 in
    let bs = map nat_abs zs in
    let f = answer-right n zs res mark (named n bs res mark) g z.1 (right n bs res mark) in
    record {
      has = to-signed n zs res mark g z.0 f.has;
      read = λ rest. rw f.clear at (reads_back g rest f.has.fits);
      before_others = λ h x. f.first h (of-signed n zs res mark h x).1;
      kept = writable_view g f.has.fits;
    }

-- 1 and 10 are given exactly where they are due, and nothing else is
pub no_grid_exactly : NoGridExactly
unfolding named_grid
no_grid_exactly n zs res mark =
    let bs = map nat_abs zs in
    let t = tells-by n zs res mark (is_slot_count n) (list_all from_zero_of zs) (named n bs res mark) refl refl (right n bs res mark) in
    record { slot_count = t.0; no_grid = t.1; no_other = t.2 }

-- clearing what the class does not send changes nothing
pub clearing_keeps : ClearingKeeps
clearing_keeps n g t w e = record {
  fits = clear_fits g w;
  time = clear_time n g t w e ∙ sym e;
  bits = clear_bits g;
  read = λ rest. rw (clear_bits g) (reads_back g rest w);
}
