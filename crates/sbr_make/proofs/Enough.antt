-- The claim of specs/Enough.antt: what stands behind the longest text and one byte more changes nothing.
use Rattle.std.specs.Prelude.{Ok, Err}
use Rattle.std.proofs.lemmas.Bool.{not-true}
use mathlib.Core.Path.{◌≡◌, refl, sym, ap, ◌∙◌}
use mathlib.Core.Bool.{and-eq-true_iff}
use mathlib.Core.List.{List, [], ◌∷◌, ◌++◌}
use mathlib.Core.Logic.{◌⊎◌, inl, inr}
use Prim.Native.Nat.{ℕ, zero, suc, ◌+◌, ◌-◌, ◌≤◌, ◌<◌}
use native.Mathlib.Decide.{dec_lt, ℕ_discrete}
use native.Mathlib.Omega.{arith}
use borrow.Author.Tests.{ne_eqb}
use lib.Dec.{leb, eqb}
use lib.ListN.{length, take, drop, length-append, take-append-drop}
use lib.Seq.{take_all, take-append-le, take-append-add, length-take-le}
use Rattle.sbr_grid.specs.declared.Refusal.TheVariants.{Room}
use Rattle.sbr_grid.specs.Refusals.{Outcome, unless}
use Rattle.sbr_text.specs.Parts.{read_line}
use Rattle.sbr_make.specs.Making.{lines_of, Making, no_frames, add_line, TextOutcome, or_stopped, most_text, made_from, text_stream}
use Rattle.sbr_make.specs.Enough.{EnoughText}
use Rattle.sbr_make.proofs.Plain.{Plain, first-line}
use Rattle.sbr_make.proofs.Firsts.{made-long}

-- ---- texts with no line feed, and the first line of others

-- a text with no line feed is one line
one_line : (l : List ℕ) → Plain l → lines_of l ≡ l ∷ []
unfolding lines_of
one_line [] h = refl
one_line (b ∷ l) h = let p = simp and-eq-true_iff at h in rw (not-true (eqb b 10) p.0, one_line l p.1)

-- the front of such a text is one
plain_front : (a b : List ℕ) → Plain (a ++ b) → Plain a
plain_front [] b h = refl
plain_front (x ∷ a) b h = let p = simp and-eq-true_iff at h in rw p.0 (plain_front a b p.1)

plain_take : (k : ℕ) (l : List ℕ) → Plain l → Plain (take k l)
plain_take k l h = plain_front (take k l) (drop k l) (rw take-append-drop h)

-- a text with a line feed
record Broken (l : List ℕ) : Type 0 where
  first : List ℕ
  rest : List ℕ
  is : l ≡ first ++ (10 ∷ rest)
  plain : Plain first

-- a byte in front of it
in_front_lem : (b : ℕ) (l : List ℕ) → (b ≡ 10 → ⊥) → Plain l ⊎ Broken l → Plain (b ∷ l) ⊎ Broken (b ∷ l)
in_front_lem b l n (inl h) = inl (rw (ne_eqb b 10 n) h)
in_front_lem b l n (inr r) =
    inr (record { first = b ∷ r.first; rest = r.rest; is = ap (λ t. b ∷ t) r.is; plain = rw (ne_eqb b 10 n) r.plain })

-- every text is of one kind or the other
plain_or_broken : (l : List ℕ) → Plain l ⊎ Broken l
plain_or_broken [] = inl refl
plain_or_broken (b ∷ l) = elim (ℕ_discrete b 10) [
  | yes e ↦ inr (record { first = []; rest = l; is = rw e; plain = refl })
  | no e ↦ in_front_lem b l e (plain_or_broken l)
]

-- ---- a text that is cut

-- what follows a line counts only where it is added
next_alike : (i : ℕ) (f g : Making → TextOutcome) (o : Outcome Making) → ((a : Making) → f a ≡ g a) → or_stopped i f o ≡ or_stopped i g o
next_alike i f g (Ok a) h = h a
next_alike i f g (Err e) h = refl

-- a first line in front of lines that make the same, whatever it adds
first_alike : (i at : ℕ) (m : Making) (l : List ℕ) (ks ls : List (List ℕ))
    → ((a : Making) → made_from (suc i) (at + length l + 1) a ks ≡ made_from (suc i) (at + length l + 1) a ls)
    → made_from i at m (l ∷ ks) ≡ made_from i at m (l ∷ ls)
unfolding made_from
first_alike i at m l ks ls h = next_alike (suc i) _ _ (unless (leb (at + length l) most_text) Room (add_line m (read_line l))) h

-- where the front of k bytes is a line that ends past the longest text, so is the first line
cut_long : (i at k : ℕ) (m : Making) (a : List ℕ) (ls : List (List ℕ)) → Plain a → most_text < at + k → k ≤ length a
    → made_from i at m (lines_of (take k a)) ≡ made_from i at m (a ∷ ls)
cut_long i at k m a ls p h f =
    ap (made_from i at m) (one_line (take k a) (plain_take k a p))
    ∙ made-long i at m (take k a) [] (omega (arith, length-take-le k a f))
    ∙ sym (made-long i at m a ls (omega arith))

-- a text with no line feed
cut_plain : (i at k : ℕ) (m : Making) (l : List ℕ) → Plain l → most_text < at + k → made_from i at m (lines_of (take k l)) ≡ made_from i at m (lines_of l)
cut_plain i at k m l p h = elim (dec_lt (length l) k) [
  | yes f ↦ ap (λ t. made_from i at m (lines_of t)) (take_all k l (omega arith))
  | no f ↦ cut_long i at k m l [] p h (omega arith) ∙ ap (made_from i at m) (sym (one_line l p))
]

-- of a text of fewer than d bytes what stands behind the first k may be cut
abbrev Cut : ℕ → Type 0
Cut d =
    (i at k : ℕ) (m : Making) (l : List ℕ) → length l < d → most_text < at + k → made_from i at m (lines_of (take k l)) ≡ made_from i at m (lines_of l)

module _ (i at k : ℕ) (m : Making) (l : List ℕ) (r : Broken l) where
  -- its first line and the others
  lines : made_from i at m (r.first ∷ lines_of r.rest) ≡ made_from i at m (lines_of l)
  lines = ap (made_from i at m) (sym (first-line r.first r.rest r.plain)) ∙ ap (λ t. made_from i at m (lines_of t)) (sym r.is)

  -- the line feed is kept
  cut-behind : (d : ℕ) → Cut d → length l < suc d → most_text < at + k → length r.first < k
      → made_from i at m (lines_of (take k l)) ≡ made_from i at m (lines_of l)
  cut-behind d again e h f =
      let a = r.first in
      let j = k - length a - 1 in
      let z : k ≡ length a + suc j = omega arith in
      let cut : take k l ≡ a ++ (10 ∷ take j r.rest) =
      ap (λ n. take n l) z ∙ ap (take (length a + suc j)) r.is ∙ take-append-add a (10 ∷ r.rest) (suc j) in
      ap (λ t. made_from i at m (lines_of t)) cut
      ∙ ap (made_from i at m) (first-line a (take j r.rest) r.plain)
      ∙ first_alike i at m a (lines_of (take j r.rest)) (lines_of r.rest)
      (λ y. again (suc i) (at + length a + 1) j y r.rest (omega (arith, ap length r.is, length-append a (10 ∷ r.rest))) (omega arith))
      ∙ lines

  -- it is not
  cut-before : most_text < at + k → k ≤ length r.first → made_from i at m (lines_of (take k l)) ≡ made_from i at m (lines_of l)
  cut-before h f =
      ap (λ t. made_from i at m (lines_of (take k t))) r.is
      ∙ ap (λ t. made_from i at m (lines_of t)) (take-append-le k r.first (10 ∷ r.rest) f)
      ∙ cut_long i at k m r.first (lines_of r.rest) r.plain h f
      ∙ lines

-- any text
cut_any : (d i at k : ℕ) (m : Making) (l : List ℕ) → Cut d → length l < suc d → most_text < at + k → Plain l ⊎ Broken l
    → made_from i at m (lines_of (take k l)) ≡ made_from i at m (lines_of l)
cut_any d i at k m l again e h (inl p) = cut_plain i at k m l p h
cut_any d i at k m l again e h (inr r) = elim (dec_lt (length r.first) k) [
  | yes f ↦ cut-behind i at k m l r d again e h f
  | no f ↦ cut-before i at k m l r h (omega arith)
]

-- so by the length of the text
cut_from : (d : ℕ) → Cut d
cut_from zero i at k m l e h = absurd (omega arith)
cut_from (suc d) i at k m l e h = cut_any d i at k m l (cut_from d) e h (plain_or_broken l)

pub enough_text : EnoughText
unfolding text_stream
enough_text text = cut_from (suc (length text)) 0 0 (most_text + 1) no_frames text (omega arith) (omega arith)
