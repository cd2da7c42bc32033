-- The turns of the loop over lines.
use Rattle.std.specs.Prelude.{Result, Ok, Err, IsErrAnd, Option, Some, None}
use denote.Param.Members.{Mut}
use denote.Ref.{Bor}
use Rattle.std.specs.declared.iter.Enumerate.{Enumerate}
use Rattle.std.specs.declared.slice.Split.{Split}
use Rattle.std.specs.Fn.{CalledAt}
use Rattle.std.specs.Iterator.{Yields}
use Rattle.std.specs.Iterator.Adapters.{enumerate_source, enumerate_count, enumerate_steps}
use Rattle.std.specs.Slice.Iter.{split_rest, split_done, split_callee, split_steps}
use Rattle.std.proofs.lemmas.Iterator.{YieldsList}
use Rattle.std.proofs.lemmas.Iterator.Splits.{YieldsList-from_slice_split}
use Rattle.std.proofs.lemmas.Iterator.Consumers.{YieldsList-from_enumerate, YieldsList-turn, YieldsList-end}
use Rattle.std.specs.Result.{MatchResult, result_map_both}
use mathlib.Core.Path.{◌≡◌, refl, sym, ap, ◌∙◌}
use mathlib.Core.Bool.{Bool, false}
use mathlib.Core.List.{List, ◌∷◌}
use Prim.Native.Nat.{ℕ, suc, ◌+◌, ◌-◌, ◌≤◌, ◌<◌, ◌^◌, min}
use native.Mathlib.Numerals.{add-one}
use native.Mathlib.Decide.{dec_lt}
use native.Mathlib.Omega.{arith}
use borrow.Author.Tests.{le-leb, lt-leb, leb-true}
use lib.Dec.{leb, eqb}
use lib.ListN.{length, get_or, take, drop, drop_of_length-le}
use lib.Seq.{drop-cons, take_all}
use Rattle.std.specs.List.{enumerate_from}
use Rattle.std.proofs.lemmas.List.FromFn.{length-enumerate_from, get_or-enumerate_from}
use Rattle.sbr_grid.specs.declared.Refusal.{Refusal}
use Rattle.sbr_grid.specs.declared.Refusal.TheVariants.{Room}
use Rattle.sbr_grid.specs.Refusals.{Outcome, result_map, value_or, unless}
use Rattle.sbr_grid.proofs.Outcomes.{unless_answered}
use Rattle.sbr_text.specs.Parts.{read_line}
use Rattle.sbr_make.specs.declared.LineRefused.{LineRefused}
use Rattle.sbr_make.specs.Making.{lines_of, Making, no_frames, add_line, TextOutcome, refused_at, or_stopped, stream_of, most_text, made_from, text_stream}
use Rattle.sbr_make.proofs.Enough.{enough_text}

-- ---- one turn

-- the lines of a text, counted from 0
lines_counted : {F : Type 0} (e : Enumerate (Split ℕ F)) (g : Mut F (Bor ℕ × Unit {0}) Bool) (f : F) (text : List ℕ)
    → split_rest (enumerate_source e) ≡ text → split_done (enumerate_source e) ≡ false → split_callee (enumerate_source e) ≡ f
    → ((x : ℕ) (b : Bool) (q : F) → CalledAt g f x b q → (q ≡ f) × (b ≡ eqb x 10)) → enumerate_count e ≡ 0
    → YieldsList {B = ℕ × List ℕ} (enumerate_steps (split_steps g)) (λ p. (p.0, p.1.now)) e (enumerate_from 0 (lines_of text))
unfolding lines_of
lines_counted e g f text r d k h n = YieldsList-from_enumerate (YieldsList-from_slice_split g (λ b. eqb b 10) text r d k h) n

module _ {F : Type 0} (e : Enumerate (Split ℕ F)) (g : Mut F (Bor ℕ × Unit {0}) Bool) (f : F) (text : List ℕ)
    (rest : split_rest (enumerate_source e) ≡ text) (done : split_done (enumerate_source e) ≡ false) (callee : split_callee (enumerate_source e) ≡ f)
    (computes : (x : ℕ) (b : Bool) (q : F) → CalledAt g f x b q → (q ≡ f) × (b ≡ eqb x 10)) (count : enumerate_count e ≡ 0)
    (xs : List (ℕ × Bor (List ℕ))) (t u : Enumerate (Split ℕ F)) (y : Yields (enumerate_steps (split_steps g)) e xs t) (r : Option (ℕ × Bor (List ℕ)))
    (step : enumerate_steps (split_steps g) t r u) where
  -- the next of them
  pub next_line : (i : ℕ) (l : Bor (List ℕ)) → r ≡ Some (i, l)
      → (i ≡ length xs) × (drop (length xs) (lines_of text) ≡ l.now ∷ drop (suc (length xs)) (lines_of text))
  next_line i l z =
      let h = YieldsList-turn (lines_counted e g f text rest done callee computes count) xs t y r u (i, l) z step in
      let ls = lines_of text in
      let n = length xs in
      let w : n < length ls = omega (arith, h.0, length-enumerate_from 0 ls) in
      let a : ◌≡◌ {A = ℕ × List ℕ} (i, l.now) (0 + n, get_or ls n l.now) = h.1 ∙ get_or-enumerate_from 0 ls n (i, l.now) w in
      let b : i ≡ 0 + n = ap (λ p. p.0) a in
      let c : l.now ≡ get_or ls n l.now = ap (λ p. p.1) a in
      (omega arith, drop-cons ls n l.now w ∙ ap {B = List (List ℕ)} (λ x. x ∷ drop (suc n) ls) (sym c))

  -- all of them
  pub no_line : r ≡ None → length (lines_of text) ≤ length xs
  no_line z =
      let h = YieldsList-end (lines_counted e g f text rest done callee computes count) xs t y r u z step in
      omega (arith, h.1, length-enumerate_from 0 (lines_of text))

-- what a line that ends at a place adds
abbrev pub added_at : Making → List ℕ → ℕ → Outcome Making
added_at m l end = unless (leb end most_text) Room (add_line m (read_line l))

-- a place past the longest text may be any such place
same_end : (end x : ℕ) → end ≡ min x (2 ^ 64 - 1) → leb end most_text ≡ leb x most_text
same_end end x e = elim (dec_lt most_text x) [
  | yes h ↦ lt-leb end most_text (omega arith) ∙ sym (lt-leb x most_text h)
  | no h ↦ le-leb end most_text (omega arith) ∙ sym (le-leb x most_text (omega arith))
]

-- the first of several lines
first_made : (i at : ℕ) (m : Making) (l : List ℕ) (ls : List (List ℕ))
    → made_from i at m (l ∷ ls) ≡ or_stopped (suc i) (λ a. made_from (suc i) (at + length l + 1) a ls) (added_at m l (at + length l))
unfolding made_from
first_made i at m l ls = refl

-- an outcome, where it is a refusal with the number of its line
abbrev pub at_line : {A : Type 0} → ℕ → Outcome A → Result A LineRefused
at_line n o = result_map_both (λ x. x) (refused_at n) o

-- what the program makes of it
pub numbered : {A : Type 0} (o : Outcome A) (r : Result A LineRefused) (n : ℕ) {P : Refusal → LineRefused → Type 0}
    → MatchResult o (λ x. r ≡ Ok x) (λ e. IsErrAnd r (P e)) → ((e : Refusal) (y : LineRefused) → P e y → y ≡ refused_at n e) → r ≡ at_line n o
numbered (Ok x) r n h f = h
numbered (Err e) (Ok x) n h f = absurd h
numbered (Err e) (Err y) n h f = ap Err (f e y h)

-- whether a line was added, by what it adds
abbrev pub told_at : ℕ → Outcome Making → Result (Unit {0}) LineRefused
told_at n o = at_line n (result_map (λ m. tt) o)

-- where it was, the frames after it are the outcome's
line_added : (n : ℕ) (m : Making) (o : Outcome Making) (u : Unit {0}) → told_at n o ≡ Ok u → o ≡ Ok (value_or (λ a. a) m o)
line_added n m (Ok a) u h = refl
line_added n m (Err e) u h = let z : ◌≡◌ {A = ℕ} 0 1 = cc h in absurd (omega arith)

-- an answer that is handed on is the outcome's
line_given : (n : ℕ) (o : Outcome Making) (a : Making) → at_line n o ≡ Ok a → o ≡ Ok a
line_given n (Ok x) a h = ap Ok (cc h)
line_given n (Err e) a h = let z : ◌≡◌ {A = ℕ} 0 1 = cc h in absurd (omega arith)

-- a refusal stops the text
line_stopped : (n : ℕ) (next : Making → TextOutcome) (o : Outcome Making) (x : LineRefused) → told_at n o ≡ Err x → or_stopped n next o ≡ Err x
line_stopped n next (Ok a) x h = let z : ◌≡◌ {A = ℕ} 0 1 = cc h in absurd (omega arith)
line_stopped n next (Err e) x h = ap Err (cc h)

-- a refusal with the number of its line is told
line_told : (n : ℕ) (o : Outcome Making) (x : LineRefused) → at_line n o ≡ Err x → told_at n o ≡ Err x
line_told n (Ok a) x h = let z : ◌≡◌ {A = ℕ} 0 1 = cc h in absurd (omega arith)
line_told n (Err e) x h = ap Err (cc h)

-- what `?` hands on
pub handed_on : (r : Result Making LineRefused) (x : LineRefused) → IsErrAnd r (λ y. y ≡ x) → r ≡ Err x
handed_on (Ok a) x h = absurd h
handed_on (Err y) x h = ap Err h

-- ---- all turns

-- the lines of as much of a text as has to be read
abbrev pub lines_taken : List ℕ → List (List ℕ)
lines_taken text = lines_of (take (min (length text) (most_text + 1)) text)

-- before the line at a place: the lines that are left, added to the frames so far, make what the text makes
pub record Reached (text : List ℕ) (m : Making) (line at : ℕ) : Type 0 where
  pub lines : line ≤ at
  pub place : at ≤ most_text + 1
  pub rest : made_from line at m (drop line (lines_taken text)) ≡ text_stream text

-- as much of a text as has to be read makes the same
taken_same : (n : ℕ) (text : List ℕ) → n ≡ min (length text) (most_text + 1) → text_stream (take n text) ≡ text_stream text
taken_same n text e = elim (dec_lt most_text (length text)) [
  | yes h ↦ let z : n ≡ most_text + 1 = omega arith in rw z (enough_text text)
  | no h ↦ ap text_stream (take_all n text (omega arith))
]

-- before the first line
pub reached_none : (text : List ℕ) → Reached text no_frames 0 0
unfolding text_stream
reached_none text = record { lines = omega arith; place = omega arith; rest = taken_same (min (length text) (most_text + 1)) text refl }

module _ (text : List ℕ) (m : Making) (k at : ℕ) (s : Reached text m k at) where
  module _ (l : List ℕ) (d : drop k (lines_taken text) ≡ l ∷ drop (suc k) (lines_taken text)) where
    -- the line comes first
    begins : text_stream text
        ≡ or_stopped (suc k) (λ a. made_from (suc k) (at + length l + 1) a (drop (suc k) (lines_taken text))) (added_at m l (at + length l))
    begins = sym (rw d at s.rest) ∙ first_made k at m l (drop (suc k) (lines_taken text))

    -- after it, where it is added
    added_next : (a : Making) → added_at m l (at + length l) ≡ Ok a → Reached text a (k + 1) (at + length l + 1)
    added_next a o =
        let u = unless_answered (leb (at + length l) most_text) _ _ o in
        let w = leb-true (at + length l) most_text u.0 in
        record { lines = omega (arith, s.lines); place = omega arith; rest = rw (add-one k) (sym (rw o at begins)) }

    -- the same by the answer, which tells only whether the line is added, and the frames after it
    pub told-next : (a : Making) (v : Unit {0}) → told_at (k + 1) (added_at m l (at + length l)) ≡ Ok v
        → a ≡ value_or (λ n. n) m (added_at m l (at + length l)) → Reached text a (k + 1) (at + length l + 1)
    told-next a v h c = added_next a (line_added (k + 1) m (added_at m l (at + length l)) v h ∙ ap Ok (sym c))

    -- where it is refused, so is the text
    pub told-not : (x : LineRefused) → told_at (k + 1) (added_at m l (at + length l)) ≡ Err x → text_stream text ≡ Err x
    told-not x h = begins ∙ line_stopped (suc k) _ (added_at m l (at + length l)) x (rw add-one at h)

  -- the same of what the line adds, where the place at which it ends may be any past the longest text
  module _ (l : List ℕ) (end : ℕ) (d : drop k (lines_taken text) ≡ l ∷ drop (suc k) (lines_taken text)) (e : end ≡ min (at + length l) (2 ^ 64 - 1)) where
    pub reached-next : (a : Making) → at_line (k + 1) (added_at m l end) ≡ Ok a → Reached text a (k + 1) (end + 1)
    reached-next a h =
        let o = line_given (k + 1) (added_at m l end) a h in
        let u = unless_answered (leb end most_text) _ _ o in
        let w = leb-true end most_text u.0 in
        let z : at + length l ≡ end = omega arith in
        rw z at (added_next l d a (rw (← z) at o))

    pub reached-not : (x : LineRefused) → at_line (k + 1) (added_at m l end) ≡ Err x → text_stream text ≡ Err x
    reached-not x h =
        let t = line_told (k + 1) (added_at m l end) x h in
        told-not l d x (rw (same_end end (at + length l) e) at t)

  -- after the last line
  pub reached-all : length (lines_taken text) ≤ k → text_stream text ≡ Ok (stream_of m)
  unfolding made_from
  reached-all h = sym (rw (drop_of_length-le (lines_taken text) {i = k} h) at s.rest)
