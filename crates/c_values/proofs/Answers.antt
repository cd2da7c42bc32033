-- The ways out of a call of C, one law for each, and what C is given of a record and a time grid.
use Rattle.std.specs.Prelude.{Ok, Err}
use mathlib.Core.Path.{◌≡◌, refl, ap, ◌∙◌}
use mathlib.Core.Bool.{false}
use mathlib.Core.List.{map}
use Prim.Native.Nat.{ℕ}
use Rattle.bits.specs.Bits.{bit_n}
use Rattle.sbr_grid.specs.declared.SbrGrid.{SbrGrid}
use Rattle.sbr_grid.specs.declared.Refusal.{Refusal}
use Rattle.sbr_grid.specs.Refusals.{Outcome, result_map}
use Rattle.sbr_grid.specs.Grid.{first, view_of, record_of, Grid}
use Rattle.sbr_grid.proofs.First.{first_again}
use Rattle.sbr_grid.proofs.Laws.{lengths}
use Rattle.c_values.specs.Given.{Gives, Leaves, code_of, numbers_of, RecordGiven, record_out}

-- the number is the same whatever was answered
code_map : {A : Type 0} (o : Outcome A) → code_of (result_map {B = Unit {0}} (λ a. tt) o) ≡ code_of o
code_map (Ok a) = refl
code_map (Err e) = refl

module _ {A B : Type 0} {o : Outcome A} (f : A → B) (before : B) where
  -- a refusal is handed on, and all is as it was
  pub leaves-refused : (e : Refusal) (r : Outcome (Unit {0})) → r ≡ Err e → o ≡ Err e → Leaves o f before r before
  leaves-refused e r n h = rw (n, h) (record { answer = refl; outputs = refl })

  -- an answer gives its outputs
  pub leaves-answered : (a : A) (after : B) → o ≡ Ok a → after ≡ f a → Leaves o f before (Ok tt) after
  leaves-answered a after h k = rw (h, k) (record { answer = refl; outputs = refl })

  -- the number of what a call answers
  pub gives : (r : Outcome (Unit {0})) (after : B) (n : ℕ) → Leaves o f before r after → n ≡ code_of r → Gives o f before n after
  gives r after n l k = record { code = k ∙ ap code_of l.answer ∙ code_map o; outputs = l.outputs }

-- what a program gives of a record
abbrev pub shown : SbrGrid → RecordGiven
shown g = (numbers_of (view_of g), map bit_n (first false 5 g.freq_res), g.rel_bord_0, g.rel_bord_1)

-- that is the whole grid
pub shown_record : (g : Grid) → shown (record_of g) ≡ record_out g
shown_record g = let k = lengths (record_of g) in rw (k.env, k.rel0, k.rel1, first_again false 5 g.freq_res)
