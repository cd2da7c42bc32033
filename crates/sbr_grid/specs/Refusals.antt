-- Refusals and their numbers: docs/ORDER.md, RF.
use Rattle.std.specs.Prelude.{Bool, cond, ℕ, Result, Ok, Err}
use Rattle.sbr_grid.specs.declared.Refusal.{Refusal}
use Rattle.sbr_grid.specs.declared.Refusal.TheVariants.{SlotCount, Samples, Tables, Room, Record, TimeGrid, BitsEnd, EnvelopeCount, Chain, NoGrid}

abbrev pub number_of : Refusal → ℕ
number_of SlotCount = 1
number_of Samples = 2
number_of Tables = 3
number_of Room = 4
number_of Record = 5
number_of TimeGrid = 6
number_of BitsEnd = 7
number_of EnvelopeCount = 8
number_of Chain = 9
number_of NoGrid = 10

-- what a call comes to: a full result, or a refusal
abbrev pub Outcome : Type 0 → Type 0
Outcome A = Result A Refusal

-- the same with f of the value: what a program hands out, where its types are not those of the definitions
abbrev pub result_map : {A B : Type 0} → (A → B) → Outcome A → Outcome B
result_map f (Ok a) = Ok (f a)
result_map f (Err e) = Err e

-- a test that a call makes before what follows: where it is not passed, the call is refused by e
abbrev pub unless : {A : Type 0} → Bool → Refusal → Outcome A → Outcome A
unless passed e o = cond passed o (Err e)

-- f of the value of an answer, or d where it is refused
abbrev pub value_or : {A B : Type 0} → (A → B) → B → Outcome A → B
value_or f d (Ok a) = f a
value_or f d (Err e) = d
