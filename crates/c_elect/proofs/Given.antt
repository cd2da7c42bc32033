-- What C is given of an election.
use Rattle.std.specs.Prelude.{Ok}
use mathlib.Core.Path.{◌≡◌, ap}
use mathlib.Core.Bool.{Bool}
use mathlib.Core.List.{List, []}
use Prim.Native.Nat.{ℕ}
use lib.IntN.{ℤ}
use lib.Ieee.{Float}
use Rattle.bits.specs.Bits.{bit_n}
use Rattle.sbr_grid.specs.Grid.{Grid, record_of}
use Rattle.sbr_grid.specs.Refusals.{result_map}
use Rattle.sbr_grid.proofs.Outcomes.{map_answered}
use Rattle.sbr_parse.specs.Inverse.{cleared}
use Rattle.sbr_parse.proofs.Inverse.{reads_back}
use Rattle.sbr_encoder.specs.declared.Election.{Election}
use Rattle.sbr_encoder.specs.Election.{Elected, elect, election}
use Rattle.sbr_encoder.specs.Electable.{Electable}
use Rattle.sbr_encoder.proofs.EveryElection.{every_election}
use Rattle.c_values.specs.Given.{RecordGiven, Few, Leaves}
use Rattle.c_values.proofs.Answers.{leaves-answered, shown, shown_record}
use Rattle.c_elect.specs.Elections.{election_out}
use Rattle.c_read.proofs.Readings.{few_of}

-- a record that is read back as itself has nothing to clear
sent_clear : (n lead : ℕ) (g : Grid) → Electable n lead g → cleared g ≡ g
sent_clear n lead g s =
    let back = reads_back g [] s.fits in
    let self = s.reads [] in
    let i : ◌≡◌ {A = Grid × List Bool} (cleared g, []) (g, []) = cc in
    ap (λ x. x.0) i

-- a record that is elected has small counts
pub elected_few : (n : ℕ) (high low : List ℕ) (x : List Float) (previous : ℤ) (variable : Bool) (e : Elected) → elect n high low x previous variable ≡ Ok e → Few (record_of e.grid)
elected_few n high low x previous variable e h =
    let s = every_election n high low x previous variable e h in few_of e.grid s.fits (sent_clear _ _ _ s)

module _ (n : ℕ) (high low : List ℕ) (x : List Float) (previous : ℤ) (variable : Bool) (r : Election) (e : Ok r ≡ result_map election (elect n high low x previous variable)) where
  -- a record that was elected has small counts
  pub elect_few : Few r.grid
  elect_few = let a = map_answered election _ r e in rw a.1.1 (elected_few n high low x previous variable a.0 a.1.0)

  -- it is given whole
  pub elect_given : {before : ℕ × RecordGiven} → Leaves (elect n high low x previous variable) election_out before (Ok tt) (bit_n r.transient, shown r.grid)
  elect_given =
      let a = map_answered election _ r e in
      rw a.1.1 (leaves-answered election_out _ a.0 _ a.1.0 (ap (λ s. (bit_n a.0.transient, s)) (shown_record a.0.grid)))
