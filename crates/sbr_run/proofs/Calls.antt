-- The calls are the turns and readings of term 3.
use Rattle.std.specs.Prelude.{Ok, Err}
use mathlib.Core.Path.{◌≡◌, refl}
use Rattle.sbr_grid.specs.Refusals.{Outcome, result_map}
use Rattle.sbr_reader.specs.Read.{Accepted, frame_read}
use Rattle.sbr_run.specs.declared.Sending.{Sending}
use Rattle.sbr_run.specs.Run.{Turned, State, moved}
use Rattle.sbr_run.specs.Readings.{Receiver, heard}
use Rattle.sbr_run.specs.Place.{sending, bytes_left, behind, place_next, place_of, CallsAreTurns}

carries : (s : State) (o : Outcome Turned) → place_next (λ (a : Sending). a.place) (place_of s.border s.attack s.position) (result_map sending o) ≡ place_of (moved s o).border (moved s o).attack (moved s o).position
carries s (Ok a) = refl
carries s (Err e) = refl

leaves : (s : State) (o : Outcome Turned) → bytes_left s.bytes o ≡ (moved s o).bytes
leaves s (Ok a) = refl
leaves s (Err e) = refl

keeps : (c : Receiver) (o : Outcome Accepted) → place_next behind (place_of c.border c.attack c.position) (result_map frame_read o) ≡ place_of (heard c o).border (heard c o).attack (heard c o).position
keeps c (Ok f) = refl
keeps c (Err e) = refl

pub calls_are_turns : CallsAreTurns
calls_are_turns = record {
  hands_in = λ r s x variable. record {
    chosen = record { samples = x; variable = variable; is = refl };
    time_slots = refl;
    bytes = refl;
    position = refl;
  };
  carries = carries;
  leaves = leaves;
  sends = λ a. (refl, refl);
  in_terms = λ n bytes c. refl;
  keeps = keeps;
  reads = λ f. (refl, refl, refl);
}
