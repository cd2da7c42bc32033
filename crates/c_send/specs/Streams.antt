-- The calls of C for a turn and for a reading are those of term 3: the statement. Proved in proofs/Streams.antt.
use Rattle.std.specs.Prelude.{◌≡◌, Bool, List, pos, Float, Ok}
use Rattle.bits.specs.Bits.{bit_n}
use Rattle.sbr_reader.specs.Read.{Accepted, carrying}
use Rattle.sbr_run.specs.Run.{Turned, Terms, Elects, State, moved, HandsIn}
use Rattle.sbr_run.specs.Readings.{Receiver, heard}
use Rattle.c_read.specs.Frames.{carried_in, frame_out}
use Rattle.sbr_run.specs.Place.{turn_from}
use Rattle.c_send.specs.Turns.{place_in, send_out}

pub record CallsOfC : Type 0 where
  -- what C hands in of a border and a position makes a turn of the run
  pub hands_in : (r : Terms) (s : State) (x : List Float) (variable : Bool)
      → HandsIn Elects r s (turn_from r.slots r.high r.low x variable s.bytes (place_in (pos s.border) s.position))
  -- bytes, position and border that C is given are what the turn leaves
  pub sends : (s : State) (a : Turned)
      → ((send_out a).0 ≡ (moved s (Ok a)).bytes) × ((send_out a).1 ≡ (moved s (Ok a)).position) × ((send_out a).2 ≡ pos (moved s (Ok a)).border)
  -- position, border and flag that C is given are, handed in again, what the reading leaves; 1 stands for a frame that begins on an attack
  pub reads : (c : Receiver) (f : Accepted)
      → ((frame_out f).0 ≡ (heard c (Ok f)).position)
      × (carried_in (frame_out f).1 (frame_out f).2 ≡ carrying (heard c (Ok f)).border (heard c (Ok f)).attack)
      × ((frame_out f).3 ≡ bit_n f.begins_on_attack)
