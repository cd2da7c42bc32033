-- What C is given of a turn that sends a frame.
use Rattle.std.specs.Prelude.{Ok}
use mathlib.Core.Path.{◌≡◌, sym, ap, ◌∙◌}
use mathlib.Core.Bool.{Bool}
use mathlib.Core.List.{List}
use Prim.Native.Nat.{ℕ}
use lib.IntN.{ℤ, pos}
use lib.Ieee.{Float}
use Rattle.bits.specs.Bits.{bit_n}
use Rattle.sbr_grid.specs.Refusals.{result_map}
use Rattle.sbr_grid.specs.Grid.{record_of}
use Rattle.sbr_grid.proofs.Outcomes.{map_answered}
use Rattle.sbr_encoder.specs.Election.{elect}
use Rattle.sbr_run.specs.declared.Sending.{Sending}
use Rattle.sbr_run.specs.Run.{Turn, Turned, turn, last_border}
use Rattle.sbr_run.specs.Place.{sending, bytes_left}
use Rattle.sbr_run.proofs.OneFrame.{calls}
use Rattle.c_values.specs.Given.{RecordGiven, TimesGiven, time_out, Few, Leaves}
use Rattle.c_values.proofs.Answers.{leaves-answered, shown, shown_record}
use Rattle.c_send.specs.Turns.{send_out}
use Rattle.c_elect.proofs.Given.{elected_few}

-- the counts of its record are small, where it is elected
pub sent_few : (t : Turn) (a : Turned) (n : ℕ) (high low : List ℕ) (x : List Float) (y : ℤ) (v : Bool) → turn t ≡ Ok a → t.chosen ≡ elect n high low x y v
    → Few (record_of a.sent.grid)
sent_few t a n high low x y v e h =
    let c = calls t a e in
    rw (sym c.same) (elected_few n high low x y v c.elected (sym h ∙ c.chose))

module _ (t : Turn) (r : Sending) (e : Ok r ≡ result_map sending (turn t)) where
  -- the record of a frame that was sent has small counts, where it is elected
  pub send_few : (n : ℕ) (high low : List ℕ) (x : List Float) (y : ℤ) (v : Bool) → t.chosen ≡ elect n high low x y v → Few r.grid
  send_few n high low x y v h = let a = map_answered sending _ r e in rw a.1.1 (sent_few t a.0 n high low x y v a.1.0 h)

  -- a frame that was sent is given whole
  pub send_given : {before : List ℕ × ℕ × ℤ × ℕ × RecordGiven × TimesGiven} (l bytes : List ℕ) (border : ℤ) → bytes ≡ bytes_left l (turn t) → border ≡ r.place.carried.border
      → Leaves (turn t) send_out before (Ok tt) (bytes, r.place.position, border, bit_n r.transient, shown r.grid, (r.time.t_e, r.time.t_q, r.time.l_a))
  send_given l bytes border k b =
      let f = map_answered sending _ r e in
      let a = f.0 in
      rw (b, f.1.1, k ∙ ap (bytes_left l) f.1.0)
      (leaves-answered send_out _ a _ f.1.0
      (ap (λ s. (a.wrote.bytes, a.wrote.position, pos (last_border a.sent.time), bit_n a.transient, s, time_out a.sent.time)) (shown_record a.sent.grid)))
