-- The sample run is as stated: each turn is computed once, and what is read is derived from term 3.
use Rattle.std.specs.Prelude.{Ok, Err}
use mathlib.Core.Path.{◌≡◌, refl, sym, ap, ◌∙◌, subst}
use mathlib.Core.Bool.{Bool, true, false}
use mathlib.Core.List.{List, [], ◌∷◌, map}
use Prim.Native.Nat.{ℕ, ◌<◌}
use native.Mathlib.Omega.{arith}
use lib.IntN.{ℤ, pos, negsuc}
use lib.ListN.{length, take, get_or}
use lib.Seq.{take-length}
use lib.Ieee as Ieee
use lib.Ieee.{of_bits}
use Rattle.bits.specs.Bits.{bit_at, with_bit, get_bit, make_bit, make_bits, put_bits, bits_at, bits_of, num_from}
use Rattle.bits.specs.Room.{end_of, room_for}
use Rattle.sbr_grid.specs.declared.FrameClass.{FrameClass}
use Rattle.sbr_grid.specs.declared.FrameClass.TheVariants.{FixFix, FixVar, VarFix}
use Rattle.sbr_grid.specs.declared.Refusal.TheVariants.{SlotCount, Room}
use Rattle.sbr_grid.specs.Refusals.{Outcome}
use Rattle.sbr_grid.specs.Grid.{width_from, Grid, made}
use Rattle.sbr_grid.specs.Times.{Times, is_slot_count}
use Rattle.sbr_time_grid.specs.TimeGrid.{abs_bord_lead, abs_bord_trail, n_rel_lead, n_rel_trail, rel_bord_lead, slot_sum, list_from, t_e_of, rises, middle_border, l_a_of, counts_fit, borders_fit, noise_fits, t_q_of, time_grid}
use Rattle.sbr_writer.specs.Syntax.{twos, body_bits, grid_bits}
use Rattle.sbr_writer.specs.Write.{every, class_fits, fields_fit_of, write_grid}
use Rattle.sbr_parse.specs.Syntax.{◌followed_by◌, flags, field, rel_bords, checked_count, behind_counts, fix_fix, fix_var, var_fix, sbr_grid}
use Rattle.sbr_reader.specs.Read.{meets, read_grid}
use Rattle.sbr_qmf.specs.Qmf.{columns}
use Rattle.sbr_floats.specs.Floats.{total, spread_is_high}
use Rattle.sbr_onsets.specs.Onsets.{peak_for, is_attack, onsets_from, detect_onsets, halves_alike}
use Rattle.sbr_bands.specs.Tables.{among, drawn, high_fits, low_fits, spans_from}
use Rattle.sbr_resolution.specs.Resolution.{inside, largest_from, smallest_from, is_spread, some_spread, elect_freq_res}
use Rattle.sbr_build.specs.Build.{fixfix_grid}
use Rattle.sbr_attack.specs.Attack.{late_attack_varvar, fixvar_segs, varfix_segs, fixvar_grid, varfix_grid, variable_grid, segments_by}
use Rattle.sbr_choice.specs.Choice.{attack_grid, plain_grid, chosen_grid}
use Rattle.sbr_encoder.specs.Election.{elect}
use Rattle.sbr_run.specs.Run.{Turn, Turned, Terms, State, Elects, turn, after, sent, HandsIn, Run, Frame, frames_sent}
use Rattle.sbr_run.specs.Readings.{Reading, tuned_at, listened, read, frame_heard, Readings}
use Rattle.sbr_run.specs.Term3.{ReadBack, Apart}
use Rattle.sbr_run.proofs.Receive.{length-frames}
use Rattle.sbr_run.proofs.Term3.{term3}
use Rattle.sbr_sample.specs.Sample.{loud_from, terms, turn_at, start, after_one, after_two, end, turns, frames, readings, other_turns, tuned, Sample}

-- a turn of the sample with 16 slots hands in what is carried
hands : (s : ℕ) (c : State) → HandsIn Elects terms c (turn_at 16 s c)
hands s c = record { chosen = record { samples = loud_from s; variable = true; is = refl }; time_slots = refl; bytes = refl; position = refl }

-- a turn that answered
abbrev turned : Grid → Times → Bool → State → Outcome Turned
turned g t onset c = Ok (record { sent = record { grid = g; time = t }; transient = onset; wrote = record { bytes = c.bytes; position = c.position } })

abbrev times : List ℕ → List ℕ → ℤ → Times
times es qs a = record { t_e = es; t_q = qs; l_a = a }

-- what each turn comes to
record Outcomes : Type 0 where
  one : turn (turn_at 16 24 start) ≡ turned (made FixFix 1 (true ∷ []) 0 0 [] [] 0 true) (times (0 ∷ 16 ∷ []) (0 ∷ 16 ∷ []) (negsuc 0)) false after_one
  two : turn (turn_at 17 24 after_one) ≡ Err SlotCount
  three : turn (turn_at 16 15 after_one) ≡ turned (made FixVar 2 (false ∷ false ∷ false ∷ []) 0 2 [] (0 ∷ 0 ∷ []) 3 false) (times (0 ∷ 14 ∷ 16 ∷ 18 ∷ []) (0 ∷ 14 ∷ 18 ∷ []) (pos 1)) true after_two
  four : turn (turn_at 16 10 after_two) ≡ turned (made VarFix 2 (false ∷ false ∷ true ∷ []) 2 0 (3 ∷ 0 ∷ []) [] 3 false) (times (2 ∷ 10 ∷ 12 ∷ 16 ∷ []) (2 ∷ 12 ∷ 16 ∷ []) (pos 2)) true end
  five : turn (turn_at 16 24 end) ≡ Err Room

outcomes : Outcomes
unfolding columns total of_bits Ieee.add Ieee.mul Ieee.div Ieee.of_int Ieee.lt Ieee.le Ieee.is_nan peak_for is_attack onsets_from detect_onsets halves_alike spread_is_high bit_at with_bit get_bit make_bit make_bits put_bits bits_at bits_of num_from end_of room_for width_from abs_bord_lead abs_bord_trail n_rel_lead n_rel_trail rel_bord_lead slot_sum list_from t_e_of rises middle_border l_a_of is_slot_count counts_fit borders_fit noise_fits t_q_of time_grid twos body_bits grid_bits every class_fits fields_fit_of write_grid among drawn high_fits low_fits spans_from inside largest_from smallest_from is_spread some_spread elect_freq_res fixfix_grid segments_by late_attack_varvar fixvar_segs varfix_segs fixvar_grid varfix_grid variable_grid attack_grid plain_grid chosen_grid elect turn
outcomes = record { one = refl; two = refl; three = refl; four = refl; five = refl }

-- ---- what term 3 says of a run whose end is known

module _ (r : Terms) (s e : State) (ts : List Turn) (run : Run Elects r s ts) (ends : after s ts ≡ e) (rs : List Reading)
    (own : Readings r.slots e.bytes (tuned_at s.border s.position) rs) where
  -- the bytes that the run left hold its stream
  back : ReadBack r (sent ts) s.border e e.bytes s.position rs
  back =
      subst
      (λ (z : State). Readings r.slots z.bytes (tuned_at s.border s.position) rs
      → ReadBack r (sent ts) s.border z z.bytes s.position rs)
      ends (term3.read_back r s ts run (after s ts).bytes s.position (term3.transmitted r s ts run).holds rs) own

  module _ (fs : List Frame) (sends : frames_sent r (sent ts) ≡ fs) (all : length (read rs) ≡ length fs) where
    -- as many readings answer as frames were sent
    same_count : length (read rs) ≡ length (sent ts)
    same_count = all ∙ ap length (sym sends) ∙ length-frames r false (sent ts)

    frames-read : map (frame_heard r) (read rs) ≡ fs
    frames-read = back.in_order (omega (arith, same_count)) ∙ ap (take (length (read rs))) sends ∙ rw all (take-length fs)

    place-left : listened (tuned_at s.border s.position) rs ≡ record { border = e.border; attack = e.attack; position = e.position }
    place-left =
        let p : (listened (tuned_at s.border s.position) rs).position ≡ e.position =
        back.position same_count ∙ sym (term3.transmitted r s ts run).ends ∙ ap (λ (z : State). z.position) ends in
        let b = back.border same_count in
        let a = back.attack same_count in
        λ i. record { border = b i; attack = a i; position = p i }

-- ---- the sample

-- the run, by what its turns come to
runs : Run Elects terms start turns
runs =
    let o = outcomes in
    record {
      from = omega arith;
      by = omega arith;
      clear = refl;
      turns =
          rw o.one (rw o.two (rw o.three (rw o.four (rw o.five
          (hands 24 start, (tt, (hands 15 after_one, (hands 10 after_two, (tt, tt)))))))));
    }

sends : frames_sent terms (sent turns) ≡ frames
sends = let o = outcomes in rw o.one (rw o.two (rw o.three (rw o.four (rw o.five refl))))

ends : after start turns ≡ end
ends = let o = outcomes in rw o.one (rw o.two (rw o.three (rw o.four (rw o.five refl))))

other_run : Run Elects terms after_one other_turns
other_run =
    record { from = omega arith; by = omega arith; clear = refl; turns = rw outcomes.three (hands 15 after_one, tt) }

-- what is computed of the readings
record Heard : Type 0 where
  all : Readings 16 end.bytes tuned readings
  some : Readings 16 end.bytes tuned (take 2 readings)
  count : length (read readings) ≡ 3
  fewer : length (read (take 2 readings)) ≡ 1

heard : Heard
unfolding bit_at get_bit bits_at num_from end_of width_from abs_bord_lead abs_bord_trail n_rel_lead n_rel_trail rel_bord_lead slot_sum list_from t_e_of rises middle_border l_a_of is_slot_count counts_fit borders_fit noise_fits t_q_of time_grid read_grid meets sbr_grid ◌followed_by◌ flags field rel_bords checked_count behind_counts fix_fix fix_var var_fix
heard = record { all = (refl, (tt, (refl, (tt, (refl, (tt, tt)))))); some = (refl, (tt, tt)); count = refl; fewer = refl }

-- ---- two runs

-- a frame for places that a list does not have
no_frame : Frame
no_frame = record { class = FixFix; borders = []; noise = []; mark = negsuc 0; resolutions = []; rows = []; begins_on_attack = false }

first-sent : (get_or (frames_sent terms (sent turns)) 0 no_frame).class ≡ FixFix
first-sent = rw outcomes.one refl

other_sent : (0 < length (sent other_turns)) × ((get_or (frames_sent terms (sent other_turns)) 0 no_frame).class ≡ FixVar)
other_sent = rw outcomes.three (omega arith, refl)

streams_apart : length (sent turns) ≡ 3 → Apart turns other_turns
streams_apart many =
    term3.apart terms terms start after_one turns other_turns runs other_run refl 0 no_frame (omega arith) other_sent.0
    (λ c b m r. let z : ◌≡◌ {A = FrameClass} FixFix FixVar = sym first-sent ∙ c ∙ other_sent.1 in let w : ◌≡◌ {A = ℕ} 0 1 = cc in omega arith)

pub sampled : Sample
sampled =
    let h = heard in
    let many : length (sent turns) ≡ 3 = sym (length-frames terms false (sent turns)) ∙ ap length sends in
    record {
      runs = runs;
      sends = sends;
      ends = ends;
      listens = h.all;
      counts = h.count;
      runs_too = other_run;
      reads = frames-read terms start end turns runs ends readings h.all frames sends h.count;
      hears = place-left terms start end turns runs ends readings h.all frames sends h.count;
      unread = (back terms start end turns runs ends (take 2 readings) h.some).answers (omega (arith, h.fewer, many));
      apart = streams_apart many;
    }
