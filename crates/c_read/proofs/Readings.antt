-- What C is given of a reading.
use Rattle.std.specs.Prelude.{Ok}
use Rattle.std.proofs.lemmas.Bool.{and_parts}
use mathlib.Core.Path.{◌≡◌, ap}
use mathlib.Core.Bool.{Bool, true, false, cond}
use mathlib.Core.List.{List}
use Prim.Native.Nat.{ℕ, ◌≤◌}
use native.Mathlib.Omega.{arith}
use lib.Dec.{ltb}
use lib.IntN.{ℤ, pos}
use lib.ListN.{length}
use Rattle.bits.specs.Bits.{bit_n}
use Rattle.sbr_grid.specs.Refusals.{result_map}
use Rattle.sbr_grid.specs.Grid.{Grid, record_of}
use Rattle.sbr_grid.proofs.Outcomes.{map_answered}
use Rattle.sbr_writer.specs.Write.{writable}
use Rattle.sbr_writer.proofs.Writable.{fields_told}
use Rattle.sbr_parse.specs.Inverse.{cleared}
use Rattle.sbr_reader.specs.declared.FrameRead.{FrameRead}
use Rattle.sbr_reader.specs.declared.Carried.{Carried}
use Rattle.sbr_reader.specs.Read.{read_grid, frame_read}
use Rattle.sbr_reader.proofs.Frames.{frame_writes}
use Rattle.c_values.specs.Given.{Few, Leaves, RecordGiven, TimesGiven, time_out}
use Rattle.c_values.proofs.Answers.{leaves-answered, shown, shown_record}
use Rattle.c_read.specs.Frames.{frame_out}

-- one or two is at most two
one_or_two : (t : Bool) → cond t 2 1 ≤ 2
one_or_two true = omega arith
one_or_two false = omega arith

-- a record that is read has one noise floor or two
noise_few : (g : Grid) → (cleared g).num_noise ≤ 2
noise_few g = one_or_two (ltb 1 (length g.freq_res))

-- a record that can be written, with what its class does not send cleared, has small counts
pub few_of : (g : Grid) → writable g ≡ true → cleared g ≡ g → Few (record_of g)
few_of g fits clear =
    let t = fields_told g (and_parts _ _ fits).0 in
    record { env = t.most; noise = rw (ap (λ x. x.num_noise) clear) at (noise_few g); rel0 = t.rel0; rel1 = t.rel1 }

module _ (l : List ℕ) (p n : ℕ) (c : Carried) (r : FrameRead) (e : Ok r ≡ result_map frame_read (read_grid l p n c)) where
  -- a record that was read has small counts
  pub read_few : Few r.grid
  read_few = let f = map_answered frame_read _ r e in let w = (frame_writes l p n c f.0 f.1.0).written in rw f.1.1 (few_of f.0.grid w.fits w.clear)

  -- a frame that was read is given whole
  pub read_given : {before : ℕ × ℤ × ℕ × ℕ × RecordGiven × TimesGiven} (border : ℤ) → border ≡ r.carried.border
      → Leaves (read_grid l p n c) frame_out before (Ok tt) (r.position, border, bit_n r.carried.attack, bit_n r.begins_on_attack, shown r.grid, (r.time.t_e, r.time.t_q, r.time.l_a))
  read_given border b =
      let f = map_answered frame_read _ r e in
      let a = f.0 in
      rw (b, f.1.1)
      (leaves-answered frame_out _ a _ f.1.0
      (ap (λ s. (a.position, pos a.border, bit_n a.ends_on_attack, bit_n a.begins_on_attack, s, time_out a.time)) (shown_record a.grid)))
