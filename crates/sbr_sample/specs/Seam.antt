-- Two frames of another transmitter, the first with an attack marked at its very end, and readings of them: computed. Proved in proofs/Seam.antt.
use Rattle.std.specs.Prelude.{◌≡◌, Bool, true, false, List, [], ◌∷◌, map, ℕ, pos, negsuc, take}
use Rattle.sbr_grid.specs.declared.FrameClass.TheVariants.{FixFix, FixVar}
use Rattle.sbr_reader.specs.Read.{carrying}
use Rattle.sbr_run.specs.Run.{Frame}
use Rattle.sbr_run.specs.Readings.{Reading, tuned_at, listened, read, frame_heard, Readings}
use Rattle.sbr_sample.specs.Sample.{terms}

-- 01 00 00 1 1: FixVar, one envelope, bs_pointer 1, high; 00 00 0: FixFix, one envelope, low
abbrev pub seam_bytes : List ℕ
seam_bytes = 67 ∷ 0 ∷ []

abbrev pub seam_reading : ℕ → ℕ → Bool → Reading
seam_reading n p a = record { bytes = seam_bytes; position = p; slots = n; carried = carrying 16 a }

-- the first frame; refused, by the slot count 17; the second
abbrev pub seam_readings : List Reading
seam_readings = seam_reading 16 0 false ∷ seam_reading 17 8 true ∷ seam_reading 16 8 true ∷ []

abbrev pub seam_frames : List Frame
seam_frames =
    record {
      class = FixVar;
      borders = 0 ∷ 16 ∷ [];
      noise = 0 ∷ 16 ∷ [];
      mark = pos 1;
      resolutions = true ∷ [];
      rows = 2 ∷ [];
      begins_on_attack = false;
    }
    ∷ record {
      class = FixFix;
      borders = 0 ∷ 16 ∷ [];
      noise = 0 ∷ 16 ∷ [];
      mark = negsuc 0;
      resolutions = false ∷ [];
      rows = 1 ∷ [];
      begins_on_attack = true;
    }
    ∷ []

pub record Seam : Type 0 where
  pub listens : Readings 16 seam_bytes (tuned_at 16 0) seam_readings
  -- the second frame begins on the attack
  pub reads : map (frame_heard terms) (read seam_readings) ≡ seam_frames
  -- the flag at the start, and after each reading
  pub flags : map (λ k. (listened (tuned_at 16 0) (take k seam_readings)).attack) (0 ∷ 1 ∷ 2 ∷ 3 ∷ []) ≡ false ∷ true ∷ true ∷ false ∷ []
