-- Other resolutions, as many as before: the time grid stays, and outside FixFix so does what the writer and the reader make of a grid.
use mathlib.Core.Path.{◌≡◌, refl, ap, ◌∙◌, fun_ext}
use mathlib.Core.Bool.{Bool, true, ◌&&◌}
use mathlib.Core.List.{List}
use Prim.Native.Nat.{ℕ}
use lib.ListN.{length}
use Rattle.sbr_grid.specs.declared.FrameClass.{FrameClass}
use Rattle.sbr_grid.specs.declared.FrameClass.TheVariants.{FixFix, FixVar, VarFix, VarVar}
use Rattle.sbr_grid.specs.Grid.{Grid}
use Rattle.sbr_time_grid.specs.TimeGrid.{time_grid, counts_fit, borders_fit, noise_fits, abs_bord_lead, abs_bord_trail, n_rel_lead, n_rel_trail, rel_bord_lead, t_e_of, middle_border, l_a_of, t_q_of}
use Rattle.sbr_writer.specs.Write.{writable, fields_fit_of, class_fits}
use Rattle.sbr_parse.specs.Inverse.{cleared}
use Rattle.sbr_encoder.specs.Election.{with_freq_res}

module _ (n : ℕ) (fs : List Bool) (g : Grid) (e : length fs ≡ length g.freq_res) where
  step-res : rel_bord_lead n (with_freq_res fs g) ≡ rel_bord_lead n g
  unfolding rel_bord_lead
  step-res = fun_ext (λ l. rw e refl)

  border-res : t_e_of n (with_freq_res fs g) ≡ t_e_of n g
  unfolding t_e_of abs_bord_lead abs_bord_trail n_rel_lead
  border-res = fun_ext (λ l. rw (step-res, e) refl)

  middle-res : middle_border (with_freq_res fs g) ≡ middle_border g
  unfolding middle_border
  middle-res = rw e refl

  counts-res : counts_fit (with_freq_res fs g) ≡ counts_fit g
  unfolding counts_fit n_rel_lead n_rel_trail
  counts-res = rw e refl

  noise-res : noise_fits (with_freq_res fs g) ≡ noise_fits g
  unfolding noise_fits
  noise-res = rw (e, middle-res) refl

  floors-res : t_q_of n (with_freq_res fs g) ≡ t_q_of n g
  unfolding t_q_of
  floors-res = rw (e, middle-res, border-res) refl

  mark-res : l_a_of (with_freq_res fs g) ≡ l_a_of g
  unfolding l_a_of
  mark-res = rw e refl

  pub time-res : time_grid n (with_freq_res fs g) ≡ time_grid n g
  unfolding time_grid borders_fit
  time-res = rw (e, border-res, counts-res, noise-res, floors-res, mark-res) refl

-- outside FixFix, the writer's tests
writable_res : (c : FrameClass) (fs : List Bool) (g : Grid) → (c ≡ FixFix → ⊥) → length fs ≡ length g.freq_res
    → (fields_fit_of (with_freq_res fs g) && class_fits c (with_freq_res fs g)) ≡ (fields_fit_of g && class_fits c g)
unfolding fields_fit_of class_fits
writable_res FixFix fs g d e = absurd (d refl)
writable_res FixVar fs g d e = rw e refl
writable_res VarFix fs g d e = rw e refl
writable_res VarVar fs g d e = rw e refl

-- the fields that are not sent
cleared_res : (fs : List Bool) (g : Grid) → length fs ≡ length g.freq_res → cleared (with_freq_res fs g) ≡ with_freq_res fs (cleared g)
cleared_res fs g e = rw e refl

-- a record that is written, and read back as it is
pub record Kept (g : Grid) : Type 0 where
  pub fits : writable g ≡ true
  pub clear : cleared g ≡ g

pub kept_res : (fs : List Bool) (g : Grid) → (g.frame_class ≡ FixFix → ⊥) → length fs ≡ length g.freq_res → Kept g → Kept (with_freq_res fs g)
kept_res fs g d e k =
    record { fits = writable_res g.frame_class fs g d e ∙ k.fits; clear = cleared_res fs g e ∙ ap (with_freq_res fs) k.clear }
