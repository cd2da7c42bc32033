-- The ways out of `resolved`, one law for each.
use mathlib.Core.Path.{◌≡◌, refl, sym, ap, ◌∙◌}
use mathlib.Core.Bool.{Bool, false}
use mathlib.Core.List.{List, map}
use Prim.Native.Nat.{ℕ, ◌+◌, ◌-◌}
use native.Mathlib.Omega.{arith}
use lib.ListN.{length}
use Rattle.sbr_grid.specs.declared.FrameClass.{FrameClass}
use Rattle.sbr_grid.specs.declared.FrameClass.TheVariants.{FixFix, FixVar, VarFix, VarVar}
use Rattle.sbr_grid.specs.declared.SbrGrid.{SbrGrid}
use Rattle.sbr_grid.specs.Grid.{by_class, first, Grid, view_of, record_of}
use Rattle.sbr_grid.proofs.Laws.{lengths}
use Rattle.sbr_grid.specs.Times.{Times, time_record}
use Rattle.sbr_grid.specs.Refusals.{Outcome, result_map}
use Rattle.sbr_grid.specs.declared.TimeGrid.{TimeGrid}
use Rattle.sbr_time_grid.specs.TimeGrid.{time_grid}
use Rattle.std.specs.Prelude.{Ok}
use Rattle.sbr_qmf.specs.Qmf.{SampleAt}
use Rattle.sbr_bands.specs.Tables.{spans}
use Rattle.sbr_resolution.specs.Resolution.{elect_freq_res}
use Rattle.sbr_means.proofs.Spans.{mapped_length}
use Rattle.sbr_encoder.specs.Election.{with_freq_res, resolved}

-- the entry of each other class, where they have the same
by_other : {A : Type 0} (k : FrameClass) (a b : A) → (k ≡ FixFix → ⊥) → by_class k a b b b ≡ b
by_other FixFix a b h = absurd (h refl)
by_other FixVar a b h = refl
by_other VarFix a b h = refl
by_other VarVar a b h = refl

module _ (x : SampleAt) (high low : List ℕ) (grid : SbrGrid) (t : Times) (same : record_of (view_of grid) ≡ grid) where
  -- in each other class the resolutions are elected
  pub elects : (r : List Bool) → (grid.frame_class ≡ FixFix → ⊥) → length t.t_e ≡ grid.num_env + 1 → r ≡ first false 5 (map (elect_freq_res x high low) (spans t.t_e))
      → record {
        frame_class = grid.frame_class;
        num_env = grid.num_env;
        num_noise = grid.num_noise;
        freq_res = r;
        var_bord_0 = grid.var_bord_0;
        var_bord_1 = grid.var_bord_1;
        rel_bord_0 = grid.rel_bord_0;
        num_rel_0 = grid.num_rel_0;
        rel_bord_1 = grid.rel_bord_1;
        num_rel_1 = grid.num_rel_1;
        pointer = grid.pointer;
        amp_res_override = grid.amp_res_override;
      } ≡ record_of (resolved x high low (view_of grid) t)
  elects r k n e =
      let a = ap (λ (z : SbrGrid). z.rel_bord_0) same in
      let b = ap (λ (z : SbrGrid). z.rel_bord_1) same in
      let l = lengths grid in
      let m : length t.t_e - 1 ≡ grid.num_env = omega arith in
      sym (ap record_of (by_other grid.frame_class (view_of grid) (with_freq_res (map (elect_freq_res x high low) (spans t.t_e)) (view_of grid)) k)
      ∙ rw (a, b, l.rel0, l.rel1, e, mapped_length, m))

-- what is derived, where the record has the time grid t
pub timed_by : (n : ℕ) (g : Grid) (t : Times) → time_grid n g ≡ Ok t → (d : Outcome TimeGrid) (r : TimeGrid) → d ≡ result_map time_record (time_grid n g) → d ≡ Ok r
    → r ≡ time_record t
timed_by n g t e d r h k = let q : ◌≡◌ {A = Outcome TimeGrid} (Ok r) (Ok (time_record t)) = sym k ∙ h ∙ ap (result_map time_record) e in cc
