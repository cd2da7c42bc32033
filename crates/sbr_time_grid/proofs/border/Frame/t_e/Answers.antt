use mathlib.Core.Path.{◌∙◌}
use native.Mathlib.Omega.{arith}
use Rattle.sbr_grid.specs.Grid.{view_of}
use Rattle.sbr_grid.proofs.Laws.{lengths}
use Rattle.sbr_time_grid.proofs.Borders.{zeros_at, all_borders}
use Rattle.sbr_time_grid.proofs.border.Frame.t_e.Goals as goal

pub returns : goal.returns
returns c =
    let f = c.args.self.now in
    let g = f.grid in
    let l = c.leading.ensures in
    let t = c.trailing.ensures in
    all_borders f.num_slots (view_of g) g.num_env 6 _ (lengths g).env (omega arith)
    (λ j h. t.before j h ∙ l.borders j h) t.borders (λ j h. t.behind j h ∙ l.behind j (omega arith) ∙ (rw c.requires (zeros_at 6 j))) (omega arith)
