use mathlib.Core.Path.{sym, ◌∙◌}
use Rattle.sbr_grid.specs.Grid.{view_of}
use Rattle.sbr_named.proofs.Compared.{places, has_timed, has_timeless}
use Rattle.sbr_named.proofs.frame.NamedFrame.has_times_of.Goals as goal

pub has_times-requires : goal.has_times-requires
has_times-requires c = (places c.args.self.now.num_slots (view_of c.args.grid) c.in-Ok.time (sym c.in-Ok.is ∙ c.derive_time_grid.ensures)).2.few

pub returns-in-Ok : goal.returns-in-Ok
returns-in-Ok c =
    let f = c.args.self.now in
    c.has_times.ensures ∙ has_timed f.num_slots (view_of c.args.grid) c.in-Ok.time f.borders.now f.l_a (sym c.in-Ok.is ∙ c.derive_time_grid.ensures)

pub returns-in-Err : goal.returns-in-Err
returns-in-Err c = let f = c.args.self.now in has_timeless f.borders.now f.l_a _ c.in-Err.field-0 (sym c.in-Err.is ∙ c.derive_time_grid.ensures)
