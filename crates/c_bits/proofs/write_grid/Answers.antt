-- `c_bits::write_grid` meets its contract.
use mathlib.Core.Path.{refl, ap, ◌∙◌}
use Rattle.sbr_grid.proofs.Outcomes.{passed_on, map_refused, map_answered}
use Rattle.sbr_writer.specs.Write.{write_grid, bytes_after}
use Rattle.c_values.proofs.Same.{write_same}
use Rattle.c_bits.proofs.Laws.{is_formed}
use Rattle.c_bits.proofs.write_grid.Goals as goal

pub returns-in_err-next : goal.returns-in_err-next
returns-in_err-next c =
    let a = c.args in
    let formed = is_formed _ (write_grid a.bytes.now a.position.now) c.in_ok-grid.grid (write_same _ _) _ c.in_ok-grid.ensures in
    let o = map_refused (λ w. w.position) _ c.in_err-next.field-0.0 c.in_err-next.ensures.answer in
    rw (formed, o) (record {
      answer = passed_on _ _ c.from_residual-in_err-next.ensures.1;
      outputs = ap (λ m. (m, a.position.now)) (c.write_grid.ensures.bytes ∙ ap (bytes_after a.bytes.now) o);
    })

pub returns : goal.returns
returns c =
    let a = c.args in
    let formed = is_formed _ (write_grid a.bytes.now a.position.now) c.in_ok-grid.grid (write_same _ _) _ c.in_ok-grid.ensures in
    let o = map_answered (λ w. w.position) _ c.in_ok-next.next c.in_ok-next.ensures.answer in
    let m = c.write_grid.ensures.bytes ∙ ap (bytes_after a.bytes.now) o.1.0 in
    rw (formed, o.1.0) (record { answer = refl; outputs = λ i. (m i, o.1.1 i) })
