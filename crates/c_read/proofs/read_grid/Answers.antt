-- `c_read::read_grid` meets its contract.
use borrow.Author.Rules.{rules}
use mir.Syntax.{w32}
use mir.Val.{SFits}
use mir.ValLaws.{to_z-of_z}
use Rattle.c_read.proofs.Readings.{read_few, read_given}
use Rattle.c_read.proofs.read_grid.Goals as goal

pub give_record-requires : goal.give_record-requires
give_record-requires c = read_few _ _ _ _ _ c.in_ok-read.ensures

pub returns : goal.returns
returns c =
    let f : SFits w32 c.args.border.now = search rules in
    let l : SFits w32 c.in_ok-read.read.carried.border = search rules in
    let g = c.give_record.ensures in
    let t = c.give_times.ensures in
    rw (c.from.ensures, c.from-2.ensures, g.to_numbers_after, g.freq_res_after, g.rel_bord_0_after, g.rel_bord_1_after, t.t_e_after, t.t_q_after, t.l_a_after)
    (read_given _ _ _ _ c.in_ok-read.read (rw (to_z-of_z w32 _ f) at c.in_ok-read.ensures) _ (to_z-of_z w32 _ l))
