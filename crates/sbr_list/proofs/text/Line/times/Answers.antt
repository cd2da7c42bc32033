use Rattle.std.proofs.Common.{arith, ◌+◌, append_assoc}
use mir.Syntax.{w32}
use mir.Val.{SFits}
use mir.ValLaws.{to_z-of_z}
use Rattle.sbr_grid.proofs.First.{first-length}
use Rattle.sbr_list.proofs.Lines.{then, signed_is}
use Rattle.sbr_list.proofs.text.Line.times.Goals as goal

pub borders-requires : goal.borders-requires
borders-requires c = let t = c.args.time.now in omega (arith, c.requires.borders, first-length 0 (t.num_env + 1) t.t_e)

pub noise_borders-requires : goal.noise_borders-requires
noise_borders-requires c = let t = c.args.time.now in omega (arith, c.requires.noise, first-length 0 (t.num_noise + 1) t.t_q)

pub returns : goal.returns
returns c =
    let z = c.args.time.now.l_a in
    let small : SFits w32 z = record { sfits = omega (arith, c.requires.mark) } in
    let a = then _ _ _ _ _ c.numbers.ensures c.text.ensures in
    let b = then _ _ _ _ _ a c.numbers-2.ensures in
    let d = then _ _ _ _ _ b c.text-2.ensures in
    let e = then _ _ _ _ _ d (rw (to_z-of_z w32 z small, signed_is z c.requires.mark) at c.number.ensures) in
    simp (c.borders.ensures, c.noise_borders.ensures, append_assoc) at e
