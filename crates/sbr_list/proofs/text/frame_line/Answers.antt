use Rattle.std.proofs.Common.{arith}
use Rattle.std.specs.Prelude.{false}
use Rattle.sbr_grid.proofs.First.{first-length}
use Rattle.sbr_list.proofs.Lines.{then, decimal_is}
use Rattle.sbr_list.proofs.Whole.{frame_whole}
use Rattle.sbr_list.proofs.text.frame_line.Goals as goal

pub resolutions-requires : goal.resolutions-requires
resolutions-requires c = let g = c.args.grid.now in omega (arith, c.requires.flags, first-length false g.num_env g.freq_res)

pub returns : goal.returns
returns c =
    let n = rw (c.new.ensures, decimal_is c.args.i c.requires.number) at c.number.ensures in
    let a = then _ _ _ _ _ n c.text.ensures in
    let b = then _ _ _ _ _ a c.text-2.ensures in
    let d = then _ _ _ _ _ b c.text-3.ensures in
    let e = then _ _ _ _ _ d c.times.ensures in
    let f = then _ _ _ _ _ e c.text-4.ensures in
    let g = then _ _ _ _ _ f c.letters.ensures in
    let h = then _ _ _ _ _ g c.end.ensures in
    frame_whole _ _ _ c.requires (rw (c.name.ensures, c.resolutions.ensures) at h)
