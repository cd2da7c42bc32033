use Rattle.std.proofs.Common.{◌≡◌, ℕ, ◌+◌, ◌-◌, refl, arith}
use lib.ListN.{length-set}
use Rattle.sbr_qmf.specs.Qmf.{columns}
use Rattle.sbr_bands.specs.Tables.{entry}
use Rattle.sbr_means.proofs.Places.{mean-more, means-all}
use Rattle.sbr_means.proofs.Envelope.band_means.Goals as goal

pub loop-j-preserved-then-bands-j : goal.loop-j-preserved-then-bands-j
loop-j-preserved-then-bands-j c =
    let a = c.args in
    let l = c.loop-j in
    let kl : ℕ = entry a.bands.now l.j in
    let w : ℕ = entry a.bands.now (l.j + 1) - kl in
    let first : kl + w ≡ entry a.bands.now (l.j + 1) = omega (arith, c.requires.fit.climbing l.j (omega arith)) in
    -- where the next band is summed beside this one, it is as wide
    let beside : kl + w + w ≡ entry a.bands.now (l.j + 2) = omega arith in
    let sums = c.pair_of-sums.ensures in
    let more = mean-more (columns a.self.x.now) a.bands.now a.self.from a.self.to in (
      simp length-set (omega arith),
      simp length-set l.invariant.1,
      more (l.j + 1) (l.j + 2) (l.j + 2) (kl + w) w _ _ _ (omega (arith, length-set l.out l.j c.mean.result)) first beside sums.b_value c.mean-then-bands-j.ensures
          (more l.j (l.j + 1) (l.j + 1) kl w _ _ _ (omega arith) refl first sums.a_value c.mean.ensures l.invariant.2),
    )

pub loop-j-preserved : goal.loop-j-preserved
loop-j-preserved c =
    let a = c.args in
    let l = c.loop-j in
    let h = c.requires.fit.climbing l.j (omega arith) in (
      simp length-set (omega arith),
      simp length-set l.invariant.1,
      mean-more (columns a.self.x.now) a.bands.now a.self.from a.self.to l.j (l.j + 1) (l.j + 1) _ _ _ _ _
          (omega arith) refl (omega arith) c.band_sum.ensures c.mean-else-j-out.ensures l.invariant.2,
    )

pub returns : goal.returns
returns c =
    let a = c.args in
    let l = c.loop-j in
    means-all (columns a.self.x.now) a.bands.now a.self.from a.self.to l.j l.out (omega arith) (omega arith) l.invariant.2
