-- `sbr_parse::fix_fix` meets its contract.
use mathlib.Core.Path.{◌≡◌, ◌∙◌}
use Prim.Native.Nat.{◌*◌, ◌/◌, ◌%◌, ◌^◌}
use native.Mathlib.Nat.{one-mul}
use native.Mathlib.Omega.{arith}
use lib.Pow.{shl_exact}
use Rattle.bits.specs.Bits.{bit_at}
use Rattle.sbr_parse.proofs.Taken.{took, stopped}
use Rattle.sbr_parse.proofs.ParseLaws.{fix-fix_short, fix-fix_count, fix-fix_end, fix-fix_given}
use Rattle.sbr_parse.proofs.fix_fix.Goals as goal

pub returns-in_err-code : goal.returns-in_err-code
returns-in_err-code c =
    let a = c.args.body in
    let e = stopped 2 a c.take.result _ c.from_residual.result c.take.ensures c.in_err-code.was c.from_residual.ensures.1 in
    rw (e.is, fix-fix_short a.width a.value e.few)

pub returns-then-num_env-gt-MAX_NUM_ENV : goal.returns-then-num_env-gt-MAX_NUM_ENV
returns-then-num_env-gt-MAX_NUM_ENV c =
    let a = c.args.body in
    let t = took 2 c.args.body c.take.result c.in_ok-code.code c.in_ok-code.behind c.take.ensures c.in_ok-code.was in
    let count : 1 * 2 ^ c.in_ok-code.code % 2 ^ 64 ≡ 2 ^ (a.value / 2 ^ c.in_ok-code.behind.width % 4) = shl_exact {a = 1} 1 c.in_ok-code.code 64 (omega arith) (omega (arith, t.number)) ∙ rw (one-mul, t.number) in
    rw (fix-fix_count a.width c.in_ok-code.behind.width a.value t.width (omega (arith, count)))

pub returns-in_err-high : goal.returns-in_err-high
returns-in_err-high c =
    let a = c.args.body in
    let t = took 2 c.args.body c.take.result c.in_ok-code.code c.in_ok-code.behind c.take.ensures c.in_ok-code.was in
    let count : 1 * 2 ^ c.in_ok-code.code % 2 ^ 64 ≡ 2 ^ (a.value / 2 ^ c.in_ok-code.behind.width % 4) = shl_exact {a = 1} 1 c.in_ok-code.code 64 (omega arith) (omega (arith, t.number)) ∙ rw (one-mul, t.number) in
    let e = stopped 1 c.in_ok-code.behind c.take-2.result _ c.from_residual-in_err-high.result c.take-2.ensures c.in_err-high.was c.from_residual-in_err-high.ensures.1 in
    rw (e.is, fix-fix_end a.width c.in_ok-code.behind.width a.value t.width e.few (omega (arith, count)))

pub returns : goal.returns
unfolding bit_at
returns c =
    let a = c.args.body in
    let t = took 2 c.args.body c.take.result c.in_ok-code.code c.in_ok-code.behind c.take.ensures c.in_ok-code.was in
    let count : 1 * 2 ^ c.in_ok-code.code % 2 ^ 64 ≡ 2 ^ (a.value / 2 ^ c.in_ok-code.behind.width % 4) = shl_exact {a = 1} 1 c.in_ok-code.code 64 (omega arith) (omega (arith, t.number)) ∙ rw (one-mul, t.number) in
    let u = took 1 c.in_ok-code.behind c.take-2.result c.in_ok-high.high c.in_ok-high.rest c.take-2.ensures c.in_ok-high.was in
    rw (c.empty.ensures, c.noise_of.ensures, c.same_resolutions.ensures, c.is_overridden.ensures, u.number, t.value, count)
    (fix-fix_given a.width c.in_ok-code.behind.width c.in_ok-high.rest.width a.value t.width u.width (omega (arith, count)))
