use Rattle.std.proofs.Common.{arith, ◌+◌, ◌*◌, ◌-◌, get_or, drop}
use Rattle.ivm_text.proofs.Numerals.{read_on_ge, read_step}
use Rattle.ivm_text.proofs.whole.digits_value.Goals as goal

pub returns-then-n-gt-MAX_NUMBER-clause-none : goal.returns-then-n-gt-MAX_NUMBER-clause-none
returns-then-n-gt-MAX_NUMBER-clause-none c =
    let step = read_step c.loop-digit.n c.args.digits.now c.loop-digit.digit-index 0 c.loop-digit-test.true in
    λ all. omega (arith, step, c.loop-digit.invariant.1, read_on_ge (10 * c.loop-digit.n + (get_or c.args.digits.now c.loop-digit.digit-index 0 - 48)) (drop (c.loop-digit.digit-index + 1) c.args.digits.now), c.if-n-gt-MAX_NUMBER.true)
