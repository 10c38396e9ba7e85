use Rattle.std.proofs.Common.{arith, ap, ◌∙◌, ◌∷◌}
use Rattle.ivm_text.proofs.Numerals.{signed_none, same_number}
use Rattle.ivm_text.proofs.whole.read_whole.Goals as goal

pub returns-in_err-n-in-Some-eq45-default-clause-none : goal.returns-in_err-n-in-Some-eq45-default-clause-none
returns-in_err-n-in-Some-eq45-default-clause-none c =
    let s = c.in-Some-eq45-default in
    rw c.from_residual.ensures (signed_none s.digits.now c.args.units.now (s.ensures.cases.0 ∙ ap (λ u. u ∷ s.digits.now) s.field-0-0-test)
    (λ k _ small e. c.in_err-n-in-Some-eq45-default.ensures.none k small e))

pub returns-then-n-eq0-clause-none : goal.returns-then-n-eq0-clause-none
returns-then-n-eq0-clause-none c =
    let s = c.in-Some-eq45-default in
    let m = c.in_ok-n-in-Some-eq45-default in
    signed_none s.digits.now c.args.units.now (s.ensures.cases.0 ∙ ap (λ u. u ∷ s.digits.now) s.field-0-0-test)
    (λ k some small e. omega (arith, some, same_number k m.n s.digits.now small m.ensures.some.1 e m.ensures.some.0, c.if-n-eq0.true))
