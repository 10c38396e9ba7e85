use Rattle.std.proofs.Common.{arith, ◌∙◌, ap, ◌≡◌, ◌<◌, length, get_or}
use Rattle.std.specs.Fmt.{decimal}
use Rattle.std.proofs.lemmas.Grind.{common_steps}
use Rattle.ivm_text.proofs.Numerals.{nonempty, no_zero, all_digits, reads_back, decimal_reads}
use Rattle.ivm_text.proofs.whole.magnitude.Goals as goal
use Rattle.ivm_text.proofs.whole.magnitude.Goals.{else-digits-eq48-via-then-digits-eq48+else-digits-gt1, else-digits-eq48-via-else-digits-eq48}

pub returns-then-is_empty-clause-none : goal.returns-then-is_empty-clause-none
returns-then-is_empty-clause-none c = λ n small e. let some = nonempty n c.args.digits.now small e in grind (arith, common_steps)

pub returns-then-digits-gt1-clause-none : goal.returns-then-digits-gt1-clause-none
returns-then-digits-gt1-clause-none c = λ n small e.
    let zero = no_zero n c.args.digits.now small e c.if-digits-eq48.true in omega arith

pub returns-in_err-n-clause-none : goal.returns-in_err-n-clause-none
returns-in_err-n-clause-none c =
    rw c.from_residual.ensures (λ n small e.
    let above = c.in_err-n.ensures.none (all_digits n c.args.digits.now small e) in
    omega (arith, above, reads_back n c.args.digits.now small e))

pub returns-clause-some : goal.returns-clause-some
returns-clause-some c =
    let got = c.in_ok-n.ensures.some in
    let some : 0 < length c.args.digits.now = grind (arith, common_steps) in
    let zero : get_or c.args.digits.now 0 0 ≡ 48 → length c.args.digits.now ≡ 1 =
    elim c.else-digits-eq48.branch as (λ _. get_or c.args.digits.now 0 0 ≡ 48 → length c.args.digits.now ≡ 1) [
      | else-digits-eq48-via-then-digits-eq48+else-digits-gt1 w ↦ λ z. omega (arith, some)
      | else-digits-eq48-via-else-digits-eq48 w ↦ λ z. absurd (w.if-digits-eq48.false z)
    ] in
    (ap decimal got.1 ∙ decimal_reads c.args.digits.now got.0 some zero (omega arith), got.2)
