use Rattle.std.proofs.Common.{arith, ◌∙◌, ap, ◌≡◌, ◌<◌, length, get_or}
use Rattle.std.specs.Fmt.{decimal}
use Rattle.ivm_text.proofs.IndexLemmas.{nonempty, no_zero, all_digits, reads_back, decimal_reads}
use Rattle.ivm_text.proofs.key_order.decimal_index.Goals as goal
use Rattle.ivm_text.proofs.key_order.decimal_index.Goals.{else-unit_at-eq48-via-then-unit_at-eq48+else-len-gt1, else-unit_at-eq48-via-else-unit_at-eq48}

pub returns-then-len-eq0-clause-none : goal.returns-then-len-eq0-clause-none
returns-then-len-eq0-clause-none c = λ n small e. let some = nonempty n c.args.key.now small e in omega arith

pub returns-then-len-gt1-clause-none : goal.returns-then-len-gt1-clause-none
returns-then-len-gt1-clause-none c = λ n small e.
    let zero : get_or c.args.key.now 0 0 ≡ 48 = omega arith in
    let one = no_zero n c.args.key.now small e zero in omega arith

pub returns-in_err-n-clause-none : goal.returns-in_err-n-clause-none
returns-in_err-n-clause-none c =
    rw c.from_residual.ensures (λ n small e.
    let above = c.in_err-n.ensures.none (all_digits n c.args.key.now small e) in
    omega (arith, above, reads_back n c.args.key.now small e))

pub returns-clause-some : goal.returns-clause-some
returns-clause-some c =
    let got = c.in_ok-n.ensures.some in
    let some : 0 < length c.args.key.now = omega arith in
    let zero : get_or c.args.key.now 0 0 ≡ 48 → length c.args.key.now ≡ 1 =
    elim c.else-unit_at-eq48.branch as (λ _. get_or c.args.key.now 0 0 ≡ 48 → length c.args.key.now ≡ 1) [
      | else-unit_at-eq48-via-then-unit_at-eq48+else-len-gt1 w ↦ λ z. omega (arith, some)
      | else-unit_at-eq48-via-else-unit_at-eq48 w ↦ λ z. absurd (omega (arith, z, w.if-unit_at-eq48.false, c.unit_at.ensures))
    ] in
    (ap decimal got.1 ∙ decimal_reads c.args.key.now got.0 some zero (omega arith), got.2)
