use Rattle.std.proofs.Common.{◌≡◌, ◌≤◌, drop}
use Rattle.std.specs.Str.{all_ascii_digits}
use Rattle.ivm_text.specs.Text.{max_number}
use Rattle.ivm_text.specs.Whole.{read_on}
use Rattle.ivm_text.proofs.whole.digits_value.Given as goal

abbrev pub invariant-loop-digit : goal.invariant-loop-digit
invariant-loop-digit l =
    (l.n ≤ max_number) × (read_on l.n (drop l.digit-index l.digits) ≡ read_on 0 l.digits)
    × (all_ascii_digits (drop l.digit-index l.digits) ≡ all_ascii_digits l.digits)
