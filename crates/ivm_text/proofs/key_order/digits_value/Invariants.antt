use Rattle.std.proofs.Common.{◌≡◌, ◌<◌, drop}
use Rattle.std.specs.Str.{all_ascii_digits}
use Rattle.ivm_text.specs.KeyOrder.{read_on}
use Rattle.ivm_text.specs.declared.key_order.TheConstants.{INDEX_END}
use Rattle.ivm_text.proofs.key_order.digits_value.Given as goal

abbrev pub invariant-loop-place : goal.invariant-loop-place
invariant-loop-place l =
    (l.n < INDEX_END) × (read_on l.n (drop l.place l.key) ≡ read_on 0 l.key)
    × (all_ascii_digits (drop l.place l.key) ≡ all_ascii_digits l.key)
