use Rattle.std.proofs.Common.{◌≡◌, length, drop}
use Rattle.ivm_text.specs.Keys.{is_key}
use Rattle.js_members.proofs.names.is_named.Given as goal

abbrev pub invariant-loop-place : goal.invariant-loop-place
invariant-loop-place l =
    (length l.key ≡ length l.name) × (is_key (drop l.place l.key) (drop l.place l.name) ≡ is_key l.key l.name)
