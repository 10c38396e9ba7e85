use Rattle.std.proofs.Common.{◌≡◌, take}
use Rattle.ivm_text.specs.Text.{encode_utf16_all}
use Rattle.ivm_text.proofs.units.Units.from_chars.Given as goal

abbrev pub invariant-loop-c : goal.invariant-loop-c
invariant-loop-c l = l.units.items ≡ encode_utf16_all (take l.c-index l.chars)
