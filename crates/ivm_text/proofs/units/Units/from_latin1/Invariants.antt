use Rattle.std.proofs.Common.{◌≡◌, take}
use Rattle.ivm_text.proofs.units.Units.from_latin1.Given as goal

abbrev pub invariant-loop-byte : goal.invariant-loop-byte
invariant-loop-byte l = l.units.items ≡ take l.byte-index l.bytes
