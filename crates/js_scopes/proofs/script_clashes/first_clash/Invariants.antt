use Rattle.std.proofs.Common.{◌≡◌, drop}
use Rattle.js_scopes.specs.Scripts.{clash_among}
use Rattle.js_scopes.proofs.script_clashes.first_clash.Given as goal

abbrev pub invariant-loop-declaration : goal.invariant-loop-declaration
invariant-loop-declaration l = clash_among l.names l.heap (drop l.declaration-index l.declared) ≡ clash_among l.names l.heap l.declared
