use Rattle.std.proofs.Common.{◌≡◌, take}
use Rattle.js_scopes.proofs.bindings.copy_all.Given as goal

abbrev pub invariant-loop-binding : goal.invariant-loop-binding
invariant-loop-binding l = l.copy ≡ take l.binding-index l.bindings
