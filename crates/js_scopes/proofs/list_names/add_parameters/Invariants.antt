use Rattle.std.proofs.Common.{◌≡◌, drop}
use Rattle.js_scopes.specs.Lists.{with_parameters}
use Rattle.js_scopes.proofs.list_names.add_parameters.Given as goal

abbrev pub invariant-loop-name : goal.invariant-loop-name
invariant-loop-name l = with_parameters l.bindings (drop l.name-index l.parameters) ≡ with_parameters l.initial.bindings l.parameters
