use Rattle.std.proofs.Common.{◌≡◌, drop}
use Rattle.js_scopes.specs.Lists.{with_declared}
use Rattle.js_scopes.proofs.list_names.add_declarations.Given as goal

abbrev pub invariant-loop-declaration : goal.invariant-loop-declaration
invariant-loop-declaration l =
    with_declared l.bindings (drop l.declaration-index l.declared) ≡ with_declared l.initial.bindings l.declared
