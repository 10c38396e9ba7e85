use Rattle.std.proofs.Common.{Some}
use Rattle.js_scopes.proofs.NewScopes.{scope_throws_nothing}
use Rattle.js_scopes.proofs.form_scopes.one_name.Goals as goal

pub returns-clause-thrown : goal.returns-clause-thrown
returns-clause-thrown c =
    scope_throws_nothing (Some c.args.parent) c.add_binding.new.bindings c.args.heap.now c.make_scope.new.heap c.make_scope.result c.make_scope.ensures.gives
