use Rattle.std.proofs.Common.{rules, ◌≡◌, [], Some, subst, sym}
use Rattle.std.specs.List.{All}
use Rattle.charged_heap.specs.Closed.{IsSoundBinding}
use Rattle.js_scopes.specs.Lists.{with_parameters, with_declared}
use Rattle.js_scopes.proofs.NewScopes.{bindings_sound, scope_throws_nothing}
use Rattle.js_scopes.proofs.form_scopes.make_inside.Goals as goal

pub returns-clause-closed : goal.returns-clause-closed
returns-clause-closed c =
    let e : c.in_ok-bindings.bindings ≡ with_declared (with_parameters [] c.args.parameters.now) c.args.declared.now = search rules in
    λ closed. c.make_scope.ensures.closed closed
    (subst (All (IsSoundBinding c.args.heap.now)) (sym e) (bindings_sound c.args.heap.now c.args.parameters.now c.args.declared.now))

pub returns-clause-thrown : goal.returns-clause-thrown
returns-clause-thrown c =
    scope_throws_nothing (Some c.args.parent) c.in_ok-bindings.bindings c.args.heap.now c.make_scope.new.heap c.make_scope.result c.make_scope.ensures.gives
