use Rattle.std.proofs.Common.{◌≡◌, ◌∙◌, ◌++◌, ◌∷◌, [], false, ap}
use Rattle.std.specs.Prelude.{is_some}
use Rattle.charged_heap.specs.Bindings.{place_of}
use Rattle.js_scopes.specs.Bindings.{new_binding}
use Rattle.js_scopes.proofs.Distinct.{distinct_pushed}
use Rattle.js_scopes.proofs.bindings.add_binding.Goals as goal

pub returns-clause-distinct : goal.returns-clause-distinct
returns-clause-distinct c =
    let none : is_some (place_of c.args.bindings.now c.args.name.now) ≡ false = cc in
    let pushed : c.push.new.self ≡ c.args.bindings.now ++ new_binding c.args.name.now c.args.constant ∷ [] =
    c.in_ok-push.ensures.ok ∙ ap (λ name. c.args.bindings.now ++ new_binding name c.args.constant ∷ []) c.in_ok-clone_whole.ensures in
    distinct_pushed c.args.bindings.now c.push.new.self c.args.name.now c.args.constant none pushed
