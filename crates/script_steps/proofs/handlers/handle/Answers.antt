use Rattle.std.proofs.Common.{rules, ◌≡◌, ◌≢◌, ◌∙◌, Err, ap, sym}
use Rattle.charged_heap.specs.declared.fault.Fail.TheVariants.{NoMemory, Over, Throw}
use Rattle.js_trees.specs.Tree.{kid}
use Rattle.js_scopes.specs.Lists.{catch_scope}
use Rattle.script_meaning.specs.Handlers.{try_end}
use Rattle.script_meaning.specs.Places.{form_at}
use Rattle.script_steps.specs.After.{after, with_left}
use Rattle.script_steps.proofs.HandlerLemmas.{catch_refused}
use Rattle.script_steps.proofs.handlers.handle.Goals as goal

pub returns-in-Err-Throw-clause-step : goal.returns-in-Err-Throw-clause-step
unfolding after
returns-in-Err-Throw-clause-step c =
    let is : c.catch_scope.result ≡ Err (Throw c.in-Err-Throw.value) = search rules in
    let found : c.catch_scope.result ≢ Err NoMemory = λ none. cc in
    let e : catch_scope c.args.site.scope c.in-Some.name.now c.args.thrown c.args.heap.now ≡ (Err (Throw c.in-Err-Throw.value), c.catch_scope.new.heap)
    = rw is at (c.catch_scope.ensures.meets found) in
    λ some at left. c.finish.ensures.step at (with_left c.catch_scope.new.heap left)
    ∙ sym (ap (try_end at (form_at c.args.scripts.now c.args.site.script c.args.node) c.args.site)
    (catch_refused at (form_at c.args.scripts.now c.args.site.script c.args.node) (kid 1 (form_at c.args.scripts.now c.args.site.script c.args.node).kids)
    c.in-Some.name.now c.args.site c.args.thrown c.args.heap.now c.catch_scope.new.heap left (Throw c.in-Err-Throw.value) c.in-Some.ensures e))

pub returns-in-Err-Over-clause-step : goal.returns-in-Err-Over-clause-step
unfolding after
returns-in-Err-Over-clause-step c =
    let is : c.catch_scope.result ≡ Err (Over c.in-Err-Over.overrun) = search rules in
    let found : c.catch_scope.result ≢ Err NoMemory = λ none. cc in
    let e : catch_scope c.args.site.scope c.in-Some.name.now c.args.thrown c.args.heap.now
    ≡ (Err (Over c.in-Err-Over.overrun), c.catch_scope.new.heap) = rw is at (c.catch_scope.ensures.meets found) in
    λ some at left. c.finish-in-Err-Over.ensures.step at (with_left c.catch_scope.new.heap left)
    ∙ sym (ap (try_end at (form_at c.args.scripts.now c.args.site.script c.args.node) c.args.site)
    (catch_refused at (form_at c.args.scripts.now c.args.site.script c.args.node) (kid 1 (form_at c.args.scripts.now c.args.site.script c.args.node).kids)
    c.in-Some.name.now c.args.site c.args.thrown c.args.heap.now c.catch_scope.new.heap left
    (Over c.in-Err-Over.overrun) c.in-Some.ensures e))
