use Rattle.std.proofs.Common.{◌∙◌, ap, sym}
use Rattle.script_meaning.specs.Places.{form_at}
use Rattle.script_steps.specs.After.{step_out, with_left}
use Rattle.script_steps.proofs.CallLemmas.{function_named}
use Rattle.script_steps.proofs.functions.function.Goals as goal

pub returns-in-Some-clause-step : goal.returns-in-Some-clause-step
returns-in-Some-clause-step c = λ some at left.
    ap (λ step. step_out at c.args.scripts.now step (with_left c.make_named.new.heap left)) c.of_heap.ensures.step
    ∙ c.make_named.ensures.step c.args.scripts.now (λ none. some (c.of_heap.ensures.step ∙ none)) at left
    ∙ sym (function_named (form_at c.args.scripts.now c.args.site.script c.args.node) c.in-Some.name.now c.args.node c.args.site
    (with_left c.args.heap.now left) c.in-Some.ensures c.requires.itself)
