use Rattle.std.proofs.Common.{rules, ◌≡◌, ◌∙◌, Err, ap}
use Rattle.script_meaning.specs.declared.completion.Abrupt.TheVariants.{Continue}
use Rattle.script_meaning.specs.Statements.{latest}
use Rattle.script_steps.specs.After.{with_left}
use Rattle.script_steps.proofs.LoopLemmas.{body_ended, body_continued}
use Rattle.script_steps.proofs.loops.loop_body.Goals as goal

pub returns-in-Ok-clause-step : goal.returns-in-Ok-clause-step
returns-in-Ok-clause-step c = λ some at takes left.
    rw c.in-Ok.is (c.next_round.ensures.step some at takes left
    ∙ body_ended at c.args.scripts.now c.args.parts c.args.last c.latest-last.result c.args.site c.in-Ok.end (with_left c.args.heap.now left)
    (c.latest-last.ensures ∙ ap (λ v. latest v c.args.last) c.value_in.ensures.value))

pub returns-in-Err-Continue-clause-step : goal.returns-in-Err-Continue-clause-step
returns-in-Err-Continue-clause-step c =
    let e : c.args.end ≡ Err (Continue c.in-Err-Continue.value) = search rules in
    λ some at takes left. rw e (c.next_round-in-Err-Continue.ensures.step some at takes left
    ∙ body_continued at c.args.scripts.now c.args.parts c.args.last c.latest-last-in-Err-Continue.result c.args.site c.in-Err-Continue.value (with_left c.args.heap.now left)
    c.latest-last-in-Err-Continue.ensures)
