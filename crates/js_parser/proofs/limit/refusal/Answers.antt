use Rattle.std.proofs.Common.{sym, ◌∙◌}
use Rattle.js_parser.specs.State.{rest_of}
use Rattle.js_parser.proofs.Steps as steps
use Rattle.js_parser.proofs.limit.refusal.Goals as goal

pub returns-in_ok-word_of-in-Some : goal.returns-in_ok-word_of-in-Some
returns-in_ok-word_of-in-Some c = steps.refusal_here c.args.end c.args.why (rest_of c.args.reader.now) (c.in-Some.ensures.0) c.in-Some.token.now c.args.reader.now.class _ _ (sym c.behind.ensures ∙ c.in-Some.ensures.1) c.args.reader.now.in_view
    c.kind_of.ensures c.in_ok-word_of-in-Some.ensures

pub returns-in-None : goal.returns-in-None
returns-in-None c = steps.refusal_at_end c.args.end c.args.why (rest_of c.args.reader.now) _ (sym c.behind.ensures ∙ c.in-None.ensures) c.kind_of-in-None.ensures
