use Rattle.std.proofs.Common.{ap, ◌∙◌}
use Rattle.js_syntax.specs.declared.kind.Kind.{Kind}
use Rattle.parser_rules.specs.declared.class.Class.{Class}
use Rattle.parser_rules.specs.Work as work
use Rattle.parser_rules.specs.Rules as rules
use Rattle.js_parser.specs.State.{rest_of, state_of}
use Rattle.js_parser.specs.Changes.{work_in}
use Rattle.js_parser.proofs.Steps as steps
use Rattle.js_parser.proofs.Works.{ok_map}
use Rattle.js_parser.proofs.reader.Reader.precede_operator.Goals as goal

pub returns-in-None : goal.returns-in-None
unfolding state_of
returns-in-None c = ok_map c.precede.result
    (λ _ e. steps.act_open c.args.self.now rules.precede_operator c.precede.new.self (work.preceded c.operator_kind.result) c.in-None.is e (ap (λ (k : Kind). work.preceded k (work_in (rest_of c.args.self.now) c.args.self.now.builder)) (c.operator_kind.ensures ∙ ap (λ (k : Class). rules.operator_kind k) c.args.self.now.in_view)))
    c.precede.ensures

pub returns-in-Some : goal.returns-in-Some
returns-in-Some c = steps.act_stuck c.args.self.now rules.precede_operator _ c.in-Some.is
