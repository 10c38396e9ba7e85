use Rattle.std.proofs.Common.{ℕ, ap, ◌∙◌}
use Rattle.js_syntax.specs.declared.kind.Kind.{Kind}
use Rattle.parser_rules.specs.declared.class.Class.{Class}
use Rattle.parser_rules.specs.Work as work
use Rattle.parser_rules.specs.Rules as rules
use Rattle.js_parser.specs.State.{rest_of, state_of}
use Rattle.js_parser.specs.Changes.{work_in}
use Rattle.js_parser.proofs.Steps as steps
use Rattle.js_parser.proofs.Works.{ok_map}
use Rattle.js_parser.proofs.reader.Reader.open_prefix.Goals as goal

pub returns-in-None : goal.returns-in-None
unfolding state_of
returns-in-None c = ok_map c.open.result
    (λ _ e. steps.act_open c.args.self.now rules.open_prefix c.open.new.self (work.opened_at c.prefix_kind.result c.place-place.result) c.in-None.is e (ap (λ (p : ℕ). work.opened_at c.prefix_kind.result p (work_in (rest_of c.args.self.now) c.args.self.now.builder)) c.place-place.ensures ∙ ap (λ (k : Kind). work.opened k (work_in (rest_of c.args.self.now) c.args.self.now.builder)) (c.prefix_kind.ensures ∙ ap (λ (k : Class). rules.prefix_kind k) c.args.self.now.in_view)))
    c.open.ensures.work

pub returns-in-Some : goal.returns-in-Some
returns-in-Some c = steps.act_stuck c.args.self.now rules.open_prefix _ c.in-Some.is
