use Rattle.std.proofs.Common.{List, ap}
use Rattle.js_lexer.specs.declared.token.Token.{Token}
use Rattle.parser_rules.specs.Work as work
use Rattle.parser_rules.specs.Rules as rules
use Rattle.js_parser.specs.State.{rest_of, state_of}
use Rattle.js_parser.specs.Changes.{work_in}
use Rattle.js_parser.proofs.Steps as steps
use Rattle.js_parser.proofs.Works.{ok_map}
use Rattle.js_parser.proofs.reader.Reader.declare.Goals as goal

pub returns-in-None : goal.returns-in-None
unfolding state_of
returns-in-None c = ok_map c.declare_by.result
    (λ _ e. steps.act_open c.args.self.now rules.declare c.declare_by.new.self (work.declared_by c.behind-rest.result.now) c.in-None.is e (ap (λ (ts : List Token). work.declared_by ts (work_in (rest_of c.args.self.now) c.args.self.now.builder)) c.behind-rest.ensures))
    c.declare_by.ensures

pub returns-in-Some : goal.returns-in-Some
returns-in-Some c = steps.act_stuck c.args.self.now rules.declare _ c.in-Some.is
