use Rattle.std.proofs.Common.{refl}
use Rattle.parser_rules.specs.Work as work
use Rattle.parser_rules.specs.Rules as rules
use Rattle.js_parser.specs.State.{state_of}
use Rattle.js_parser.proofs.Steps as steps
use Rattle.js_parser.proofs.Works.{ok_map}
use Rattle.js_parser.proofs.reader.Reader.unwrap.Goals as goal

pub returns-in-None : goal.returns-in-None
unfolding state_of
returns-in-None c = ok_map c.unwrap.result
    (λ _ e. steps.act_open c.args.self.now rules.unwrap c.unwrap.new.self work.unwrapped c.in-None.is e refl)
    c.unwrap.ensures

pub returns-in-Some : goal.returns-in-Some
returns-in-Some c = steps.act_stuck c.args.self.now rules.unwrap _ c.in-Some.is
