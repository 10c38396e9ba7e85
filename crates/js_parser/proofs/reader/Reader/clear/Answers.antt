use Rattle.std.proofs.Common.{refl}
use Rattle.parser_rules.specs.Work as work
use Rattle.parser_rules.specs.Rules as rules
use Rattle.js_parser.specs.State.{state_of}
use Rattle.js_parser.proofs.Steps as steps
use Rattle.js_parser.proofs.reader.Reader.clear.Goals as goal

pub returns-in-None : goal.returns-in-None
unfolding state_of
returns-in-None c = steps.act_open c.args.self.now rules.clear c.clear.new.self work.cleared c.in-None.is c.clear.ensures refl

pub returns-in-Some : goal.returns-in-Some
returns-in-Some c = steps.act_stuck c.args.self.now rules.clear _ c.in-Some.is
