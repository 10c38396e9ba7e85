use Rattle.js_parser.specs.State.{state_of}
use Rattle.js_parser.proofs.Steps as steps
use Rattle.js_parser.proofs.reader.Reader.refuse.Goals as goal

pub returns-in-None : goal.returns-in-None
unfolding state_of
returns-in-None c = steps.refused_here c.args.self.now c.in-None.is

pub returns-in-Some : goal.returns-in-Some
returns-in-Some c = steps.refused_stuck c.args.self.now _ c.in-Some.is
