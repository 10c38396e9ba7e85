use Rattle.js_parser.proofs.Steps as steps
use Rattle.js_parser.proofs.reader.Reader.take_where.Goals as goal

pub returns-in-None : goal.returns-in-None
returns-in-None c = c.take_next.ensures

pub returns-in-Some : goal.returns-in-Some
returns-in-Some c = λ test e. steps.take_stuck c.args.self.now test _ c.in-Some.is
