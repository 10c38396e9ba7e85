use Rattle.js_parser.proofs.Works as works
use Rattle.js_parser.proofs.builder.Builder.clear.Goals as goal

pub returns : goal.returns
returns c = λ rest. works.cleared_work rest c.args.self.now.nodes c.args.self.now.top c.args.self.now.below c.new.result c.new.ensures
