use Rattle.js_parser.proofs.Whole.{whole_trees}
use Rattle.js_parser.proofs.laws.accepted_trees_are_whole.Goals as goal

pub returns : goal.returns
returns c = whole_trees c.scripts_are_formed.ensures c.literals_are_formed.ensures c.arguments_are_formed.ensures
