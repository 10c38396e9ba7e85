use Rattle.grammar_laws.proofs.Formed.{arguments_formed}
use Rattle.grammar_laws.proofs.laws.arguments_are_formed.Goals as goal

pub returns : goal.returns
returns c = arguments_formed
