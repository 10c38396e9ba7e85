use Rattle.grammar_laws.proofs.Formed.{literals_formed}
use Rattle.grammar_laws.proofs.laws.literals_are_formed.Goals as goal

pub returns : goal.returns
returns c = literals_formed
