use Rattle.grammar_laws.proofs.Formed.{scripts_formed}
use Rattle.grammar_laws.proofs.laws.scripts_are_formed.Goals as goal

pub returns : goal.returns
returns c = scripts_formed
