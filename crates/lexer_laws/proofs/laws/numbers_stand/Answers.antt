use Rattle.lexer_laws.proofs.NumeralLemmas.{number_there}
use Rattle.lexer_laws.proofs.laws.numbers_stand.Goals as goal

pub returns : goal.returns
returns c = number_there
