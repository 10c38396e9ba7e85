use Rattle.lexer_laws.proofs.EscapeLemmas.{escape_there}
use Rattle.lexer_laws.proofs.laws.escapes_stand.Goals as goal

pub returns : goal.returns
returns c = escape_there
