use Rattle.js_grammar.proofs.FirstBad.{literals_first}
use Rattle.js_grammar.proofs.laws.literals_have_a_first_bad_token.Goals as goal

pub returns : goal.returns
returns c = literals_first
