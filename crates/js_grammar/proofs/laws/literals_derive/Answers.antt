use Rattle.js_grammar.proofs.Grammar.{literals_same}
use Rattle.js_grammar.proofs.laws.literals_derive.Goals as goal

pub returns : goal.returns
returns c = literals_same
