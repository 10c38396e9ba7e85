use Rattle.js_grammar.proofs.Grammar.{arguments_same}
use Rattle.js_grammar.proofs.laws.arguments_derive.Goals as goal

pub returns : goal.returns
returns c = arguments_same
