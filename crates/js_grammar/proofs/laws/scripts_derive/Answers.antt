use Rattle.js_grammar.proofs.Grammar.{scripts_same}
use Rattle.js_grammar.proofs.laws.scripts_derive.Goals as goal

pub returns : goal.returns
returns c = scripts_same
