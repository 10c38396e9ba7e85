use Rattle.js_grammar.proofs.FirstBad.{arguments_first}
use Rattle.js_grammar.proofs.laws.arguments_have_a_first_bad_token.Goals as goal

pub returns : goal.returns
returns c = arguments_first
