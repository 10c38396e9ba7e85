use Rattle.js_grammar.proofs.FirstBad.{scripts_first}
use Rattle.js_grammar.proofs.laws.scripts_have_a_first_bad_token.Goals as goal

pub returns : goal.returns
returns c = scripts_first
