use Rattle.js_grammar.proofs.FirstBad.{arguments_once}
use Rattle.js_grammar.proofs.laws.arguments_have_one_refusal.Goals as goal

pub returns : goal.returns
returns c = arguments_once
