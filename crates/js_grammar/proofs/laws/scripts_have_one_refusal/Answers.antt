use Rattle.js_grammar.proofs.FirstBad.{scripts_once}
use Rattle.js_grammar.proofs.laws.scripts_have_one_refusal.Goals as goal

pub returns : goal.returns
returns c = scripts_once
