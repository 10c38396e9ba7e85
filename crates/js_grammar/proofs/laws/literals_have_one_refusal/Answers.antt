use Rattle.js_grammar.proofs.FirstBad.{literals_once}
use Rattle.js_grammar.proofs.laws.literals_have_one_refusal.Goals as goal

pub returns : goal.returns
returns c = literals_once
