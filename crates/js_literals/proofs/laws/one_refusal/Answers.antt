use Rattle.js_literals.proofs.OneRefusal.{has_one_refusal}
use Rattle.js_literals.proofs.laws.one_refusal.Goals as goal

pub returns : goal.returns
returns c = has_one_refusal
