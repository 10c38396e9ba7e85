use Rattle.js_literals.proofs.OneValue.{has_one_value}
use Rattle.js_literals.proofs.laws.one_value.Goals as goal

pub returns : goal.returns
returns c = has_one_value
