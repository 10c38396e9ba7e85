use Rattle.std.proofs.Common.{List, subst}
use Rattle.js_literals.specs.Copies.{Tree}
use Rattle.js_literals.specs.View.{AreFit}
use Rattle.js_literals.proofs.Derived as derived
use Rattle.js_literals.proofs.literals.arguments.Goals as goal

pub parts_of-requires : goal.parts_of-requires
parts_of-requires c = derived.arguments_naturals c.args.text.now _ c.in_ok-script.ensures.ok

pub arguments_of-requires-clause-fit : goal.arguments_of-requires-clause-fit
arguments_of-requires-clause-fit c = subst (λ (ts : List Tree). AreFit ts) c.parts_of.ensures.parts (derived.arguments_fit c.args.text.now _ c.in_ok-script.ensures.ok)
