use Rattle.std.proofs.Common.{◌<◌, length, ap, arith}
use Rattle.js_syntax.specs.Tree.{Trees, IsTreeOf}
use Rattle.js_syntax.proofs.NotedLemmas.{root_tree}
use Rattle.js_syntax.proofs.TreeLemmas.{tree_unique}
use Rattle.js_syntax.proofs.script.Script.one_tree.Goals as goal

pub returns-clause-tree : goal.returns-clause-tree
returns-clause-tree c =
    let some : 0 < length c.self.inside.nodes = omega (arith, ap length c.self.view_is, c.requires) in
    let found : (t : Trees) × IsTreeOf c.self.inside.nodes t = root_tree c.self.inside.nodes c.self.inside.noted c.self.invariant.1 some in
    rw c.self.view_is at found

pub returns-clause-one : goal.returns-clause-one
returns-clause-one c = λ s t. tree_unique c.args.self.now s t
