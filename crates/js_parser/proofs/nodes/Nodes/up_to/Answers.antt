use Rattle.std.proofs.Common.{◌+◌}
use Rattle.js_parser.proofs.Below.{below_first}
use Rattle.js_parser.proofs.nodes.Nodes.up_to.Goals as goal

pub invariant_of-result : goal.invariant_of-result
invariant_of-result c =
    rw (c.from_vec.ensures, c.truncate.ensures.items, c.into_vec-nodes.ensures) (below_first 0 (c.args.last + 1) c.self.inside.nodes c.self.invariant)
