use Rattle.std.proofs.Common.{ap, arith, length, subst}
use Rattle.js_syntax.specs.Shape.{AreBelow}
use Rattle.js_parser.proofs.Below.{below_more}
use Rattle.js_parser.proofs.nodes.Nodes.add.Goals as goal

pub invariant_of-self-2 : goal.invariant_of-self-2
invariant_of-self-2 c =
    rw c.in_ok-push.ensures.ok
    (below_more 0 c.self.inside.nodes c.args.node c.self.invariant (subst (AreBelow c.args.node.kids) (omega (arith, ap length c.self.view_is)) c.requires))
