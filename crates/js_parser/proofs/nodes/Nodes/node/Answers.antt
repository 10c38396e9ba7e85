use Rattle.std.proofs.Common.{◌≡◌, Some, ap, arith, get_or, length, refl, slice_get, subst}
use Rattle.std.proofs.lemmas.Option.{slice_get_read}
use Rattle.js_syntax.specs.Shape.{AreBelow}
use Rattle.js_parser.proofs.Below.{below_at}
use Rattle.js_parser.proofs.nodes.Nodes.node.Goals as goal

pub returns-clause-kids : goal.returns-clause-kids
returns-clause-kids c =
    let node = c.index-as_slice-number.result in
    let read : node ≡ get_or c.self.inside.nodes c.args.number node = rw c.as_slice.ensures.items at c.index-as_slice-number.is in
    let here : slice_get c.self.inside.nodes c.args.number ≡ Some node = slice_get_read c.self.inside.nodes (length c.self.inside.nodes) c.args.number node refl (omega (arith, ap length c.self.view_is, c.requires)) read in
    subst (AreBelow node.kids) (omega arith) (below_at 0 c.self.inside.nodes c.args.number node c.self.invariant here)
