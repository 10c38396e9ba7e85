use Rattle.std.proofs.Common.{List, ℕ, Some, sym, ap, ◌∙◌}
use Rattle.js_literals.proofs.Nodes.{stands}
use Rattle.js_literals.proofs.Names as names
use Rattle.js_literals.proofs.literals.name_at.Goals as goal

pub unwrap-name-requires : goal.unwrap-name-requires
unwrap-name-requires c =
    let s = stands c.args.script.now c.args.number c.node.result.now c.node.ensures.node c.node.ensures.kids in
    names.name_there c.as_ref.result _ _ c.requires.named.0 c.as_ref.ensures.value s.name c.requires.named.1

pub returns : goal.returns
returns c =
    let s = stands c.args.script.now c.args.number c.node.result.now c.node.ensures.node c.node.ensures.kids in
    names.name_is c.as_ref.result c.unwrap-name.result _ _ c.unwrap-name.ensures c.as_ref.ensures.value s.name ∙ ap (λ (n : List ℕ). Some n) (sym c.in_ok-clone_whole.ensures)
