use Rattle.std.proofs.Common.{sym, ap, ◌∙◌}
use Rattle.js_literals.specs.Told.{form_of_name}
use Rattle.js_literals.proofs.Nodes.{stands}
use Rattle.js_literals.proofs.Names as names
use Rattle.js_literals.proofs.literals.form_at.Goals as goal

pub unwrap-word-requires : goal.unwrap-word-requires
unwrap-word-requires c =
    let s = stands c.args.script.now c.args.number c.node.result.now c.node.ensures.node c.node.ensures.kids in
    names.form_there c.as_ref.result _ _ c.requires.passes.0 c.as_ref.ensures.value s.name c.requires.passes.1

pub unwrap-requires : goal.unwrap-requires
unwrap-requires c =
    let s = stands c.args.script.now c.args.number c.node.result.now c.node.ensures.node c.node.ensures.kids in
    names.is_there c.form_named.result c.requires.passes.0
    (c.form_named.ensures ∙ sym (ap form_of_name (names.name_is c.as_ref.result c.unwrap-word.result _ _ c.unwrap-word.ensures c.as_ref.ensures.value s.name)) ∙ c.requires.passes.1)

pub returns : goal.returns
returns c =
    let s = stands c.args.script.now c.args.number c.node.result.now c.node.ensures.node c.node.ensures.kids in
    ap form_of_name (names.name_is c.as_ref.result c.unwrap-word.result _ _ c.unwrap-word.ensures c.as_ref.ensures.value s.name) ∙ sym c.form_named.ensures ∙ c.unwrap.ensures
