use Rattle.std.proofs.Common.{ℤ, neg_ℤ, List, ap, sym, subst, ◌∙◌}
use Rattle.ivm_text.specs.declared.copies.Leaf.TheVariants as leaves
use Rattle.js_literals.specs.View.{trees_at, AreNumbers}
use Rattle.js_literals.proofs.Nodes.{stands}
use Rattle.js_literals.proofs.Firsts.{first_there, first_missing}
use Rattle.js_literals.proofs.Naturals.{kids_numbers, own_natural}
use Rattle.js_literals.proofs.copies.negative.Goals as goal

pub negated-requires : goal.negated-requires
negated-requires c =
    let nodes = c.args.script.now in
    let s = stands nodes c.args.number c.node.result.now c.node.ensures.node c.node.ensures.kids in
    let kid = stands nodes _ c.node-in-len1-up.result.now c.node-in-len1-up.ensures.node c.node-in-len1-up.ensures.kids in
    let all = subst (λ (ks : List _). AreNumbers nodes ks) (sym c.as_slice.ensures.items) (kids_numbers nodes c.args.number c.node.result.now s c.node.ensures.kids c.requires.within c.requires.naturals) in
    own_natural nodes _ c.node-in-len1-up.result.now kid ((all 0 0 c.in-len1-up.len_at_least).1)

pub returns-in-empty : goal.returns-in-empty
returns-in-empty c =
    let s = stands c.args.script.now c.args.number c.node.result.now c.node.ensures.node c.node.ensures.kids in
    ap (λ (z : ℤ). leaves.Num (neg_ℤ z)) (sym (first_missing c.args.script.now c.as_slice.result.now _ (s.parts ∙ ap (trees_at c.args.script.now) (sym c.as_slice.ensures.items)) c.in-empty.len_below))

pub returns-in-len1-up : goal.returns-in-len1-up
returns-in-len1-up c =
    let s = stands c.args.script.now c.args.number c.node.result.now c.node.ensures.node c.node.ensures.kids in
    let kid = stands c.args.script.now _ c.node-in-len1-up.result.now c.node-in-len1-up.ensures.node c.node-in-len1-up.ensures.kids in
    c.negated.ensures ∙ ap (λ (z : ℤ). leaves.Num (neg_ℤ z)) (sym (first_there c.args.script.now c.as_slice.result.now _ c.node-in-len1-up.result.now (s.parts ∙ ap (trees_at c.args.script.now) (sym c.as_slice.ensures.items)) c.in-len1-up.len_at_least kid))
