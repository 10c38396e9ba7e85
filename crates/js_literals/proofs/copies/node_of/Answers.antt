use Rattle.std.proofs.Common.{ℕ, List, [], length, sym, ap, ◌∙◌, subst, arith}
use Rattle.std.specs.Map.{values_of}
use Rattle.ivm_text.specs.KeyOrder.{key_order}
use Rattle.js_literals.specs.Copies.{Tree, is_array, is_object, leaves_from, pairs_from}
use Rattle.js_literals.specs.View.{tree_at, trees_at, pairs_at, Mentions, IsNumber, AreNumbers, HaveNumbers}
use Rattle.js_literals.proofs.Nodes.{stands}
use Rattle.js_literals.proofs.Naturals.{kids_numbers}
use Rattle.js_literals.proofs.PairLemmas.{All-given}
use Rattle.js_literals.proofs.KindLemmas.{array_node, array_members, object_node, object_members, text_node, text_mentions, properties_at}
use Rattle.js_literals.proofs.copies.node_of.Goals as goal

pub leaves_by_key-requires-clause-numbers : goal.leaves_by_key-requires-clause-numbers
leaves_by_key-requires-clause-numbers c =
    let node = c.node-node.result.now in
    let s = stands c.args.script.now c.args.number node c.node-node.ensures.node c.node-node.ensures.kids in
    subst (λ (es : List (List ℕ × ℕ)). HaveNumbers c.args.script.now es) (sym c.in_ok-entries.ensures.entries)
    (All-given (IsNumber c.args.script.now) node.names node.kids [] (kids_numbers c.args.script.now c.args.number node s c.node-node.ensures.kids c.requires.within c.requires.naturals) (λ k d out. absurd (omega arith)))

pub returns-in_ok-elements-clause-node : goal.returns-in_ok-elements-clause-node
returns-in_ok-elements-clause-node c =
    let nodes = c.args.script.now in
    let s = stands nodes c.args.number c.node-node.result.now c.node-node.ensures.node c.node-node.ensures.kids in
    array_node _ (tree_at nodes c.args.number) _ (ap is_array s.kind ∙ sym c.is_array.ensures ∙ c.if-is_array.true)
    (c.in_ok-elements.ensures.leaves ∙ ap (leaves_from (length c.args.mentioned.now)) (sym (s.parts ∙ ap (trees_at nodes) (sym c.as_slice.ensures.items))))

pub returns-in_ok-elements-clause-mentioned : goal.returns-in_ok-elements-clause-mentioned
returns-in_ok-elements-clause-mentioned c =
    let nodes = c.args.script.now in
    let s = stands nodes c.args.number c.node-node.result.now c.node-node.ensures.node c.node-node.ensures.kids in
    subst (λ (ts : List Tree). Mentions nodes ts c.args.mentioned.now c.leaves_of.new.mentioned)
    (sym (array_members (tree_at nodes c.args.number) (ap is_array s.kind ∙ sym c.is_array.ensures ∙ c.if-is_array.true) ∙ s.parts ∙ ap (trees_at nodes) (sym c.as_slice.ensures.items)))
    c.in_ok-elements.ensures.mentioned

pub returns-in_ok-properties-clause-node : goal.returns-in_ok-properties-clause-node
returns-in_ok-properties-clause-node c =
    let nodes = c.args.script.now in
    let s = stands nodes c.args.number c.node-node.result.now c.node-node.ensures.node c.node-node.ensures.kids in
    object_node _ (tree_at nodes c.args.number) _ (ap is_array s.kind ∙ sym c.is_array.ensures ∙ c.if-is_array.false) (ap is_object s.kind ∙ sym c.is_object.ensures ∙ c.if-is_object.true)
    (c.in_ok-properties.ensures.pairs ∙ ap (pairs_from (length c.args.mentioned.now))
    (ap (λ (es : List (List ℕ × ℕ)). pairs_at nodes (key_order es)) c.in_ok-entries.ensures.entries ∙ properties_at nodes c.args.number c.node-node.result.now s))

pub returns-in_ok-properties-clause-mentioned : goal.returns-in_ok-properties-clause-mentioned
returns-in_ok-properties-clause-mentioned c =
    let nodes = c.args.script.now in
    let s = stands nodes c.args.number c.node-node.result.now c.node-node.ensures.node c.node-node.ensures.kids in
    subst (λ (ts : List Tree). Mentions nodes ts c.args.mentioned.now c.leaves_by_key.new.mentioned)
    (ap values_of (ap (λ (es : List (List ℕ × ℕ)). pairs_at nodes (key_order es)) c.in_ok-entries.ensures.entries ∙ properties_at nodes c.args.number c.node-node.result.now s)
    ∙ sym (object_members (tree_at nodes c.args.number) (ap is_array s.kind ∙ sym c.is_array.ensures ∙ c.if-is_array.false) (ap is_object s.kind ∙ sym c.is_object.ensures ∙ c.if-is_object.true)))
    c.in_ok-properties.ensures.mentioned

pub returns-in_ok-text-clause-node : goal.returns-in_ok-text-clause-node
returns-in_ok-text-clause-node c =
    let nodes = c.args.script.now in
    let s = stands nodes c.args.number c.node-node.result.now c.node-node.ensures.node c.node-node.ensures.kids in
    text_node _ (tree_at nodes c.args.number) _ _ (ap is_array s.kind ∙ sym c.is_array.ensures ∙ c.if-is_array.false) (ap is_object s.kind ∙ sym c.is_object.ensures ∙ c.if-is_object.false) s.name c.in_ok-text.ensures

pub returns-in_ok-text-clause-mentioned : goal.returns-in_ok-text-clause-mentioned
returns-in_ok-text-clause-mentioned c =
    let nodes = c.args.script.now in
    let s = stands nodes c.args.number c.node-node.result.now c.node-node.ensures.node c.node-node.ensures.kids in
    text_mentions nodes (tree_at nodes c.args.number) c.args.mentioned.now (ap is_array s.kind ∙ sym c.is_array.ensures ∙ c.if-is_array.false) (ap is_object s.kind ∙ sym c.is_object.ensures ∙ c.if-is_object.false)

pub leaves_of-requires : goal.leaves_of-requires
leaves_of-requires c =
    let nodes = c.args.script.now in
    let s = stands nodes c.args.number c.node-node.result.now c.node-node.ensures.node c.node-node.ensures.kids in
    subst (λ (ks : List ℕ). AreNumbers nodes ks) (sym c.as_slice.ensures.items) (kids_numbers nodes c.args.number c.node-node.result.now s c.node-node.ensures.kids c.requires.within c.requires.naturals)
