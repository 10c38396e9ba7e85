use Rattle.std.proofs.Common.{◌≡◌, ℕ, ◌+◌, ◌<◌, ◌∷◌, [], List, length, take, drop, get_or, sym, ap, ◌∙◌, subst, arith}
use Rattle.std.specs.Prelude.{flat_map}
use Rattle.std.proofs.lemmas.List.{length-map, length-append}
use Rattle.js_literals.specs.Copies.{inner_nodes, nodes_from}
use Rattle.js_literals.specs.View.{tree_at, trees_at}
use Rattle.js_literals.proofs.Weights.{weights}
use Rattle.js_literals.proofs.Orders.{order_goes, nodes_go, order_falls, tree_there}
use Rattle.js_literals.proofs.copies.nodes_of.Goals as goal

pub loop-alloc-smaller : goal.loop-alloc-smaller
loop-alloc-smaller c =
    let nodes = c.args.script.now in
    let m = c.loop-alloc.mentioned in
    let i = length c.loop-alloc.nodes in
    let number = get_or c.as_slice.result.now c.len-in-loop-alloc-2.result 0 in
    let h : i < length m = omega arith in
    let here : number ≡ get_or m i 0 = ap (λ (xs : List ℕ). get_or xs c.len-in-loop-alloc-2.result 0) c.as_slice.ensures.items ∙ ap (λ (k : ℕ). get_or m k 0) c.len-in-loop-alloc-2.ensures in
    let longer : length c.push-in-loop-alloc.new.self ≡ i + 1 = ap length c.in_ok-push-2.ensures.ok ∙ length-append c.loop-alloc.nodes (c.in_ok-node.node ∷ []) in
    subst (λ (k : ℕ). weights (drop k (trees_at nodes c.node_of.new.mentioned)) < weights (drop i (trees_at nodes m))) (sym longer)
    (order_falls (tree_at nodes number) (trees_at nodes m) (trees_at nodes c.node_of.new.mentioned) i c.in_ok-node.ensures.mentioned.order
    (omega (arith, h, length-map m (tree_at nodes))) (tree_there nodes m i number 0 h here))

pub loop-alloc-preserved : goal.loop-alloc-preserved
loop-alloc-preserved c =
    let nodes = c.args.script.now in
    let m = c.loop-alloc.mentioned in
    let i = length c.loop-alloc.nodes in
    let number = get_or c.as_slice.result.now c.len-in-loop-alloc-2.result 0 in
    let h : i < length m = omega arith in
    let here : number ≡ get_or m i 0 = ap (λ (xs : List ℕ). get_or xs c.len-in-loop-alloc-2.result 0) c.as_slice.ensures.items ∙ ap (λ (k : ℕ). get_or m k 0) c.len-in-loop-alloc-2.ensures in
    let longer : length c.push-in-loop-alloc.new.self ≡ i + 1 = ap length c.in_ok-push-2.ensures.ok ∙ length-append c.loop-alloc.nodes (c.in_ok-node.node ∷ []) in
    let within : i < length (trees_at nodes m) = omega (arith, h, length-map m (tree_at nodes)) in
    let at = tree_there nodes m i number 0 h here in
    record {
      order = subst (λ (k : ℕ). trees_at nodes c.node_of.new.mentioned ≡ tree_at nodes c.args.root ∷ flat_map inner_nodes (take k (trees_at nodes c.node_of.new.mentioned))) (sym longer)
          (order_goes (tree_at nodes c.args.root) (tree_at nodes number) (trees_at nodes m) (trees_at nodes c.node_of.new.mentioned) i c.in_ok-node.ensures.mentioned.order within at c.loop-alloc.invariant.order);
      told = subst (λ (k : ℕ). c.push-in-loop-alloc.new.self ≡ nodes_from 1 (take k (trees_at nodes c.node_of.new.mentioned))) (sym longer)
          (nodes_go (tree_at nodes c.args.root) (tree_at nodes number) (trees_at nodes m) (trees_at nodes c.node_of.new.mentioned) i (length m) c.loop-alloc.nodes c.push-in-loop-alloc.new.self c.in_ok-node.node
          c.in_ok-node.ensures.mentioned.order within at c.loop-alloc.invariant.order (sym (length-map m (tree_at nodes))) c.in_ok-node.ensures.node c.in_ok-push-2.ensures.ok c.loop-alloc.invariant.told);
      numbers = c.in_ok-node.ensures.mentioned.numbers c.loop-alloc.invariant.numbers;
    }
