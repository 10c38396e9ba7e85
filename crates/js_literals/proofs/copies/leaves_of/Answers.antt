use Rattle.std.proofs.Common.{◌≡◌, ◌+◌, ◌++◌, List, length, drop, get_or, subst}
use Rattle.js_literals.specs.Copies.{Tree, leaves_from}
use Rattle.js_literals.specs.View.{tree_at, trees_at}
use Rattle.js_literals.proofs.Walks.{Walk, trees_from, leaves_go, walk_goes}
use Rattle.js_literals.proofs.copies.leaves_of.Goals as goal

pub loop-kid-preserved : goal.loop-kid-preserved
loop-kid-preserved c =
    let nodes = c.args.script.now in
    let at = trees_from nodes c.args.kids.now c.loop-kid.kid-index 0 c.loop-kid-test.true in
    record {
      leaves = leaves_go nodes (tree_at nodes (get_or c.args.kids.now c.loop-kid.kid-index 0)) (trees_at nodes (drop (c.loop-kid.kid-index + 1) c.args.kids.now))
          c.loop-kid.leaves c.push.new.self _ c.in_ok-leaf.leaf c.loop-kid.mentioned c.leaf_of.new.mentioned c.in_ok-leaf.ensures.leaf c.in_ok-leaf.ensures.mentioned c.in_ok-push.ensures.ok
          (subst (λ (ts : List Tree). c.loop-kid.leaves ++ leaves_from (length c.loop-kid.mentioned) ts ≡ leaves_from (length c.args.mentioned.now) (trees_at nodes c.args.kids.now)) at c.loop-kid.invariant.leaves);
      walk = walk_goes nodes _ _ (trees_at nodes c.args.kids.now) c.args.mentioned.now c.loop-kid.mentioned c.leaf_of.new.mentioned c.in_ok-leaf.ensures.mentioned
          (subst (λ (ts : List Tree). Walk nodes ts (trees_at nodes c.args.kids.now) c.args.mentioned.now c.loop-kid.mentioned) at c.loop-kid.invariant.walk);
    }
