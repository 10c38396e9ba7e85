use Rattle.std.proofs.Common.{◌≡◌, length, refl, ap, ◌∙◌, arith}
use Rattle.js_scripts.specs.Lowest.{lowest_below}
use Rattle.js_scripts.proofs.PlaceLemmas.{lowest_more}
use Rattle.js_scripts.proofs.unbuilt.lowest_unbuilt.Goals as goal

pub loop-n-init : goal.loop-n-init
unfolding lowest_below
loop-n-init c = refl

pub loop-n-preserved : goal.loop-n-preserved
loop-n-preserved c =
    lowest_more c.args.script.now c.loop-n.n c.node.result.now c.loop-n.lowest c.unbuilt_place.result c.lower_of-lowest.result c.node.ensures.node
    c.loop-n.invariant c.unbuilt_place.ensures c.lower_of-lowest.ensures

pub returns : goal.returns
returns c =
    let all : c.loop-n.n ≡ length c.args.script.now = omega arith in
    c.loop-n.invariant ∙ ap (λ n. lowest_below c.args.script.now n) all
