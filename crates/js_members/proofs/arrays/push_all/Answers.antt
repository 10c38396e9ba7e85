use Rattle.std.proofs.Common.{◌∙◌}
use Rattle.charged_heap.proofs.GrowthLaws.{grows_then}
use Rattle.charged_heap.proofs.ClosedLaws.{value_grows}
use Rattle.js_members.proofs.ArrayLemmas.{pushed_step}
use Rattle.js_members.proofs.arrays.push_all.Goals as goal

pub loop-value-preserved : goal.loop-value-preserved
loop-value-preserved c = record {
  same =
      pushed_step c.loop-value.heap c.push.new.self c.args.n c.loop-value.value-index c.args.values.now _ c.loop-value-test.true
      c.in_ok-push.ensures.over c.in_ok-push.ensures.ok
      ∙ c.loop-value.invariant.same;
  grown = grows_then c.args.heap.now c.loop-value.heap c.push.new.self c.loop-value.invariant.grown c.in_ok-push.ensures.grown;
  closed = λ was. c.in_ok-push.ensures.closed (c.loop-value.invariant.closed was)
      (value_grows c.args.heap.now c.loop-value.heap _ c.loop-value.invariant.grown
      (c.requires.values c.loop-value.value-index _ c.loop-value-test.true));
}
