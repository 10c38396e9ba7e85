use Rattle.std.proofs.Common.{◌≡◌, ℕ, ◌-◌, ◌^◌, drop}
use Rattle.charged_heap.specs.Closed.{IsClosed}
use Rattle.charged_heap.specs.Growth.{Grows}
use Rattle.js_trees.specs.Tree.{kids_from}
use Rattle.script_meaning.specs.Outcome.{Inside}
use Rattle.script_meaning.specs.Places.{form_at}
use Rattle.script_meaning.specs.Statements.{declare_rule}
use Rattle.script_steps.specs.After.{with_left}
use Rattle.script_steps.specs.Sound.{IsSoundSite}
use Rattle.script_steps.proofs.statements.leave_all_undefined.Given as goal

abbrev pub invariant-loop-next : goal.invariant-loop-next
invariant-loop-next l = record {
  passes : (at : Inside) (left : ℕ) → declare_rule at (drop l.place (form_at l.scripts l.site.script l.node).head.names) (kids_from l.place (form_at l.scripts l.site.script l.node).kids) l.site (with_left l.fn.heap left)
      ≡ declare_rule at (drop l.next (form_at l.scripts l.site.script l.node).head.names) (kids_from l.next (form_at l.scripts l.site.script l.node).kids) l.site (with_left l.heap left);
  grown : Grows l.fn.heap l.heap;
  closed : IsClosed l.fn.heap → IsClosed l.heap;
  site : IsSoundSite l.heap l.site;
}

abbrev pub decreases-loop-next : goal.decreases-loop-next
decreases-loop-next l = 2 ^ 32 - l.next
