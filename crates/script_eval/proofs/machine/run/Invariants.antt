use Rattle.std.proofs.Common.{◌≡◌, ◌≤◌}
use Rattle.charged_heap.specs.Closed.{IsClosed}
use Rattle.charged_heap.specs.Growth.{Grows}
use Rattle.script_meaning.specs.Evaluates.{NESTING}
use Rattle.script_steps.specs.After.{with_left}
use Rattle.script_eval.specs.Machines.{AreSoundFrames, IsSoundControl}
use Rattle.script_eval.specs.Rest.{inner_out, left_over}
use Rattle.script_eval.specs.Weight.{weight}
use Rattle.script_eval.proofs.machine.run.Given as goal

abbrev pub invariant-loop-end : goal.invariant-loop-end
invariant-loop-end l = record {
  meaning : left_over l.scripts l.frames l.next (with_left l.heap l.left) ≡ inner_out l.scripts NESTING l.fn.inner (with_left l.fn.heap l.fn.left);
  less : l.left ≤ l.fn.left;
  grown : Grows l.fn.heap l.heap;
  closed : IsClosed l.heap;
  sound : IsSoundControl l.heap l.next;
  frames : AreSoundFrames l.scripts l.heap l.frames;
}

abbrev pub decreases-loop-end : goal.decreases-loop-end
decreases-loop-end l = weight l.next l.frames l.left
