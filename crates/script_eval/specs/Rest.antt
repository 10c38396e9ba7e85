-- What is left of a run whose waiting forms a machine holds in a list.
-- This project's own; docs/SCRIPTS.md, "Evaluation".
use Rattle.std.specs.Prelude.{ℕ, suc, ◌-◌, List, [], ◌∷◌, length}
use Rattle.script_meaning.specs.Evaluates.{evaluated}
use Rattle.script_meaning.specs.Outcome.{State, Out}
use Rattle.script_meaning.specs.Places.{ScriptList}
use Rattle.script_steps.specs.After.{after, node_out}
use Rattle.script_steps.specs.declared.frame.Frame.{Frame}
use Rattle.script_steps.specs.declared.frame.Inner.{Inner}
use Rattle.script_eval.specs.declared.machine.Control.{Control}
use Rattle.script_eval.specs.declared.machine.Control.TheVariants as control

-- what the node that a form waits for comes to, where at most so many nodes may be in evaluation, itself included
abbrev pub inner_out : ScriptList → ℕ → Inner → State → Out
inner_out scripts room inner s = node_out (evaluated scripts room) scripts inner.role inner.node inner.site s

-- what waiting forms come to, the outermost first, once the innermost goes on with an end; d forms wait outside them.
-- 256 nodes may be in evaluation at once, so 255 less d of them inside a form that waits inside d others
unfoldable pub rest : ScriptList → ℕ → List Frame → Out → Out
rest scripts d [] o = o
rest scripts d (outer ∷ inner) o = after (evaluated scripts (255 - d)) scripts outer (rest scripts (suc d) inner o)

-- what a machine's next node comes to inside d waiting forms, or the end that it has
abbrev pub control_out : ScriptList → ℕ → Control → State → Out
control_out scripts d (control.Node inner) s = inner_out scripts (256 - d) inner s
control_out scripts d (control.Ended end) s = (end, s)

-- what the whole run comes to
abbrev pub left_over : ScriptList → List Frame → Control → State → Out
left_over scripts frames next s = rest scripts 0 frames (control_out scripts (length frames) next s)
