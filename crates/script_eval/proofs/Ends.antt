-- How a run ends: nothing waits any more, or it is stopped, which passes every form that waits.
use Rattle.std.proofs.Common.{◌≡◌, ◌∙◌, ℕ, suc, ◌-◌, List, [], ◌∷◌, Option, length, Result, Err, refl, ap, arith}
use Rattle.js_syntax.specs.declared.kind.Kind.{Kind}
use Rattle.js_syntax.specs.declared.kind.Kind.TheVariants as kinds
use Rattle.js_trees.specs.Tree.{Tree, kid}
use Rattle.script_meaning.specs.Evaluates.{evaluated}
use Rattle.script_meaning.specs.Handlers.{finalized_by, handled_by, try_end}
use Rattle.script_meaning.specs.Outcome.{State, Inside}
use Rattle.script_meaning.specs.Places.{ScriptList, form_at}
use Rattle.script_meaning.specs.Statements.{filled}
use Rattle.script_meaning.specs.declared.completion.Abrupt.{Abrupt}
use Rattle.script_meaning.specs.declared.completion.Abrupt.TheVariants as abrupt
use Rattle.script_meaning.specs.declared.completion.Ended.{Ended}
use Rattle.script_meaning.specs.declared.completion.StopCause.{StopCause}
use Rattle.script_meaning.specs.declared.site.Site.{Site}
use Rattle.script_steps.specs.After.{after}
use Rattle.script_steps.specs.declared.frame.Frame.{Frame}
use Rattle.script_steps.specs.declared.frame.Frame.TheVariants as frame
use Rattle.script_eval.specs.declared.machine.Control.TheVariants as control
use Rattle.script_eval.specs.Rest.{rest, left_over}

-- a run in which nothing waits has ended
pub left-done : (scripts : ScriptList) (fs : List Frame) (r : Result Ended Abrupt) (s : State) → length fs ≡ 0 → left_over scripts fs (control.Ended r) s ≡ (r, s)
unfolding rest
left-done scripts [] r s none = refl
left-done scripts (f ∷ fs) r s none = absurd (omega arith)

handled-stop : (kind : Kind) (at : Inside) (name : Option (List ℕ)) (handler : Tree) (site : Site) (cause : StopCause) (s : State)
    → handled_by kind at name handler site (Err (abrupt.Stop cause), s) ≡ (Err (abrupt.Stop cause), s)
handled-stop kinds.Absent at name handler site cause s = refl
handled-stop _ at name handler site cause s = refl

finalized-stop : (kind : Kind) (at : Inside) (finalizer : Tree) (site : Site) (cause : StopCause) (s : State)
    → finalized_by kind at finalizer site (Err (abrupt.Stop cause), s) ≡ (Err (abrupt.Stop cause), s)
finalized-stop kinds.Absent at finalizer site cause s = refl
finalized-stop _ at finalizer site cause s = refl

try-stop : (at : Inside) (t : Tree) (site : Site) (cause : StopCause) (s : State) → try_end at t site (Err (abrupt.Stop cause), s) ≡ (Err (abrupt.Stop cause), s)
try-stop at t site cause s = ap filled (finalized-stop (kid 2 t.kids).head.kind at (kid 2 t.kids) site cause s)

stop-passes : (at : Inside) (scripts : ScriptList) (f : Frame) (cause : StopCause) (s : State) → after at scripts f (Err (abrupt.Stop cause), s) ≡ (Err (abrupt.Stop cause), s)
unfolding after
stop-passes at scripts frame.Pass cause s = refl
stop-passes at scripts (frame.Try node site) cause s =
    ap (try_end at (form_at scripts site.script node) site)
    (handled-stop (kid 1 (form_at scripts site.script node).kids).head.kind at (form_at scripts site.script node).head.name (kid 1 (form_at scripts site.script node).kids) site cause s)
    ∙ try-stop at (form_at scripts site.script node) site cause s
stop-passes at scripts (frame.Catch node site) cause s = try-stop at (form_at scripts site.script node) site cause s
stop-passes at scripts _ cause s = refl

rest-stop : (scripts : ScriptList) (d : ℕ) (fs : List Frame) (cause : StopCause) (s : State) → rest scripts d fs (Err (abrupt.Stop cause), s) ≡ (Err (abrupt.Stop cause), s)
unfolding rest
rest-stop scripts d [] cause s = refl
rest-stop scripts d (f ∷ fs) cause s = rw (rest-stop scripts (suc d) fs cause s) (stop-passes (evaluated scripts (255 - d)) scripts f cause s)

pub left-stop : (scripts : ScriptList) (fs : List Frame) (cause : StopCause) (s : State) → left_over scripts fs (control.Ended (Err (abrupt.Stop cause))) s ≡ (Err (abrupt.Stop cause), s)
left-stop scripts fs cause s = rest-stop scripts 0 fs cause s

pub ruleset ends = (left-done, left-stop)
