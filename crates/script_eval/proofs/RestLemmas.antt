-- The innermost form stands last.
use Rattle.std.proofs.Common.{◌≡◌, ℕ, suc, ◌+◌, ◌-◌, List, [], ◌∷◌, ◌++◌, length, refl, ap, arith, length-append, add-zero, zero-add}
use Rattle.script_meaning.specs.Evaluates.{evaluated}
use Rattle.script_meaning.specs.Outcome.{State, Out}
use Rattle.script_meaning.specs.Places.{ScriptList}
use Rattle.script_steps.specs.After.{after}
use Rattle.script_steps.specs.declared.frame.Frame.{Frame}
use Rattle.script_steps.specs.declared.frame.Inner.{Inner}
use Rattle.script_eval.specs.Rest.{rest, inner_out, left_over}
use Rattle.script_eval.specs.declared.machine.Control.TheVariants as control

rest-last : (scripts : ScriptList) (d : ℕ) (fs : List Frame) (f : Frame) (o : Out) → rest scripts d (fs ++ f ∷ []) o ≡ rest scripts d fs (after (evaluated scripts (255 - (d + length fs))) scripts f o)
unfolding rest
rest-last scripts d [] f o = rw add-zero refl
rest-last scripts d (g ∷ fs) f o =
    let e : suc d + length fs ≡ d + length (g ∷ fs) = omega arith in
    ap (after (evaluated scripts (255 - d)) scripts g) (rw e at (rest-last scripts (suc d) fs f o))

-- the form put last goes on inside the others
pub rest-push : (scripts : ScriptList) (fs : List Frame) (f : Frame) (o : Out) → rest scripts 0 (fs ++ f ∷ []) o ≡ rest scripts 0 fs (after (evaluated scripts (255 - length fs)) scripts f o)
rest-push scripts fs f o = rw zero-add at (rest-last scripts 0 fs f o)

pub room-push : (fs : List Frame) (f : Frame) → 256 - length (fs ++ f ∷ []) ≡ 255 - length fs
room-push fs f = omega (arith, length-append fs (f ∷ []))

-- a run begins with nothing that waits
pub left-begins : (scripts : ScriptList) (fs : List Frame) (inner : Inner) (s : State) → fs ≡ [] → left_over scripts fs (control.Node inner) s ≡ inner_out scripts 256 inner s
unfolding rest
left-begins scripts [] inner s none = refl
left-begins scripts (f ∷ fs) inner s none = cc

pub ruleset rest_steps = (rest-push, room-push)
