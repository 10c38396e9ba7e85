-- Ends that a frame doesn't wait for: they pass it unchanged.
use Rattle.std.proofs.Common.{◌≡◌, Ok, Err, refl}
use Rattle.script_meaning.specs.Outcome.{State, Inside}
use Rattle.script_meaning.specs.Places.{ScriptList}
use Rattle.script_meaning.specs.declared.completion.Abrupt.{Abrupt}
use Rattle.script_meaning.specs.declared.completion.Ended.TheVariants as ended
use Rattle.script_meaning.specs.declared.site.Place.{Place}
use Rattle.script_steps.specs.After.{after}
use Rattle.script_steps.specs.Groups.{TakesAnyEnd, TakesPlace}
use Rattle.script_steps.specs.declared.frame.Frame.{Frame}
use Rattle.script_steps.specs.declared.frame.Frame.TheVariants as frame

pub abrupt_passes : (at : Inside) (scripts : ScriptList) (f : Frame) (abrupt : Abrupt) (s : State)
    → (TakesAnyEnd f → ⊥) → after at scripts f (Err abrupt, s) ≡ (Err abrupt, s)
unfolding after
abrupt_passes at scripts frame.Body abrupt s not = absurd (not tt)
abrupt_passes at scripts (frame.List n p l site) abrupt s not = absurd (not tt)
abrupt_passes at scripts frame.Filled abrupt s not = absurd (not tt)
abrupt_passes at scripts (frame.LoopBody parts last site) abrupt s not = absurd (not tt)
abrupt_passes at scripts (frame.ForHead parts site) abrupt s not = absurd (not tt)
abrupt_passes at scripts (frame.Try node site) abrupt s not = absurd (not tt)
abrupt_passes at scripts (frame.Catch node site) abrupt s not = absurd (not tt)
abrupt_passes at scripts (frame.Finally before) abrupt s not = absurd (not tt)
abrupt_passes at scripts _ abrupt s not = refl

pub empty_passes : (at : Inside) (scripts : ScriptList) (f : Frame) (s : State)
    → (TakesAnyEnd f → ⊥) → after at scripts f (Ok ended.Empty, s) ≡ (Ok ended.Empty, s)
unfolding after
empty_passes at scripts frame.Body s not = absurd (not tt)
empty_passes at scripts (frame.List n p l site) s not = absurd (not tt)
empty_passes at scripts frame.Filled s not = absurd (not tt)
empty_passes at scripts (frame.LoopBody parts last site) s not = absurd (not tt)
empty_passes at scripts (frame.ForHead parts site) s not = absurd (not tt)
empty_passes at scripts (frame.Try node site) s not = absurd (not tt)
empty_passes at scripts (frame.Catch node site) s not = absurd (not tt)
empty_passes at scripts (frame.Finally before) s not = absurd (not tt)
empty_passes at scripts _ s not = refl

pub place_passes : (at : Inside) (scripts : ScriptList) (f : Frame) (p : Place) (s : State)
    → (TakesAnyEnd f → ⊥) → (TakesPlace f → ⊥) → after at scripts f (Ok (ended.Place p), s) ≡ (Ok (ended.Place p), s)
unfolding after
place_passes at scripts frame.Body p s not other = absurd (not tt)
place_passes at scripts (frame.List n i l site) p s not other = absurd (not tt)
place_passes at scripts frame.Filled p s not other = absurd (not tt)
place_passes at scripts (frame.LoopBody parts last site) p s not other = absurd (not tt)
place_passes at scripts (frame.ForHead parts site) p s not other = absurd (not tt)
place_passes at scripts (frame.Try node site) p s not other = absurd (not tt)
place_passes at scripts (frame.Catch node site) p s not other = absurd (not tt)
place_passes at scripts (frame.Finally before) p s not other = absurd (not tt)
place_passes at scripts (frame.TypeOfPlace site) p s not other = absurd (other tt)
place_passes at scripts (frame.AssignTarget right site) p s not other = absurd (other tt)
place_passes at scripts (frame.UpdateTarget op right site) p s not other = absurd (other tt)
place_passes at scripts (frame.StepTarget op before site) p s not other = absurd (other tt)
place_passes at scripts _ p s not other = refl

pub ruleset passing = (abrupt_passes, empty_passes, place_passes)
