-- What is sound stays so in a store that has grown.
use Rattle.std.proofs.Common.{List, Option, Some, None, Result, Ok, Err}
use Rattle.std.specs.Prelude.{IfSome, slice_index_or}
use Rattle.std.specs.List.{All}
use Rattle.charged_heap.specs.Store.{Store}
use Rattle.charged_heap.specs.Growth.{Grows}
use Rattle.charged_heap.specs.Closed.{IsSoundValue}
use Rattle.charged_heap.specs.declared.values.Value.{Value}
use Rattle.charged_heap.proofs.GrowthLaws.{grows-refl, grows_then, at_grows}
use Rattle.charged_heap.proofs.ClosedLaws.{value_grows}
use Rattle.script_meaning.specs.declared.site.Key.{Key}
use Rattle.script_meaning.specs.declared.site.Key.TheVariants as key
use Rattle.script_meaning.specs.declared.site.Place.{Place}
use Rattle.script_meaning.specs.declared.site.Place.TheVariants as place
use Rattle.script_meaning.specs.declared.site.Site.{Site}
use Rattle.script_meaning.specs.declared.completion.Abrupt.{Abrupt}
use Rattle.script_meaning.specs.declared.completion.Abrupt.TheVariants as abrupt
use Rattle.script_meaning.specs.declared.completion.Ended.{Ended}
use Rattle.script_meaning.specs.declared.completion.Ended.TheVariants as ended
use Rattle.script_steps.specs.Sound.{IsSoundKey, IsSoundPlace, IsSoundSite, IsSoundFrame, IsSoundCall, IsSoundEnded, IsSoundAbrupt, IsSoundEnd}
use Rattle.script_steps.specs.declared.frame.Frame.{Frame}
use Rattle.script_steps.specs.declared.frame.Frame.TheVariants as frame

pub site_grows : (s t : Store) (site : Site) → Grows s t → IsSoundSite s site → IsSoundSite t site
site_grows s t site grows sound = record {
  scope = at_grows s t site.scope grows sound.scope;
  global = at_grows s t site.global grows sound.global;
  receiver = value_grows s t site.receiver grows sound.receiver;
}

pub key_grows : (s t : Store) (k : Key) → Grows s t → IsSoundKey s k → IsSoundKey t k
key_grows s t (key.Name n) grows sound = tt
key_grows s t (key.Computed v) grows sound = value_grows s t v grows sound

pub place_grows : (s t : Store) (p : Place) → Grows s t → IsSoundPlace s p → IsSoundPlace t p
place_grows s t (place.Name n) grows sound = tt
place_grows s t (place.Member base k) grows sound = (value_grows s t base grows sound.0, key_grows s t k grows sound.1)

pub values_grow : (s t : Store) (values : List Value) → Grows s t → All (IsSoundValue s) values → All (IsSoundValue t) values
values_grow s t values grows sound = λ k d within. value_grows s t (slice_index_or values k d) grows (sound k d within)

pub option_grows : (s t : Store) (v : Option Value) → Grows s t → IfSome v (IsSoundValue s) → IfSome v (IsSoundValue t)
option_grows s t None grows sound = tt
option_grows s t (Some v) grows sound = value_grows s t v grows sound

call_grows : (s t : Store) (function receiver : Value) (values : List Value) (site : Site) → Grows s t → IsSoundCall s function receiver values site → IsSoundCall t function receiver values site
call_grows s t function receiver values site grows sound = record {
  called = value_grows s t function grows sound.called;
  given = value_grows s t receiver grows sound.given;
  before = values_grow s t values grows sound.before;
  at = site_grows s t site grows sound.at;
}

ended_grows : (s t : Store) (end : Ended) → Grows s t → IsSoundEnded s end → IsSoundEnded t end
ended_grows s t ended.Empty grows sound = tt
ended_grows s t (ended.Value v) grows sound = value_grows s t v grows sound
ended_grows s t (ended.Place p) grows sound = place_grows s t p grows sound
ended_grows s t (ended.Member function receiver) grows sound = (value_grows s t function grows sound.0, value_grows s t receiver grows sound.1)

abrupt_grows : (s t : Store) (end : Abrupt) → Grows s t → IsSoundAbrupt s end → IsSoundAbrupt t end
abrupt_grows s t (abrupt.Throw v) grows sound = value_grows s t v grows sound
abrupt_grows s t (abrupt.Return v) grows sound = value_grows s t v grows sound
abrupt_grows s t (abrupt.Break v) grows sound = option_grows s t v grows sound
abrupt_grows s t (abrupt.Continue v) grows sound = option_grows s t v grows sound
abrupt_grows s t (abrupt.Stop cause) grows sound = tt
abrupt_grows s t abrupt.NoMemory grows sound = tt

pub end_grows : (s t : Store) (end : Result Ended Abrupt) → Grows s t → IsSoundEnd s end → IsSoundEnd t end
end_grows s t (Ok end) grows sound = ended_grows s t end grows sound
end_grows s t (Err end) grows sound = abrupt_grows s t end grows sound

pub frame_grows : (s t : Store) (f : Frame) → Grows s t → IsSoundFrame s f → IsSoundFrame t f
frame_grows s t (frame.Comma right site) grows sound = site_grows s t site grows sound
frame_grows s t (frame.Left operator right site) grows sound = site_grows s t site grows sound
frame_grows s t (frame.Right operator left) grows sound = value_grows s t left grows sound
frame_grows s t (frame.TypeOfPlace site) grows sound = site_grows s t site grows sound
frame_grows s t (frame.Condition good bad site) grows sound = site_grows s t site grows sound
frame_grows s t (frame.Logical operator right site) grows sound = site_grows s t site grows sound
frame_grows s t (frame.AssignTarget right site) grows sound = site_grows s t site grows sound
frame_grows s t (frame.AssignValue p site) grows sound = (place_grows s t p grows sound.0, site_grows s t site grows sound.1)
frame_grows s t (frame.UpdateTarget operator right site) grows sound = site_grows s t site grows sound
frame_grows s t (frame.UpdateValue operator p old site) grows sound =
    (place_grows s t p grows sound.0, value_grows s t old grows sound.1, site_grows s t site grows sound.2)
frame_grows s t (frame.StepTarget operator before site) grows sound = site_grows s t site grows sound
frame_grows s t (frame.IndexObject role n site) grows sound = site_grows s t site grows sound
frame_grows s t (frame.IndexKey role base) grows sound = value_grows s t base grows sound
frame_grows s t (frame.Callee node site) grows sound = site_grows s t site grows sound
frame_grows s t (frame.Argument node p function receiver values site) grows sound = call_grows s t function receiver values site grows sound
frame_grows s t (frame.Element node p array site) grows sound = (at_grows s t array grows sound.0, site_grows s t site grows sound.1)
frame_grows s t (frame.Property node p object site) grows sound = (at_grows s t object grows sound.0, site_grows s t site grows sound.1)
frame_grows s t (frame.List node p last site) grows sound = (option_grows s t last grows sound.0, site_grows s t site grows sound.1)
frame_grows s t (frame.Declarator node p site) grows sound = site_grows s t site grows sound
frame_grows s t (frame.If good bad site) grows sound = site_grows s t site grows sound
frame_grows s t frame.Pass grows sound = tt
frame_grows s t (frame.Operand operator) grows sound = tt
frame_grows s t frame.Void grows sound = tt
frame_grows s t (frame.Member role node script) grows sound = tt
frame_grows s t frame.Body grows sound = tt
frame_grows s t frame.Filled grows sound = tt
frame_grows s t frame.Return grows sound = tt
frame_grows s t (frame.LoopTest parts last site) grows sound = (option_grows s t last grows sound.0, site_grows s t site grows sound.1)
frame_grows s t (frame.LoopBody parts last site) grows sound = (option_grows s t last grows sound.0, site_grows s t site grows sound.1)
frame_grows s t (frame.LoopUpdate parts last site) grows sound = (option_grows s t last grows sound.0, site_grows s t site grows sound.1)
frame_grows s t (frame.ForHead parts site) grows sound = site_grows s t site grows sound
frame_grows s t frame.Throw grows sound = tt
frame_grows s t (frame.Try node site) grows sound = site_grows s t site grows sound
frame_grows s t (frame.Catch node site) grows sound = site_grows s t site grows sound
frame_grows s t (frame.Finally before) grows sound = end_grows s t before grows sound

pub ruleset growing = (site_grows, place_grows, values_grow, option_grows, value_grows, grows_then, grows-refl, at_grows)
