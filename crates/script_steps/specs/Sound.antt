-- What an end, a frame and a step may name of a store: only what is there, of the kind that its place asks for.
-- This project's own; docs/PRICES.md, "Cells".
use Rattle.std.specs.Prelude.{List, Result, Ok, Err, IfSome}
use Rattle.std.specs.List.{All}
use Rattle.charged_heap.specs.Store.{Store, IsAt, IsArray, IsPlain, IsScope}
use Rattle.charged_heap.specs.Closed.{IsSoundValue}
use Rattle.charged_heap.specs.declared.values.Value.{Value}
use Rattle.js_syntax.specs.declared.kind.Kind.{Kind}
use Rattle.js_syntax.specs.declared.kind.Kind.TheVariants as kinds
use Rattle.script_meaning.specs.declared.completion.Abrupt.{Abrupt}
use Rattle.script_meaning.specs.declared.completion.Abrupt.TheVariants as abrupt
use Rattle.script_meaning.specs.declared.completion.Ended.{Ended}
use Rattle.script_meaning.specs.declared.completion.Ended.TheVariants as ended
use Rattle.script_meaning.specs.declared.site.Key.{Key}
use Rattle.script_meaning.specs.declared.site.Key.TheVariants as key
use Rattle.script_meaning.specs.declared.site.Place.{Place}
use Rattle.script_meaning.specs.declared.site.Place.TheVariants as place
use Rattle.script_meaning.specs.declared.site.Site.{Site}
use Rattle.script_steps.specs.declared.frame.Frame.{Frame}
use Rattle.script_steps.specs.declared.frame.Frame.TheVariants as frame
use Rattle.script_steps.specs.declared.frame.Step.{Step}
use Rattle.script_steps.specs.declared.frame.Step.TheVariants as step

-- ---- forms

-- a form of that kind is there
abbrev pub IsThere : Kind → Type 0
IsThere kinds.Absent = ⊥
IsThere _ = Unit {0}

-- ---- ends

abbrev pub IsSoundKey : Store → Key → Type 0
IsSoundKey s (key.Name n) = Unit {0}
IsSoundKey s (key.Computed v) = IsSoundValue s v

abbrev pub IsSoundPlace : Store → Place → Type 0
IsSoundPlace s (place.Name n) = Unit {0}
IsSoundPlace s (place.Member base k) = IsSoundValue s base × IsSoundKey s k

abbrev pub IsSoundEnded : Store → Ended → Type 0
IsSoundEnded s ended.Empty = Unit {0}
IsSoundEnded s (ended.Value v) = IsSoundValue s v
IsSoundEnded s (ended.Place target) = IsSoundPlace s target
IsSoundEnded s (ended.Member function receiver) = IsSoundValue s function × IsSoundValue s receiver

abbrev pub IsSoundAbrupt : Store → Abrupt → Type 0
IsSoundAbrupt s (abrupt.Throw v) = IsSoundValue s v
IsSoundAbrupt s (abrupt.Return v) = IsSoundValue s v
IsSoundAbrupt s (abrupt.Break v) = IfSome v (IsSoundValue s)
IsSoundAbrupt s (abrupt.Continue v) = IfSome v (IsSoundValue s)
IsSoundAbrupt s (abrupt.Stop cause) = Unit {0}
IsSoundAbrupt s abrupt.NoMemory = Unit {0}

abbrev pub IsSoundEnd : Store → Result Ended Abrupt → Type 0
IsSoundEnd s (Ok end) = IsSoundEnded s end
IsSoundEnd s (Err end) = IsSoundAbrupt s end

-- ---- sites

-- there is such a scope and such a global object, and `this` is a value that a script can hold
pub record IsSoundSite (s : Store) (site : Site) : Type 0 where
  pub scope : IsAt IsScope s site.scope
  pub global : IsAt IsPlain s site.global
  pub receiver : IsSoundValue s site.receiver

-- ---- frames

-- a call that waits for an argument has a function, a receiver and the arguments before it
pub record IsSoundCall (s : Store) (function receiver : Value) (values : List Value) (site : Site) : Type 0 where
  pub called : IsSoundValue s function
  pub given : IsSoundValue s receiver
  pub before : All (IsSoundValue s) values
  pub at : IsSoundSite s site

abbrev pub IsSoundFrame : Store → Frame → Type 0
IsSoundFrame s frame.Pass = Unit {0}
IsSoundFrame s (frame.Comma right site) = IsSoundSite s site
IsSoundFrame s (frame.Left operator right site) = IsSoundSite s site
IsSoundFrame s (frame.Right operator left) = IsSoundValue s left
IsSoundFrame s (frame.Operand operator) = Unit {0}
IsSoundFrame s (frame.TypeOfPlace site) = IsSoundSite s site
IsSoundFrame s frame.Void = Unit {0}
IsSoundFrame s (frame.Condition good bad site) = IsSoundSite s site
IsSoundFrame s (frame.Logical operator right site) = IsSoundSite s site
IsSoundFrame s (frame.AssignTarget right site) = IsSoundSite s site
IsSoundFrame s (frame.AssignValue target site) = IsSoundPlace s target × IsSoundSite s site
IsSoundFrame s (frame.UpdateTarget operator right site) = IsSoundSite s site
IsSoundFrame s (frame.UpdateValue operator target old site) = IsSoundPlace s target × IsSoundValue s old × IsSoundSite s site
IsSoundFrame s (frame.StepTarget operator before site) = IsSoundSite s site
IsSoundFrame s (frame.Member role node script) = Unit {0}
IsSoundFrame s (frame.IndexObject role n site) = IsSoundSite s site
IsSoundFrame s (frame.IndexKey role base) = IsSoundValue s base
IsSoundFrame s (frame.Callee node site) = IsSoundSite s site
IsSoundFrame s (frame.Argument node at function receiver values site) = IsSoundCall s function receiver values site
IsSoundFrame s frame.Body = Unit {0}
IsSoundFrame s (frame.Element node at array site) = IsAt IsArray s array × IsSoundSite s site
IsSoundFrame s (frame.Property node at object site) = IsAt IsPlain s object × IsSoundSite s site
IsSoundFrame s (frame.List node at last site) = IfSome last (IsSoundValue s) × IsSoundSite s site
IsSoundFrame s (frame.Declarator node at site) = IsSoundSite s site
IsSoundFrame s (frame.If good bad site) = IsSoundSite s site
IsSoundFrame s frame.Filled = Unit {0}
IsSoundFrame s frame.Return = Unit {0}
IsSoundFrame s (frame.LoopTest parts last site) = IfSome last (IsSoundValue s) × IsSoundSite s site
IsSoundFrame s (frame.LoopBody parts last site) = IfSome last (IsSoundValue s) × IsSoundSite s site
IsSoundFrame s (frame.LoopUpdate parts last site) = IfSome last (IsSoundValue s) × IsSoundSite s site
IsSoundFrame s (frame.ForHead parts site) = IsSoundSite s site
IsSoundFrame s frame.Throw = Unit {0}
IsSoundFrame s (frame.Try node site) = IsSoundSite s site
IsSoundFrame s (frame.Catch node site) = IsSoundSite s site
IsSoundFrame s (frame.Finally before) = IsSoundEnd s before

-- ---- steps

abbrev pub IsSoundStep : Store → Step → Type 0
IsSoundStep s (step.Ended end) = IsSoundEnd s end
IsSoundStep s (step.Into waiting inner) = IsSoundFrame s waiting × IsSoundSite s inner.site
IsSoundStep s (step.Builtin which receiver arguments) = IsSoundValue s receiver × All (IsSoundValue s) arguments
