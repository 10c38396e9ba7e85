-- How the outcomes of calls are printed.
-- This project's own; docs/FORMATS.md, "The report".
use Rattle.std.specs.Prelude.{ℕ, List, [], ◌∷◌, ◌++◌, codes, Bool, true, false, if◌then◌else◌, Option, None, Some}
use Rattle.std.specs.Fmt.{decimal}
use Rattle.ivm_text.specs.Text.{utf8_of}
use Rattle.ivm_text.specs.declared.copies.Passed.{Passed}
use Rattle.ivm_text.specs.declared.copies.Passed.TheVariants as passed
use Rattle.ivm_text.specs.declared.copies.TypeOf.{TypeOf}
use Rattle.ivm_text.specs.declared.copies.TypeOf.TheVariants as type
use Rattle.ivm_text.specs.declared.copies.Uncopyable.{Uncopyable}
use Rattle.ivm_text.specs.declared.copies.Uncopyable.TheVariants as uncopyable
use Rattle.ivm_text.specs.declared.copies.Want.{Want}
use Rattle.ivm_text.specs.declared.copies.Want.TheVariants as want
use Rattle.ivm_text.specs.declared.refusal.Refusal.{Refusal}
use Rattle.ivm_text.specs.declared.refusal.RefusalKind.{RefusalKind}
use Rattle.ivm_text.specs.declared.refusal.RefusalKind.TheVariants as refusal
use Rattle.task_history.specs.declared.task.Own.{Own}
use Rattle.task_history.specs.declared.task.Own.TheVariants as own
use Rattle.task_history.specs.declared.outcome.Outcome.{Outcome}
use Rattle.task_history.specs.declared.outcome.Outcome.TheVariants as outcome
use Rattle.ivm_report.specs.Values.{value_text}

abbrev pub refusal_name : RefusalKind → List ℕ
refusal_name refusal.BadUtf8 = codes "BadUtf8"
refusal_name refusal.BadCharacter = codes "BadCharacter"
refusal_name refusal.OpenComment = codes "OpenComment"
refusal_name refusal.OpenString = codes "OpenString"
refusal_name refusal.BadEscape = codes "BadEscape"
refusal_name refusal.NumberOutOfProfile = codes "NumberOutOfProfile"
refusal_name refusal.Unexpected = codes "Unexpected"
refusal_name refusal.TooDeep = codes "TooDeep"
refusal_name refusal.OutOfProfile = codes "OutOfProfile"
refusal_name refusal.TwiceDeclared = codes "TwiceDeclared"
refusal_name refusal.BadTarget = codes "BadTarget"
refusal_name refusal.StrayBreak = codes "StrayBreak"
refusal_name refusal.StrayReturn = codes "StrayReturn"

-- what a reference's `typeof` says
abbrev pub type_name : TypeOf → List ℕ
type_name type.Undefined = codes "undefined"
type_name type.Null = codes "null"
type_name type.Object = codes "object"
type_name type.Boolean = codes "boolean"
type_name type.Number = codes "number"
type_name type.Text = codes "string"
type_name type.Function = codes "function"

abbrev pub uncopyable_name : Uncopyable → List ℕ
uncopyable_name uncopyable.Function = codes "function"
uncopyable_name uncopyable.Promise = codes "promise"
uncopyable_name uncopyable.Reference = codes "reference"
uncopyable_name uncopyable.Copy = codes "copy"
uncopyable_name uncopyable.Callback = codes "callback"

-- a call that the host settled itself
abbrev pub own_text : Own → List ℕ
own_text own.TooManyCalls = codes "too many calls"
own_text own.NotReference = codes "not a reference"
own_text own.NotScript = codes "not a script"
own_text own.NotCopy = codes "not a copy"
own_text own.Released = codes "released"
own_text own.Disposed = codes "disposed"

-- a copy is told by what was wanted; where a reference was wanted no isolate sends a copy, and it is a value
abbrev pub want_name : Want → List ℕ
want_name want.Value = codes "value "
want_name want.Copy = codes "copy "
want_name want.External = codes "external "
want_name want.Reference = codes "value "

-- a value that passed; a callback, which no isolate sends yet, by its number
abbrev pub passed_text : Want → Passed → List ℕ
passed_text want (passed.Copy copy) = want_name want ++ value_text copy
passed_text want (passed.External copy) = codes "external " ++ value_text copy
passed_text want (passed.Ref handle) = codes "reference " ++ type_name handle.kind
passed_text want (passed.Deref handle) = codes "reference " ++ type_name handle.kind
passed_text want (passed.Callback number) = codes "callback " ++ decimal number

-- the word that is out of profile, where there is one
abbrev pub word_text : Option (List ℕ) → List ℕ
word_text None = []
word_text (Some word) = 32 ∷ utf8_of word

abbrev pub syntax_text : Refusal → List ℕ
syntax_text r = codes "syntax " ++ refusal_name r.kind ++ codes " " ++ decimal r.place ++ word_text r.word

-- an isolate's end, with the ticks of the run that it cut, where this entry is the end
abbrev pub disposed_text : Bool → ℕ → List ℕ
disposed_text true ticks = codes "disposed ticks=" ++ decimal ticks
disposed_text false ticks = codes "disposed"

-- what an entry of so many ticks says of its call; the flag tells whether it is its journal's first disposal
abbrev pub outcome_text : Want → Bool → ℕ → Outcome → List ℕ
outcome_text want first ticks (outcome.Context context row) = codes "context"
outcome_text want first ticks (outcome.Script script) = codes "script"
outcome_text want first ticks (outcome.Passed value) = passed_text want value
outcome_text want first ticks outcome.Done = codes "done"
outcome_text want first ticks (outcome.Throw copy) = codes "throw " ++ value_text copy
outcome_text want first ticks (outcome.Syntax r) = syntax_text r
outcome_text want first ticks (outcome.Timeout n) = codes "timeout " ++ decimal n
outcome_text want first ticks (outcome.MemoryLimit told) =
    codes "memory charged=" ++ decimal told.charged ++ codes " asked=" ++ decimal told.asked ++ codes " limit=" ++ decimal told.limit
outcome_text want first ticks (outcome.Disposed by) = disposed_text first ticks
outcome_text want first ticks outcome.WrongIsolate = codes "wrong isolate"
outcome_text want first ticks outcome.NotTransferable = codes "not transferable"
outcome_text want first ticks (outcome.NotCopyable kind) = codes "not copyable " ++ uncopyable_name kind
