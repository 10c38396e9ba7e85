-- The end of a form that gives what a call over the heap gave.
-- This project's own; docs/SCRIPTS.md, "Evaluation".
use Rattle.std.specs.Prelude.{Result, Ok, Err}
use Rattle.charged_heap.specs.declared.fault.Fail.{Fail}
use Rattle.charged_heap.specs.declared.values.Value.{Value}
use Rattle.script_meaning.specs.Outcome.{abrupt_of}
use Rattle.script_meaning.specs.declared.completion.Abrupt.{Abrupt}
use Rattle.script_meaning.specs.declared.completion.Ended.{Ended}
use Rattle.script_meaning.specs.declared.completion.Ended.TheVariants as ended

abbrev pub end_of : Result Value Fail → Result Ended Abrupt
end_of (Ok v) = Ok (ended.Value v)
end_of (Err fail) = Err (abrupt_of fail)
