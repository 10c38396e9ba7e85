-- The end of a callee that was read from a member.
-- This project's own; docs/SCRIPTS.md, "Calls".
use Rattle.std.specs.Prelude.{Result, Ok, Err}
use Rattle.charged_heap.specs.declared.fault.Fail.{Fail}
use Rattle.charged_heap.specs.declared.values.Value.{Value}
use Rattle.script_meaning.specs.Outcome.{abrupt_of}
use Rattle.script_meaning.specs.declared.completion.Abrupt.{Abrupt}
use Rattle.script_meaning.specs.declared.completion.Ended.{Ended}
use Rattle.script_meaning.specs.declared.completion.Ended.TheVariants as ended

-- the function that was read, and the receiver of its call; or why nothing was read
abbrev pub callee_end : Result Value Fail → Value → Result Ended Abrupt
callee_end (Ok function) receiver = Ok (ended.Member function receiver)
callee_end (Err fail) receiver = Err (abrupt_of fail)
