-- What is answered for a script with an early fault.
-- This project's own; docs/SCRIPTS.md, "Early faults".
use Rattle.std.specs.Prelude.{◌≡◌, List, None}
use Rattle.ivm_text.specs.declared.refusal.Refusal.{Refusal}
use Rattle.ivm_text.specs.declared.refusal.RefusalKind.{RefusalKind}
use Rattle.ivm_text.specs.declared.refusal.RefusalKind.TheVariants as refusals
use Rattle.js_syntax.specs.declared.fault.Fault.{Fault}
use Rattle.js_syntax.specs.declared.fault.FaultKind.{FaultKind}
use Rattle.js_syntax.specs.declared.fault.FaultKind.TheVariants as faults
use Rattle.js_syntax.specs.declared.node.Node.{Node}
use Rattle.js_syntax.specs.Early.{HasEarlyFault}
use Rattle.js_syntax.specs.declared.check.EarlyFault.{EarlyFault}
use Rattle.js_syntax.specs.declared.check.EarlyFault.TheVariants.{Refused}

abbrev pub kind_of : FaultKind → RefusalKind
kind_of faults.TwiceDeclared = refusals.TwiceDeclared
kind_of faults.BadTarget = refusals.BadTarget
kind_of faults.StrayBreak = refusals.StrayBreak
kind_of faults.StrayReturn = refusals.StrayReturn

-- the refusal tells this fault
abbrev pub refusal_of : Fault → Refusal
refusal_of fault = record { kind = kind_of (fault.kind); place = fault.place; word = None }

-- the script is refused for its early fault, and handed back
abbrev pub Refuses : List Node → EarlyFault → Type 0
Refuses nodes (Refused refusal script) = (script ≡ nodes) × ((fault : Fault) × HasEarlyFault nodes fault × (refusal ≡ refusal_of fault))
