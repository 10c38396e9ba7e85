use Rattle.script_laws.proofs.FunctionWalk.{call_keeps, script_keeps}
use Rattle.script_laws.proofs.laws.scripts_are_there.Goals as goal

pub returns-clause-script : goal.returns-clause-script
returns-clause-script c = script_keeps

pub returns-clause-call : goal.returns-clause-call
returns-clause-call c = call_keeps
