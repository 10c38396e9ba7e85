use Rattle.script_meaning.proofs.TickLaws.{call_within, script_within}
use Rattle.script_meaning.proofs.laws.runs_keep_limits.Goals as goal

pub returns-clause-script : goal.returns-clause-script
returns-clause-script c = script_within

pub returns-clause-call : goal.returns-clause-call
returns-clause-call c = call_within
