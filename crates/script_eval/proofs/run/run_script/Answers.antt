use Rattle.std.proofs.Common.{ap, subst}
use Rattle.script_laws.specs.Scripts.{ScriptsAreThere}
use Rattle.script_laws.proofs.FunctionWalk.{script_keeps}
use Rattle.script_meaning.specs.Outcome.{Out}
use Rattle.script_meaning.specs.Places.{script_at}
use Rattle.script_eval.specs.Runs.{root_of}
use Rattle.script_eval.proofs.run.run_script.Goals as goal

pub returns-clause-scripts : goal.returns-clause-scripts
returns-clause-scripts c = λ are.
    subst (ScriptsAreThere c.args.scripts.now) (ap (λ (o : Out). o.1.heap) c.in_ok-end.ensures.meaning)
    (script_keeps c.args.scripts.now c.args.script (root_of (script_at c.args.scripts.now c.args.script)) c.args.names c.args.global _ are)
