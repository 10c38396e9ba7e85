use Rattle.host_laws.proofs.CallTargets.{calls_have_isolates, calls_have_targets, moves_have_targets}
use Rattle.host_laws.proofs.laws.calls_have_targets.Goals as goal

pub returns : goal.returns
returns c = record { isolates = calls_have_isolates; names = calls_have_targets; moves = moves_have_targets }
