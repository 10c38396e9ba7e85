use Rattle.host_laws.proofs.CallTargets.{courses_have_targets}
use Rattle.host_laws.proofs.courses.courses_have_targets.Goals as goal

pub returns : goal.returns
returns c = courses_have_targets
