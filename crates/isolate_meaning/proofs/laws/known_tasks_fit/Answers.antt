use Rattle.isolate_meaning.proofs.Told.{known_fits}
use Rattle.isolate_meaning.proofs.laws.known_tasks_fit.Goals as goal

pub returns : goal.returns
returns c = known_fits
