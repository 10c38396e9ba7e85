use Rattle.host_laws.proofs.Rest.{next_fit}
use Rattle.host_laws.proofs.courses.waiting_tasks_fit.Goals as goal

pub returns : goal.returns
returns c = next_fit
