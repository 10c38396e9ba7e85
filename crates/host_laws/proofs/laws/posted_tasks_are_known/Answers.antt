use Rattle.host_laws.proofs.Known.{posts_known}
use Rattle.host_laws.proofs.laws.posted_tasks_are_known.Goals as goal

pub returns : goal.returns
returns c = posts_known
