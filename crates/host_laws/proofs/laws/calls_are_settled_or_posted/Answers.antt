use Rattle.host_laws.proofs.Accounted.{accounted}
use Rattle.host_laws.proofs.laws.calls_are_settled_or_posted.Goals as goal

pub returns : goal.returns
returns c = accounted
