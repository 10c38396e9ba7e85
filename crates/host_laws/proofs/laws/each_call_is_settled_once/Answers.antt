use Rattle.host_laws.proofs.Settled.{settled_once}
use Rattle.host_laws.proofs.laws.each_call_is_settled_once.Goals as goal

pub returns : goal.returns
returns c = settled_once
