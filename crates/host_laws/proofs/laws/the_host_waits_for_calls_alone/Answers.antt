use Rattle.host_laws.proofs.Numbers.{none_left_when_all_settled}
use Rattle.host_laws.proofs.laws.the_host_waits_for_calls_alone.Goals as goal

pub returns : goal.returns
returns c = none_left_when_all_settled
