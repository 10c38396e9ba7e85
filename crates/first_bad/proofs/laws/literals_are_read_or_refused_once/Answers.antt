use Rattle.first_bad.proofs.OneRefusal.{one_of_literals}
use Rattle.first_bad.proofs.laws.literals_are_read_or_refused_once.Goals as goal

pub returns : goal.returns
returns c = one_of_literals
