use Rattle.first_bad.proofs.OneRefusal.{one_of_scripts}
use Rattle.first_bad.proofs.laws.scripts_are_read_or_refused_once.Goals as goal

pub returns : goal.returns
returns c = one_of_scripts
