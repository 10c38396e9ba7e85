use Rattle.isolate_meaning.proofs.Scripts.{scripts_stay}
use Rattle.isolate_meaning.proofs.laws.scripts_stay_there.Goals as goal

pub returns : goal.returns
returns c = scripts_stay
