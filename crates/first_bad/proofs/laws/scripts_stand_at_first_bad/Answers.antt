use Rattle.first_bad.proofs.FirstBad.{of_scripts}
use Rattle.first_bad.proofs.laws.scripts_stand_at_first_bad.Goals as goal

pub returns : goal.returns
returns c = of_scripts
