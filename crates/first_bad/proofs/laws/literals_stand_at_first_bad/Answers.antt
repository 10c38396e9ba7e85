use Rattle.first_bad.proofs.FirstBad.{of_literals}
use Rattle.first_bad.proofs.laws.literals_stand_at_first_bad.Goals as goal

pub returns : goal.returns
returns c = of_literals
