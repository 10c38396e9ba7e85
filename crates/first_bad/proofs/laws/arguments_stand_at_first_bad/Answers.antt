use Rattle.first_bad.proofs.FirstBad.{of_arguments}
use Rattle.first_bad.proofs.laws.arguments_stand_at_first_bad.Goals as goal

pub returns : goal.returns
returns c = of_arguments
