use Rattle.host_laws.proofs.Told.{told}
use Rattle.host_laws.proofs.laws.settlements_are_replied.Goals as goal

pub returns : goal.returns
returns c = told
