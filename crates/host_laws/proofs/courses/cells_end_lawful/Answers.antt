use Rattle.host_laws.proofs.Driven.{cells_lawful}
use Rattle.host_laws.proofs.courses.cells_end_lawful.Goals as goal

pub returns : goal.returns
returns c = cells_lawful
