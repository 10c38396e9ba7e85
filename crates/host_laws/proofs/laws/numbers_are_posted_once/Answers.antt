use Rattle.host_laws.proofs.Accounted.{posted_are_drawn, posted_once}
use Rattle.host_laws.proofs.laws.numbers_are_posted_once.Goals as goal

pub returns-clause-drawn : goal.returns-clause-drawn
returns-clause-drawn c = posted_are_drawn

pub returns-clause-once : goal.returns-clause-once
returns-clause-once c = posted_once
