use Rattle.isolate_meaning.proofs.Ends.{caused_of_journal}
use Rattle.isolate_meaning.proofs.laws.ends_have_causes.Goals as goal

pub returns : goal.returns
returns c = caused_of_journal
