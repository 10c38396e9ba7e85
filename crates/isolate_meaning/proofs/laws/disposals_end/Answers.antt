use Rattle.isolate_meaning.proofs.Ends.{ended_of_journal}
use Rattle.isolate_meaning.proofs.laws.disposals_end.Goals as goal

pub returns : goal.returns
returns c = ended_of_journal
