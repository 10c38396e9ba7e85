use Rattle.isolate_meaning.proofs.Told.{tells_contexts}
use Rattle.isolate_meaning.proofs.laws.told_contexts_are_there.Goals as goal

pub returns : goal.returns
returns c = tells_contexts
