use Rattle.isolate_meaning.proofs.Told.{context_reply}
use Rattle.isolate_meaning.proofs.laws.new_contexts_are_numbered.Goals as goal

pub returns : goal.returns
returns c = context_reply
