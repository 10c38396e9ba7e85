use Rattle.isolate_meaning.proofs.Limits.{keep_their_limits}
use Rattle.isolate_meaning.proofs.laws.entries_keep_their_limits.Goals as goal

pub returns : goal.returns
returns c = keep_their_limits
