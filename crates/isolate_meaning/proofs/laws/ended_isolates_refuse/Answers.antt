use Rattle.isolate_meaning.proofs.Ends.{refused_where_ended}
use Rattle.isolate_meaning.proofs.laws.ended_isolates_refuse.Goals as goal

pub returns : goal.returns
returns c = refused_where_ended
