use Rattle.isolate_meaning.proofs.Only.{one_end}
use Rattle.isolate_meaning.proofs.laws.journals_have_one_end.Goals as goal

pub returns : goal.returns
returns c = one_end c.texts_are_read_once.ensures
