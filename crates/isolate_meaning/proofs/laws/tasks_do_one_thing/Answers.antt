use Rattle.isolate_meaning.proofs.Only.{one_deed}
use Rattle.isolate_meaning.proofs.laws.tasks_do_one_thing.Goals as goal

pub returns : goal.returns
returns c = one_deed c.texts_are_read_once.ensures
