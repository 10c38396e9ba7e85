use Rattle.isolate_meaning.proofs.Replies.{replies_of_journal}
use Rattle.isolate_meaning.proofs.laws.each_task_is_answered_once.Goals as goal

pub returns : goal.returns
returns c = replies_of_journal
