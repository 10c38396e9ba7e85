use Rattle.host_laws.proofs.OneThread.{one_thread_course, one_thread_rests}
use Rattle.host_laws.proofs.courses.one_thread_is_one_order.Goals as goal

pub returns : goal.returns
returns c = record { course = one_thread_course; rest = one_thread_rests }
