use Rattle.isolate_meaning.specs.State.{fresh}
use Rattle.host_laws.proofs.Sent.{replies_alone}
use Rattle.host_laws.proofs.hosts.outs_may_be_received.Goals as goal

pub returns : goal.returns
returns c = λ script i limit journal out within replays there. (within, replies_alone (fresh i limit) replays.0 journal replays.1 out there)
