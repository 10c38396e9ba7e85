use Rattle.host_laws.proofs.Finished.{finished_lawful}
use Rattle.host_laws.proofs.hosts.finished_records_are_lawful.Goals as goal

pub returns : goal.returns
returns c = λ script whole stand journals run finished count all. finished_lawful script stand journals whole run finished count all
