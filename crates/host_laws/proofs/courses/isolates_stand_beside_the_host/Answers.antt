use Rattle.host_laws.proofs.Rest.{course_beside}
use Rattle.host_laws.proofs.courses.isolates_stand_beside_the_host.Goals as goal

pub returns : goal.returns
returns c = course_beside
