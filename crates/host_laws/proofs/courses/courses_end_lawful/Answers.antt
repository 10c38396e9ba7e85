use Rattle.host_laws.proofs.Rest.{course_is_lawful}
use Rattle.host_laws.proofs.courses.courses_end_lawful.Goals as goal

pub returns : goal.returns
returns c = course_is_lawful
