use Rattle.script_steps.proofs.handlers.finish.Goals as goal

pub returns-in-Absent-clause-sound : goal.returns-in-Absent-clause-sound
returns-in-Absent-clause-sound c = λ s site end. c.filled.ensures.sound s end
