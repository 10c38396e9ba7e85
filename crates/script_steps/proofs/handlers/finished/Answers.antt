use Rattle.script_steps.proofs.handlers.finished.Goals as goal

pub returns-in-Ok-clause-sound : goal.returns-in-Ok-clause-sound
returns-in-Ok-clause-sound c = λ s before end. c.filled.ensures.sound s before

pub returns-in-Err-clause-sound : goal.returns-in-Err-clause-sound
returns-in-Err-clause-sound c = λ s before end. c.filled-in-Err.ensures.sound s end
