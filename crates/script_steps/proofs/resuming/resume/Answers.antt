use Rattle.std.proofs.Common.{subst}
use Rattle.script_steps.specs.Sound.{IsSoundFrame}
use Rattle.script_steps.proofs.resuming.resume.Goals as goal

pub returns-in-Filled-clause-sound : goal.returns-in-Filled-clause-sound
returns-in-Filled-clause-sound c = c.filled.ensures.sound c.args.heap.now c.requires.ended

pub returns-in-Body-clause-sound : goal.returns-in-Body-clause-sound
returns-in-Body-clause-sound c = c.body.ensures.sound c.args.heap.now c.requires.ended

pub returns-in-Finally-clause-sound : goal.returns-in-Finally-clause-sound
returns-in-Finally-clause-sound c =
    c.finished.ensures.sound c.args.heap.now (subst (IsSoundFrame c.args.heap.now) c.in-Finally.is c.requires.frame) c.requires.ended
