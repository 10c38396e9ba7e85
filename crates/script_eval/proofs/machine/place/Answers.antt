use Rattle.script_eval.proofs.FrameLists.{frames_grow}
use Rattle.script_eval.proofs.machine.place.Goals as goal

pub returns-in-Builtin-clause-frames : goal.returns-in-Builtin-clause-frames
returns-in-Builtin-clause-frames c = frames_grow _ _ _ _ c.call-end.ensures.grown c.requires.frames
