use Rattle.script_eval.proofs.FrameLists.{frames_after, frames_grow, frame_taken}
use Rattle.script_eval.proofs.Ranks.{goes_on}
use Rattle.script_eval.proofs.machine.advance.Goals as goal

pub place-requires-in-Some-clause-frames : goal.place-requires-in-Some-clause-frames
place-requires-in-Some-clause-frames c = frames_after _ _ _ _ _ _ c.in-Some.ensures c.resume-step.ensures.grown c.requires.frames

pub returns-in-Some-clause-falls : goal.returns-in-Some-clause-falls
returns-in-Some-clause-falls c = goes_on _ _ _ _ _ _ _ _ _ _ c.in-Ended.is c.requires.running c.in-Some.ensures c.place-in-Some.ensures.falls

pub place-requires-clause-frames : goal.place-requires-clause-frames
place-requires-clause-frames c = frames_grow _ _ _ _ c.enter-step.ensures.grown c.requires.frames

pub resume-step-requires-clause-frame : goal.resume-step-requires-clause-frame
resume-step-requires-clause-frame c = frame_taken _ _ _ _ _ c.in-Some.ensures c.requires.frames
