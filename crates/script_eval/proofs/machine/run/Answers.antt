use Rattle.std.proofs.Common.{arith}
use Rattle.charged_heap.proofs.GrowthLaws.{grows-refl}
use Rattle.script_eval.proofs.FrameLists.{frames_begin}
use Rattle.script_eval.proofs.RestLemmas.{left-begins}
use Rattle.script_eval.proofs.machine.run.Goals as goal

pub loop-end-init : goal.loop-end-init
loop-end-init c = record {
  meaning = left-begins c.args.scripts.now c.new-frames.result c.args.inner _ c.new-frames.ensures;
  less = omega arith;
  grown = grows-refl c.args.heap.now;
  closed = c.requires.closed;
  sound = c.requires.site;
  frames = frames_begin c.args.scripts.now c.args.heap.now c.new-frames.result c.new-frames.ensures;
}
