use Rattle.script_meaning.proofs.LoopLaws.{loop_goes_on}
use Rattle.script_meaning.proofs.laws.loops_go_on.Goals as goal

pub returns : goal.returns
returns c = loop_goes_on
