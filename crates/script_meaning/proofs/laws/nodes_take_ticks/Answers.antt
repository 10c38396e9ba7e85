use Rattle.script_meaning.proofs.TickLaws.{takes_ticks}
use Rattle.script_meaning.proofs.laws.nodes_take_ticks.Goals as goal

pub returns : goal.returns
returns c = takes_ticks
