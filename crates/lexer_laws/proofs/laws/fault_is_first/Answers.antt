use Rattle.lexer_laws.proofs.FaultLemmas.{fault_is_first}
use Rattle.lexer_laws.proofs.laws.fault_is_first.Goals as goal

pub returns : goal.returns
returns c = fault_is_first
