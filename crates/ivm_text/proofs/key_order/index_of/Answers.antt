use Rattle.ivm_text.proofs.IndexLemmas.{index_of-found}
use Rattle.ivm_text.proofs.key_order.index_of.Goals as goal

pub returns-clause-value : goal.returns-clause-value
returns-clause-value c = index_of-found c.args.key.now c.decimal_index.result c.decimal_index.ensures.some c.decimal_index.ensures.none
