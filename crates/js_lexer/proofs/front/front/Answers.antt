use Rattle.js_lexer.proofs.FrontLemmas.{end_at}
use Rattle.std.proofs.Common.{arith}
use Rattle.js_lexer.proofs.front.front.Goals as goal

pub returns-in-empty-clause-front : goal.returns-in-empty-clause-front
returns-in-empty-clause-front c = end_at c.args.text.now (omega arith)
