use Rattle.js_lexer.proofs.FrontLemmas.{block_at, open_at}
use Rattle.js_lexer.proofs.front.block_comment.Goals as goal

pub returns-in-Some-clause-front : goal.returns-in-Some-clause-front
returns-in-Some-clause-front c = block_at _ c.args.text.now c.args.behind.now _ c.requires c.in-Some.ensures.value

pub returns-in-None-clause-front : goal.returns-in-None-clause-front
returns-in-None-clause-front c = open_at c.args.text.now c.args.behind.now c.requires c.in-None.ensures.value
