use Rattle.js_lexer.proofs.FrontLemmas.{line_at, white_at}
use Rattle.js_lexer.proofs.front.front_of.Goals as goal

pub returns-in-Line-clause-front : goal.returns-in-Line-clause-front
returns-in-Line-clause-front c = line_at c.args.c c.args.text.now c.args.tail.now c.requires cc

pub returns-in-White-clause-front : goal.returns-in-White-clause-front
returns-in-White-clause-front c = white_at c.args.c c.args.text.now c.args.tail.now c.requires cc
