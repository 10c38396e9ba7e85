use Rattle.js_lexer.proofs.FrontLemmas.{line_comment_at}
use Rattle.js_lexer.proofs.front.line_comment.Goals as goal

pub returns-clause-front : goal.returns-clause-front
returns-clause-front c =
    line_comment_at c.args.text.now c.args.behind.now _ c.requires c.skip_to_line.ensures.value
