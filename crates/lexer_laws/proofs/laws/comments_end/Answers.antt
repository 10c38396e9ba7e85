use Rattle.lexer_laws.proofs.CommentLemmas.{comment_ends}
use Rattle.lexer_laws.proofs.laws.comments_end.Goals as goal

pub returns : goal.returns
returns c = comment_ends
