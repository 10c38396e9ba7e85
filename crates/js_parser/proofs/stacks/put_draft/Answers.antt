use Rattle.js_parser.proofs.Built.{put_known, same_known}
use Rattle.js_parser.proofs.stacks.put_draft.Goals as goal

pub returns-in-Ok-clause-known : goal.returns-in-Ok-clause-known
returns-in-Ok-clause-known c = λ n k h. put_known n _ _ c.args.draft c.in-Ok.ensures.ok k h

pub returns-in-Err-clause-known : goal.returns-in-Err-clause-known
returns-in-Err-clause-known c = λ n k h. same_known n _ _ c.in-Err.ensures.err k
