use Rattle.js_parser.proofs.Built.{left_known, last_known, none_known}
use Rattle.js_parser.proofs.stacks.take_draft.Goals as goal

pub returns-in-Some-clause-known : goal.returns-in-Some-clause-known
returns-in-Some-clause-known c = λ n k. left_known n _ _ c.in-Some.draft c.in-Some.ensures k

pub returns-in-Some-clause-taken : goal.returns-in-Some-clause-taken
returns-in-Some-clause-taken c = λ n k. last_known n _ _ c.in-Some.draft c.in-Some.ensures k

pub returns-in-None-clause-known : goal.returns-in-None-clause-known
returns-in-None-clause-known c = λ n k. none_known n _ c.in-None.ensures.1
