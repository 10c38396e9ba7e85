use Rattle.js_lexer.specs.Strings.{unclosed}
use Rattle.js_lexer.proofs.StringLemmas.{ends_at}
use Rattle.js_lexer.proofs.strings.read_string.Goals as goal

pub returns-clause-inside : goal.returns-clause-inside
returns-clause-inside c = c.loop-rest.invariant.0 unclosed (ends_at c.args.quote c.loop-rest.rest.now c.in_default.len_below)
