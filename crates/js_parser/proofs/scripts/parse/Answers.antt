use Rattle.parser_rules.specs.Statements.{script}
use Rattle.js_grammar.specs.Derives.{ScriptBy}
use Rattle.js_grammar.proofs.Grammar.{scripts_same}
use Rattle.js_grammar.proofs.FirstBad.{scripts_first}
use Rattle.js_parser.proofs.Refused.{ok_is, err_is}
use Rattle.js_parser.proofs.scripts.parse.Goals as goal

pub returns-clause-ok : goal.returns-clause-ok
returns-clause-ok c = ok_is script ScriptBy scripts_same scripts_first c.args.text.now c.parse_whole.result c.parse_whole.ensures.tree c.parse_whole.ensures.ok

pub returns-clause-err : goal.returns-clause-err
returns-clause-err c = err_is script ScriptBy scripts_same scripts_first c.args.text.now c.parse_whole.result c.parse_whole.ensures.err
