use Rattle.parser_rules.specs.Literals.{arguments_text}
use Rattle.js_grammar.specs.Derives.{ArgumentsBy}
use Rattle.js_grammar.proofs.Grammar.{arguments_same}
use Rattle.js_grammar.proofs.FirstBad.{arguments_first}
use Rattle.js_parser.proofs.Refused.{nodes_are, err_is}
use Rattle.js_parser.proofs.scripts.parse_arguments.Goals as goal

pub returns-clause-ok : goal.returns-clause-ok
returns-clause-ok c = nodes_are arguments_text ArgumentsBy arguments_same arguments_first c.args.text.now c.parse_whole.result c.parse_whole.ensures.ok

pub returns-clause-err : goal.returns-clause-err
returns-clause-err c = err_is arguments_text ArgumentsBy arguments_same arguments_first c.args.text.now c.parse_whole.result c.parse_whole.ensures.err
