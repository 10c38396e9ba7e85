use Rattle.parser_rules.specs.Literals.{literal_text}
use Rattle.js_grammar.specs.Derives.{LiteralBy}
use Rattle.js_grammar.proofs.Grammar.{literals_same}
use Rattle.js_grammar.proofs.FirstBad.{literals_first}
use Rattle.js_parser.proofs.Refused.{nodes_are, err_is}
use Rattle.js_parser.proofs.scripts.parse_literal.Goals as goal

pub returns-clause-ok : goal.returns-clause-ok
returns-clause-ok c = nodes_are literal_text LiteralBy literals_same literals_first c.args.text.now c.parse_whole.result c.parse_whole.ensures.ok

pub returns-clause-err : goal.returns-clause-err
returns-clause-err c = err_is literal_text LiteralBy literals_same literals_first c.args.text.now c.parse_whole.result c.parse_whole.ensures.err
