-- What is accepted is the tree of a text, and formed.
use Rattle.std.proofs.Common.{List}
use Rattle.js_syntax.specs.Tree.{Trees}
use Rattle.js_lexer.specs.declared.token.Token.{Token}
use Rattle.parser_rules.specs.declared.form.Form.{Form}
use Rattle.parser_rules.specs.Work.{Part}
use Rattle.parser_rules.specs.Grammar.{limit}
use Rattle.js_grammar.specs.Spots.{Reading}
use Rattle.js_grammar.specs.Derives.{ScriptBy, LiteralBy, ArgumentsBy, derives_script, derives_literal, derives_arguments, Derives, DerivesLiteral, DerivesArguments}
use Rattle.js_grammar.proofs.Grammar.{scripts_same, literals_same, arguments_same}
use Rattle.grammar_laws.specs.Formed.{GivesFormed}
use Rattle.js_parser.specs.declared.scripts.Whole.TheVariants as wholes
use Rattle.js_parser.specs.Accepted.{HasRoot, AcceptsWholeTrees}

script_root : {reads : Form → Reading Part} {ts : List Token} {t : Trees} → ScriptBy reads ts t → HasRoot t
script_root (derives_script many) = tt

literal_root : {reads : Form → Reading Part} {ts : List Token} {t : Trees} → LiteralBy reads ts t → HasRoot t
literal_root (derives_literal one) = tt

arguments_root : {reads : Form → Reading Part} {ts : List Token} {t : Trees} → ArgumentsBy reads ts t → HasRoot t
arguments_root (derives_arguments all) = tt

pub whole_trees : GivesFormed Derives → GivesFormed DerivesLiteral → GivesFormed DerivesArguments → AcceptsWholeTrees
whole_trees scripts literals arguments wholes.Script end ts t accepts =
    let derives : Derives limit ts t = (scripts_same.accepts limit end ts t).0 accepts in
    record { root = script_root derives; formed = scripts limit ts t derives }
whole_trees scripts literals arguments wholes.Literal end ts t accepts =
    let derives : DerivesLiteral limit ts t = (literals_same.accepts limit end ts t).0 accepts in
    record { root = literal_root derives; formed = literals limit ts t derives }
whole_trees scripts literals arguments wholes.Arguments end ts t accepts =
    let derives : DerivesArguments limit ts t = (arguments_same.accepts limit end ts t).0 accepts in
    record { root = arguments_root derives; formed = arguments limit ts t derives }
