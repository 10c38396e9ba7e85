use Rattle.std.proofs.Common.{◌≡◌, drop}
use Rattle.parser_rules.specs.Classes.{class_in}
use Rattle.js_parser.specs.Tables.{entries}
use Rattle.js_parser.proofs.classes.class_in.Given as goal

abbrev pub invariant-loop-spelling : goal.invariant-loop-spelling
invariant-loop-spelling l = class_in (entries (drop l.spelling-index l.table)) l.text l.other ≡ class_in (entries l.table) l.text l.other
