use Rattle.std.proofs.Common.{◌≡◌, [], ◌∷◌}
use Rattle.parser_rules.specs.declared.class.Class.TheVariants as classes
use Rattle.parser_rules.specs.Rules.{left, sees}
use Rattle.parser_rules.specs.Statements.{further_let}
use Rattle.parser_rules.proofs.Takes.{looped}
use Rattle.js_parser.specs.State.{state_of}
use Rattle.js_parser.proofs.grammar.Grammar.further_lets.Given as goal

abbrev pub invariant-loop-reader : goal.invariant-loop-reader
invariant-loop-reader g l = looped l.self.levels (sees (classes.Comma ∷ [])) further_let (state_of l.reader) ≡ looped l.self.levels (sees (classes.Comma ∷ [])) further_let (state_of l.fn.reader)

abbrev pub decreases-loop-reader : goal.decreases-loop-reader
decreases-loop-reader g l = left (state_of l.reader)
