use Rattle.std.proofs.Common.{◌≡◌, [], ◌∷◌}
use Rattle.parser_rules.specs.declared.class.Class.TheVariants as classes
use Rattle.parser_rules.specs.Rules.{left, sees_other}
use Rattle.parser_rules.specs.Expressions.{element}
use Rattle.parser_rules.proofs.Takes.{looped}
use Rattle.js_parser.specs.State.{state_of}
use Rattle.js_parser.proofs.grammar.Grammar.argument_list.Given as goal

abbrev pub invariant-loop-reader : goal.invariant-loop-reader
invariant-loop-reader g l = looped l.self.levels (sees_other (classes.ParenClose ∷ [])) (element classes.ParenClose) (state_of l.reader) ≡ looped l.self.levels (sees_other (classes.ParenClose ∷ [])) (element classes.ParenClose) (state_of l.fn.reader)

abbrev pub decreases-loop-reader : goal.decreases-loop-reader
decreases-loop-reader g l = left (state_of l.reader)
