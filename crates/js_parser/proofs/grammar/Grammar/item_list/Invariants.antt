use Rattle.std.proofs.Common.{◌≡◌, [], ◌∷◌}
use Rattle.parser_rules.specs.declared.class.Class.TheVariants as classes
use Rattle.parser_rules.specs.declared.form.Form.TheVariants as forms
use Rattle.parser_rules.specs.declared.form.Form.TheVariants.{Item}
use Rattle.parser_rules.specs.Rules.{left, sees_other, inside}
use Rattle.parser_rules.proofs.Takes.{looped}
use Rattle.js_parser.specs.State.{state_of}
use Rattle.js_parser.proofs.grammar.Grammar.item_list.Given as goal

abbrev pub invariant-loop-reader : goal.invariant-loop-reader
invariant-loop-reader g l = looped l.self.levels (sees_other (classes.BraceClose ∷ classes.End ∷ [])) (inside forms.Item) (state_of l.reader) ≡ looped l.self.levels (sees_other (classes.BraceClose ∷ classes.End ∷ [])) (inside forms.Item) (state_of l.fn.reader)

abbrev pub decreases-loop-reader : goal.decreases-loop-reader
decreases-loop-reader g l = left (state_of l.reader)
