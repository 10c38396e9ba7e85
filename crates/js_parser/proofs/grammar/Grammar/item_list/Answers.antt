use Rattle.std.proofs.Common.{[], ◌∷◌, refl, sym}
use Rattle.parser_rules.specs.declared.class.Class.TheVariants as classes
use Rattle.parser_rules.specs.declared.form.Form.TheVariants as forms
use Rattle.parser_rules.specs.declared.form.Form.TheVariants.{Item}
use Rattle.parser_rules.specs.Rules.{sees_other, inside}
use Rattle.parser_rules.specs.Expressions.{item_list}
use Rattle.parser_rules.proofs.Takes.{loop_go, loop_less, loop_end}
use Rattle.js_parser.specs.State.{state_of}
use Rattle.js_parser.proofs.grammar.Grammar.item_list.Goals as goal

pub loop-reader-init : goal.loop-reader-init
loop-reader-init g c = refl

pub loop-reader-preserved : goal.loop-reader-preserved
loop-reader-preserved g c = loop_go c.args.self.now.levels (sees_other (classes.BraceClose ∷ classes.End ∷ [])) (inside forms.Item) (state_of c.loop-reader.reader) _ _ refl (sym c.loop-reader-test.ensures) c.in_ok-inside.ensures c.loop-reader.invariant

pub loop-reader-smaller : goal.loop-reader-smaller
loop-reader-smaller g c = loop_less c.args.self.now.levels (sees_other (classes.BraceClose ∷ classes.End ∷ [])) (inside forms.Item) (state_of c.loop-reader.reader) _ refl (sym c.loop-reader-test.ensures) c.in_ok-inside.ensures

pub returns : goal.returns
unfolding item_list
returns g c = loop_end c.args.self.now.levels (sees_other (classes.BraceClose ∷ classes.End ∷ [])) (inside forms.Item) (state_of c.loop-reader.reader) _ (sym c.loop-reader-test.ensures) c.loop-reader.invariant
