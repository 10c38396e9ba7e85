use Rattle.std.proofs.Common.{refl, sym}
use Rattle.parser_rules.specs.Rules.{sees}
use Rattle.parser_rules.specs.Expressions.{comparison, comparison_operators}
use Rattle.parser_rules.proofs.Takes.{loop_go, loop_less, loop_end}
use Rattle.js_parser.specs.State.{state_of}
use Rattle.js_parser.proofs.grammar.Grammar.comparisons_on.Goals as goal

pub loop-reader-init : goal.loop-reader-init
loop-reader-init g c = refl

pub loop-reader-preserved : goal.loop-reader-preserved
unfolding comparison
loop-reader-preserved g c = loop_go c.args.self.now.levels (sees comparison_operators) comparison (state_of c.loop-reader.reader) _ _ refl (sym c.loop-reader-test.ensures) c.in_ok-comparison.ensures c.loop-reader.invariant

pub loop-reader-smaller : goal.loop-reader-smaller
unfolding comparison
loop-reader-smaller g c = loop_less c.args.self.now.levels (sees comparison_operators) comparison (state_of c.loop-reader.reader) _ refl (sym c.loop-reader-test.ensures) c.in_ok-comparison.ensures

pub returns : goal.returns
returns g c = loop_end c.args.self.now.levels (sees comparison_operators) comparison (state_of c.loop-reader.reader) _ (sym c.loop-reader-test.ensures) c.loop-reader.invariant
