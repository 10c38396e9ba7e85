use Rattle.std.proofs.Common.{get_or, ap, ◌∙◌, arith}
use Rattle.js_parser.specs.View.{tree_of}
use Rattle.js_literals.specs.View.{tree_at, trees_at}
use Rattle.js_literals.proofs.Derived as derived
use Rattle.js_literals.proofs.Kids.{alone}
use Rattle.js_literals.proofs.literals.literal.Goals as goal

pub parts_of-requires : goal.parts_of-requires
parts_of-requires c = derived.literal_naturals c.args.text.now _ c.in_ok-script.ensures.ok

pub bounds-parts_of-0 : goal.bounds-parts_of-0
bounds-parts_of-0 c = omega (arith, (alone c.args.text.now c.in_ok-script.script c.parts_of.result.now c.in_ok-script.ensures.ok c.parts_of.ensures.parts).0)

pub copy_of-requires-clause-naturals : goal.copy_of-requires-clause-naturals
copy_of-requires-clause-naturals c = (c.parts_of.ensures.numbers 0 0 (omega (arith, (alone c.args.text.now c.in_ok-script.script c.parts_of.result.now c.in_ok-script.ensures.ok c.parts_of.ensures.parts).0))).1

pub returns-clause-ok : goal.returns-clause-ok
returns-clause-ok c = record {
  text_tree = tree_of c.in_ok-script.script;
  is_its_tree = c.in_ok-script.ensures.ok;
  literal = tree_at c.in_ok-script.script (get_or c.parts_of.result.now 0 0);
  is_all = c.parts_of.ensures.parts ∙ ap (trees_at c.in_ok-script.script) (alone c.args.text.now c.in_ok-script.script c.parts_of.result.now c.in_ok-script.ensures.ok c.parts_of.ensures.parts).1;
  is_copied = c.in_ok-copy_of.ensures;
}
