use Rattle.std.proofs.Common.{◌≡◌, ℕ, ◌-◌, [], List, length, sym, ap, ◌∙◌, subst, arith}
use Rattle.js_parser.specs.View.{grown, root_at}
use Rattle.js_literals.specs.Copies.{side_by_side}
use Rattle.js_literals.specs.View.{tree_at, trees_at, HasNaturals, AreNumbers}
use Rattle.js_literals.proofs.Nodes.{stands}
use Rattle.js_literals.proofs.Naturals.{kids_numbers}
use Rattle.js_literals.proofs.Texts.{no_parts}
use Rattle.js_literals.proofs.literals.parts_of.Goals as goal

pub returns-then-len-eq0-clause-parts : goal.returns-then-len-eq0-clause-parts
returns-then-len-eq0-clause-parts c = no_parts c.args.script.now (omega arith)

pub returns-clause-parts : goal.returns-clause-parts
returns-clause-parts c =
    let s = stands c.args.script.now c.root.result c.node.result.now c.node.ensures.node c.node.ensures.kids in
    let at : length c.args.script.now - 1 ≡ c.root.result = omega arith in
    ap (λ (n : ℕ). side_by_side (root_at (grown [] c.args.script.now) n).kids) at ∙ s.parts ∙ ap (trees_at c.args.script.now) (sym c.as_slice.ensures.items)

pub returns-clause-numbers : goal.returns-clause-numbers
returns-clause-numbers c =
    let nodes = c.args.script.now in
    let s = stands nodes c.root.result c.node.result.now c.node.ensures.node c.node.ensures.kids in
    let at : length nodes - 1 ≡ c.root.result = omega arith in
    let whole : HasNaturals (tree_at nodes c.root.result) = subst (λ (n : ℕ). HasNaturals (tree_at nodes n)) at (c.requires.0, c.requires.1) in
    subst (λ (ks : List ℕ). AreNumbers nodes ks) (sym c.as_slice.ensures.items)
    (kids_numbers nodes c.root.result c.node.result.now s c.node.ensures.kids (omega arith) whole)
