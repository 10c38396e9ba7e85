-- What a call does to the work that a builder holds, and the tree that it has in the end.
-- This project's own; docs/SCRIPTS.md, "Nodes and places".
use Rattle.std.specs.Prelude.{◌≡◌, List, []}
use Rattle.js_lexer.specs.declared.token.Token.{Token}
use Rattle.js_syntax.specs.Tree.{Trees}
use Rattle.parser_rules.specs.Grammar.{tree_of_parts}
use Rattle.parser_rules.specs.Work.{Work}
use Rattle.js_parser.specs.declared.builder.Builder.{Builder}
use Rattle.js_parser.specs.View.{grown, frame_of, work_of}

abbrev pub work_in : List Token → Builder → Work
work_in rest b = work_of rest b.nodes b.top b.below

-- whatever tokens are left, the work is changed like this
abbrev pub Changes : (Work → Work) → Builder → Builder → Type 0
Changes f old new = (rest : List Token) → work_in rest new ≡ f (work_in rest old)

-- the tree of the last part of the innermost form
abbrev pub last_tree : Builder → Trees
last_tree b = tree_of_parts (frame_of (grown [] b.nodes) b.top).parts
