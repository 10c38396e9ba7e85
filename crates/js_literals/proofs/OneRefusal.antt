-- A text of literals or of arguments has one refusal, or none.
use Rattle.std.proofs.Common.{ℕ, List}
use Rattle.js_grammar.specs.Derives.{LiteralBy, ArgumentsBy}
use Rattle.js_parser.specs.Parsed.{IsRefusedOnce}
use Rattle.js_parser.proofs.OneFault.{literal_once, arguments_once}
use Rattle.js_literals.specs.One.{HasOneRefusal}

pub has_one_refusal : (bytes : List ℕ) → HasOneRefusal bytes
has_one_refusal bytes =
    let of_literal : IsRefusedOnce LiteralBy bytes = literal_once bytes in
    let of_arguments : IsRefusedOnce ArgumentsBy bytes = arguments_once bytes in
    record {
      literal = of_literal.one;
      no_literal = λ copy r is. of_literal.none is.text_tree r is.is_its_tree;
      arguments = of_arguments.one;
      no_arguments = λ told r are. of_arguments.none are.text_tree r are.is_its_tree;
    }
