-- Whatever a literal or an argument reads is formed.
use Rattle.std.proofs.Common.{List, [], ◌∷◌, refl}
use Rattle.js_syntax.specs.declared.kind.Kind.TheVariants as kinds
use Rattle.parser_rules.specs.declared.form.Form.{Form}
use Rattle.parser_rules.specs.declared.form.Form.TheVariants as forms
use Rattle.parser_rules.specs.Work.{Part}
use Rattle.js_grammar.specs.Spots.{Spot, Reading, Named, number_of, node, with_value, name_node, one_more}
use Rattle.js_grammar.specs.Literals as cases
use Rattle.js_grammar.specs.Literals.{LiteralProperty, LiteralForm, Argument, LiteralText, ArgumentsText}
use Rattle.grammar_laws.proofs.Parts.{IsPart, AreParts, none, also, trees_formed, one_at_least, plain, many_parts, many_entries, followed}
use Rattle.grammar_laws.proofs.Expressions.{number_part, text_part, name_part, array_part, object_part}

-- `inside` reads parts that are formed
module _ (inside : Form → Reading Part) (each : (form : Form) (p : Spot) (x : Part) (q : Spot) → inside form p x q → IsPart x) where
  property : (p : Spot) (e : Named × Part) (q : Spot) → LiteralProperty inside p e q → IsPart e.1
  property p _ q (cases.literal_property {b = b} {x = x} t u r) = each forms.Literal b x q r

  pub literal : (p : Spot) (x : Part) (q : Spot) → LiteralForm inside p x q → IsPart x
  literal p _ _ (cases.number {q = q} t) = number_part p q
  literal p _ _ (cases.text {q = q} t) = text_part p q
  literal p _ _ (cases.undefined {q = q} t) = plain kinds.Undefined _ [] q refl none
  literal p _ _ (cases.null {q = q} t) = plain kinds.Null _ [] q refl none
  literal p _ _ (cases.true_word {q = q} t) = plain kinds.True _ [] q refl none
  literal p _ _ (cases.false_word {q = q} t) = plain kinds.False _ [] q refl none
  literal p _ _ (cases.negative {a = a} {q = q} t u) = plain kinds.Minus _ (with_value (number_of a.rest) (node kinds.Num a [] q) ∷ []) (one_more q) refl (also (number_part a q) none)
  literal p _ _ (cases.array {a = a} {b = b} {q = q} {xs = xs} t m u) = array_part xs p q (many_parts (followed {P = IsPart} (each forms.Literal)) a xs b m)
  literal p _ _ (cases.object {a = a} {b = b} {q = q} {ps = es} t m u) = object_part es p q (many_entries (followed {P = λ (e : Named × Part). IsPart e.1} property) a es b m)

  argument : (p : Spot) (x : Part) (q : Spot) → Argument inside p x q → IsPart x
  argument p x q (cases.literal s r) = each forms.Literal p x q r
  argument p _ _ (cases.passing {a = a} {b = b} {c = c} {q = q} t u v w) = record {
    formed = record { form = record { name = refl; names = refl; kids = one_at_least _ }; places = refl };
    under = trees_formed (name_node p a ∷ name_node b c ∷ []) (also (name_part p a) (also (name_part b c) none));
  }

  -- ---- texts

  pub literal_text : (p : Spot) (xs : List Part) (q : Spot) → LiteralText inside p xs q → AreParts xs
  literal_text p _ q (cases.literal_text {x = x} r s) = also (each forms.Literal p x q r) none

  pub arguments_text : (p : Spot) (xs : List Part) (q : Spot) → ArgumentsText inside p xs q → AreParts xs
  arguments_text p xs q m = many_parts (followed {P = IsPart} argument) p xs q m
