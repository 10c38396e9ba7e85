-- Whatever an expression reads is formed.
use Rattle.std.proofs.Common.{List, [], ◌∷◌, Option, Some, None, refl}
use Rattle.js_syntax.specs.declared.kind.Kind.TheVariants as kinds
use Rattle.parser_rules.specs.declared.class.Class.{Class}
use Rattle.parser_rules.specs.declared.form.Form.{Form}
use Rattle.parser_rules.specs.declared.form.Form.TheVariants as forms
use Rattle.parser_rules.specs.Classes.{class_of}
use Rattle.parser_rules.specs.Work.{Part}
use Rattle.js_grammar.specs.Spots.{Spot, Reading, Tail, Named, named_at, node, with_name, with_names, with_name_if_any, with_value, name_node, number_of}
use Rattle.js_grammar.specs.Expressions as cases
use Rattle.js_grammar.specs.Expressions.{Elements, CommaBehind, ExpressionList, Items, Body, FunctionExpression, ConciseBody, ArrowFunction, Property, Primary, Simple, Access, Calls, Postfix, Operand, PrefixForm, RightOperand, Level, Products, Sums, Comparisons, Equalities, Coalescings, Conjunctions, Disjunctions, ShortCircuit, Conditional, Assignment, ExpressionForm}
use Rattle.grammar_laws.proofs.Parts.{IsPart, AreParts, none, also, trees_formed, at_least_none, one_at_least, places_count, parts_of, names_of, entries_count, plain, many_parts, many_entries, followed, Keeps, chain_keeps, then_keeps, nothing_keeps, passed}
use Rattle.grammar_laws.proofs.Operators.{Join, products_join, sums_join, comparisons_join, equalities_join, coalescings_join, conjunctions_join, disjunctions_join, assignments_join, steps_follow, prefixes_lead, of_class}

-- ---- nodes with names

-- the node of a name
pub name_part : (p q : Spot) → IsPart (name_node p q)
name_part p q = record {
  formed = record { form = record { name = (_, refl); names = refl; kids = refl }; places = refl };
  under = trees_formed [] none;
}

-- a function, whose names are its parameters
function_part : (o : Option Named) (ns : List Named) (x : Part) (p q : Spot) → IsPart x → IsPart (with_name_if_any o (with_names ns (node kinds.FunctionExpr p (x ∷ []) q)))
function_part None ns x p q h = record {
  formed = record { form = record { name = tt; names = at_least_none _; kids = refl }; places = places_count ns };
  under = trees_formed (x ∷ []) (also h none);
}
function_part (Some n) ns x p q h = record {
  formed = record { form = record { name = tt; names = at_least_none _; kids = refl }; places = places_count ns };
  under = trees_formed (x ∷ []) (also h none);
}

-- an object, whose names are its keys
pub object_part : (es : List (Named × Part)) (p q : Spot) → AreParts (parts_of es) → IsPart (with_names (names_of es) (node kinds.Object p (parts_of es) q))
object_part es p q are = record {
  formed = record { form = record { name = refl; names = at_least_none _; kids = entries_count es }; places = places_count (names_of es) };
  under = trees_formed (parts_of es) are;
}

-- a number
pub number_part : (p q : Spot) → IsPart (with_value (number_of p.rest) (node kinds.Num p [] q))
number_part p q = record {
  formed = record { form = record { name = refl; names = refl; kids = refl }; places = refl };
  under = trees_formed [] none;
}

-- a string, whose name is its text
pub text_part : (p q : Spot) → IsPart (with_name (named_at p) (node kinds.Text p [] q))
text_part p q = record {
  formed = record { form = record { name = (_, refl); names = refl; kids = refl }; places = refl };
  under = trees_formed [] none;
}

-- an array
pub array_part : (xs : List Part) (p q : Spot) → AreParts xs → IsPart (node kinds.Array p xs q)
array_part xs p q are = record {
  formed = record { form = record { name = refl; names = refl; kids = at_least_none _ }; places = refl };
  under = trees_formed xs are;
}

-- ---- the forms

-- `inside` reads parts that are formed
module _ (inside : Form → Reading Part) (each : (form : Form) (p : Spot) (x : Part) (q : Spot) → inside form p x q → IsPart x) where
  -- ---- lists

  elements : {closing : Class} (p : Spot) (xs : List Part) (q : Spot) → Elements inside closing p xs q → AreParts xs
  elements p xs _ (cases.elements {a = a} m t) = many_parts (followed {P = IsPart} (each forms.Expression)) p xs a m

  comma_keeps : Keeps (CommaBehind inside)
  comma_keeps = record { keeps = behind }
    where
      behind : (x : Part) (p : Spot) (y : Part) (q : Spot) → CommaBehind inside x p y q → IsPart x → IsPart y
      behind x p _ _ (cases.comma_behind {y = y} {a = a} {q = q} t r) h = plain kinds.Comma _ (x ∷ y ∷ []) q refl (also h (also (each forms.Expression a y q r) none))

  pub expression_list : (p : Spot) (x : Part) (q : Spot) → ExpressionList inside p x q → IsPart x
  expression_list p y q (cases.expression_list {a = a} {x = x} r c) = (chain_keeps comma_keeps).keeps x a y q c (each forms.Expression p x a r)

  pub items : (p : Spot) (xs : List Part) (q : Spot) → Items inside p xs q → AreParts xs
  items p xs q m = many_parts (each forms.Item) p xs q m

  -- ---- functions

  pub body : (p : Spot) (x : Part) (q : Spot) → Body inside p x q → IsPart x
  body p _ _ (cases.body {a = a} {b = b} {xs = xs} t m u) = record {
    formed = record { form = record { name = refl; names = refl; kids = at_least_none _ }; places = refl };
    under = trees_formed xs (items a xs b m);
  }

  function : (p : Spot) (x : Part) (q : Spot) → FunctionExpression inside p x q → IsPart x
  function p _ _ (cases.function_expression {c = c} {q = q} {o = o} {ns = ns} {x = x} t n m b) = function_part o ns x p q (body c x q b)

  concise : (p : Spot) (x : Part) (q : Spot) → ConciseBody inside p x q → IsPart x
  concise p x q (cases.braces b) = body p x q b
  concise p x q (cases.concise s r) = each forms.Expression p x q r

  arrow : (p : Spot) (x : Part) (q : Spot) → ArrowFunction inside p x q → IsPart x
  arrow p _ _ (cases.arrow_function {b = b} {q = q} {ns = ns} {x = x} n t c) = record {
    formed = record { form = record { name = refl; names = at_least_none _; kids = refl }; places = places_count ns };
    under = trees_formed (x ∷ []) (also (concise b x q c) none);
  }

  -- ---- operands

  property : (p : Spot) (e : Named × Part) (q : Spot) → Property inside p e q → IsPart e.1
  property p _ _ (cases.shorthand {a = a} t s) = name_part p a
  property p _ q (cases.with_key {b = b} {x = x} t u r) = each forms.Expression b x q r

  primary : (p : Spot) (x : Part) (q : Spot) → Primary inside p x q → IsPart x
  primary p _ _ (cases.number {q = q} t) = number_part p q
  primary p _ _ (cases.text {q = q} t) = text_part p q
  primary p _ _ (cases.this {q = q} t) = plain kinds.This _ [] q refl none
  primary p _ _ (cases.undefined {q = q} t) = plain kinds.Undefined _ [] q refl none
  primary p _ _ (cases.null {q = q} t) = plain kinds.Null _ [] q refl none
  primary p _ _ (cases.true_word {q = q} t) = plain kinds.True _ [] q refl none
  primary p _ _ (cases.false_word {q = q} t) = plain kinds.False _ [] q refl none
  primary p _ _ (cases.array {a = a} {q = q} {xs = xs} t e) = array_part xs p q (elements a xs q e)
  primary p _ _ (cases.object {a = a} {b = b} {q = q} {ps = es} t m u) = object_part es p q (many_entries (followed {P = λ (e : Named × Part). IsPart e.1} property) a es b m)
  primary p x q (cases.function f) = function p x q f
  primary p _ _ (cases.construction {c = c} {q = q} {xs = xs} t u v e) = record {
    formed = record { form = record { name = (_, refl); names = refl; kids = at_least_none _ }; places = refl };
    under = trees_formed xs (elements c xs q e);
  }

  simple : (p : Spot) (x : Part) (q : Spot) → Simple inside p x q → IsPart x
  simple p _ _ (cases.parentheses {a = a} {b = b} {x = x} t l u) = let h = expression_list a x b l in record { formed = h.formed; under = h.under }
  simple p _ _ (cases.name {q = q} t) = name_part p q
  simple p x q (cases.primary f) = primary p x q f

  -- ---- behind an operand

  access_keeps : Keeps (Access inside)
  access_keeps = record { keeps = behind }
    where
      behind : (x : Part) (p : Spot) (y : Part) (q : Spot) → Access inside x p y q → IsPart x → IsPart y
      behind x p _ _ (cases.member t u) h = record {
        formed = record { form = record { name = (_, refl); names = refl; kids = refl }; places = refl };
        under = trees_formed (x ∷ []) (also h none);
      }
      behind x p _ _ (cases.index {y = y} {a = a} {b = b} {q = q} t l u) h = plain kinds.Index _ (x ∷ y ∷ []) q refl (also h (also (expression_list a y b l) none))
      behind x p _ _ (cases.call {ys = ys} {a = a} {q = q} t e) h = record {
        formed = record { form = record { name = refl; names = refl; kids = one_at_least _ }; places = refl };
        under = trees_formed (x ∷ ys) (also h (elements a ys q e));
      }

  calls_keep : Keeps (Calls inside)
  calls_keep = chain_keeps access_keeps

  postfix_keeps : Keeps (Postfix inside)
  postfix_keeps = record { keeps = behind }
    where
      behind : (x : Part) (p : Spot) (y : Part) (q : Spot) → Postfix inside x p y q → IsPart x → IsPart y
      behind x p _ _ (cases.stepped {q = q} t) h = plain _ _ (x ∷ []) q (steps_follow.leaves (class_of p.rest) (of_class cases.steps p.rest (passed t))) (also h none)
      behind x p _ _ (cases.not_stepped s) h = h

  operand : (p : Spot) (x : Part) (q : Spot) → Operand inside p x q → IsPart x
  operand p x q (cases.prefixed s r) = each forms.Prefix p x q r
  operand p z q (cases.called {a = a} {b = b} {x = x} {y = y} s c f) = postfix_keeps.keeps y b z q f (calls_keep.keeps x a y b c (simple p x a s))

  pub prefix : (p : Spot) (x : Part) (q : Spot) → PrefixForm inside p x q → IsPart x
  prefix p _ _ (cases.prefix {a = a} {q = q} {x = x} t o) = plain _ _ (x ∷ []) q (prefixes_lead.leaves (class_of p.rest) (passed t)) (also (operand a x q o) none)

  -- ---- operators between operands

  right_keeps : (operators : List Class) (Tighter : Tail) → Join operators → Keeps Tighter → Keeps (RightOperand inside operators Tighter)
  right_keeps operators Tighter join k = record { keeps = behind }
    where
      behind : (x : Part) (p : Spot) (y : Part) (q : Spot) → RightOperand inside operators Tighter x p y q → IsPart x → IsPart y
      behind x p _ _ (cases.right_operand {y = y} {z = z} {a = a} {b = b} {q = q} t o f) h =
          plain _ _ (x ∷ z ∷ []) q (join.leaves (class_of p.rest) (passed t)) (also h (also (k.keeps y b z q f (operand a y b o)) none))

  level_keeps : (operators : List Class) (Tighter : Tail) → Join operators → Keeps Tighter → Keeps (Level inside operators Tighter)
  level_keeps operators Tighter join k = chain_keeps (right_keeps operators Tighter join k)

  products_keep : Keeps (Products inside)
  products_keep = level_keeps _ _ products_join nothing_keeps

  sums_keep : Keeps (Sums inside)
  sums_keep = then_keeps products_keep (level_keeps _ _ sums_join products_keep)

  comparisons_keep : Keeps (Comparisons inside)
  comparisons_keep = then_keeps sums_keep (level_keeps _ _ comparisons_join sums_keep)

  equalities_keep : Keeps (Equalities inside)
  equalities_keep = then_keeps comparisons_keep (level_keeps _ _ equalities_join comparisons_keep)

  coalescings_keep : Keeps (Coalescings inside)
  coalescings_keep = level_keeps _ _ coalescings_join equalities_keep

  conjunctions_keep : Keeps (Conjunctions inside)
  conjunctions_keep = level_keeps _ _ conjunctions_join equalities_keep

  disjunctions_keep : Keeps (Disjunctions inside)
  disjunctions_keep = level_keeps _ _ disjunctions_join (then_keeps equalities_keep conjunctions_keep)

  short_keeps : Keeps (ShortCircuit inside)
  short_keeps = record { keeps = behind }
    where
      behind : (x : Part) (p : Spot) (y : Part) (q : Spot) → ShortCircuit inside x p y q → IsPart x → IsPart y
      behind x p z q (cases.coalescing {y = y} {a = a} e s c) h = coalescings_keep.keeps y a z q c (equalities_keep.keeps x p y a e h)
      behind x p u q (cases.logical {y = y} {z = z} {a = a} {b = b} e s c d) h =
          disjunctions_keep.keeps z b u q d (conjunctions_keep.keeps y a z b c (equalities_keep.keeps x p y a e h))

  conditional_keeps : Keeps (Conditional inside)
  conditional_keeps = record { keeps = behind }
    where
      behind : (x : Part) (p : Spot) (y : Part) (q : Spot) → Conditional inside x p y q → IsPart x → IsPart y
      behind x p _ _ (cases.choice {c = c} {y = y} {z = z} {a = a} {b = b} {d = d} {e = e} {q = q} s t r u v) h =
          plain kinds.Cond _ (c ∷ y ∷ z ∷ []) q refl
          (also (short_keeps.keeps x p c a s h) (also (each forms.Expression b y d r) (also (each forms.Expression e z q v) none)))
      behind x p y q (cases.no_choice s n) h = short_keeps.keeps x p y q s h

  assignment_keeps : Keeps (Assignment inside)
  assignment_keeps = record { keeps = behind }
    where
      behind : (x : Part) (p : Spot) (y : Part) (q : Spot) → Assignment inside x p y q → IsPart x → IsPart y
      behind x p _ _ (cases.assigned {y = y} {a = a} {q = q} t r) h =
          plain _ _ (x ∷ y ∷ []) q (assignments_join.leaves (class_of p.rest) (passed t)) (also h (also (each forms.Expression a y q r) none))
      behind x p z q (cases.not_assigned {y = y} {a = a} n f c) h = conditional_keeps.keeps y a z q c (postfix_keeps.keeps x p y a f h)

  -- ---- expressions

  pub expression : (p : Spot) (x : Part) (q : Spot) → ExpressionForm inside p x q → IsPart x
  expression p x q (cases.arrow f) = arrow p x q f
  expression p y q (cases.prefix_first {a = a} {x = x} s r c) = conditional_keeps.keeps x a y q c (each forms.Prefix p x a r)
  expression p z q (cases.simple_first {a = a} {b = b} {x = x} {y = y} s n c f) = assignment_keeps.keeps y b z q f (calls_keep.keeps x a y b c (simple p x a s))
