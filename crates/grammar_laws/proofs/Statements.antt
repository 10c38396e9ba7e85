-- Whatever a statement or a declaration reads is formed.
use Rattle.std.proofs.Common.{◌≡◌, suc, List, [], ◌∷◌, length, map, Option, Some, None, refl, sym, subst}
use Rattle.js_syntax.specs.declared.kind.Kind.{Kind}
use Rattle.js_syntax.specs.declared.kind.Kind.TheVariants as kinds
use Rattle.js_syntax.specs.Shape.{Shape, HasName, Counts, shape_of, shape, never, at_least, one_a_name}
use Rattle.js_trees.specs.Tree.{kid_count}
use Rattle.parser_rules.specs.declared.class.Class.{Class}
use Rattle.parser_rules.specs.declared.class.Class.TheVariants as classes
use Rattle.parser_rules.specs.declared.form.Form.{Form}
use Rattle.parser_rules.specs.declared.form.Form.TheVariants as forms
use Rattle.parser_rules.specs.Work.{Part}
use Rattle.js_grammar.specs.Spots.{Spot, Reading, Named, absent, node, with_name_if_any, with_names, trees_of}
use Rattle.js_grammar.specs.Statements as cases
use Rattle.js_grammar.specs.Statements.{LetBinding, ConstBinding, FurtherBinding, Bindings, Lets, Consts, declared, Condition, Alternative, ExpressionBefore, ForStart, Returned, Finaliser, FinaliserIfAny, BlockForm, StatementForm, ItemForm}
use Rattle.grammar_laws.proofs.Parts.{IsPart, AreParts, none, also, trees_formed, at_least_none, one_at_least, places_count, parts_of, names_of, entries_count, plain, many_entries}
use Rattle.grammar_laws.proofs.Expressions.{expression_list, items, body}

-- ---- nodes

-- what is left out
absent_part : (q : Spot) → IsPart (absent q)
absent_part q = plain kinds.Absent _ [] q refl none

-- a declaration, with a name for each part, and at least one
declaration_part : (kind : Kind) (e : Named × Part) (es : List (Named × Part)) (p q : Spot) → shape_of kind ≡ shape never (at_least 1) one_a_name
    → AreParts (parts_of (e ∷ es)) → IsPart (with_names (names_of (e ∷ es)) (node kind p (parts_of (e ∷ es)) q))
declaration_part kind e es p q s are = record {
  formed = record {
    form = record {
      name = subst (λ (s : Shape). HasName s.name None) (sym s) refl;
      names = subst (λ (s : Shape). Counts s.names (suc (length (map (λ (n : Named). n.0) (names_of es)))) (suc (length (map (λ (n : Named). n.0) (names_of es))))) (sym s) (one_at_least _);
      kids = subst (λ (s : Shape). Counts s.kids (suc (length (map (λ (n : Named). n.0) (names_of es)))) (kid_count (trees_of (parts_of (e ∷ es))))) (sym s) (entries_count (e ∷ es));
    };
    places = places_count (names_of (e ∷ es));
  };
  under = trees_formed (parts_of (e ∷ es)) are;
}

-- `try`, with the name that `catch` may have
try_part : (o : Option Named) (x y z : Part) (p q : Spot) → IsPart x → IsPart y → IsPart z → IsPart (with_name_if_any o (node kinds.Try p (x ∷ y ∷ z ∷ []) q))
try_part None x y z p q f g h = record {
  formed = record { form = record { name = tt; names = refl; kids = refl }; places = refl };
  under = trees_formed (x ∷ y ∷ z ∷ []) (also f (also g (also h none)));
}
try_part (Some n) x y z p q f g h = record {
  formed = record { form = record { name = tt; names = refl; kids = refl }; places = refl };
  under = trees_formed (x ∷ y ∷ z ∷ []) (also f (also g (also h none)));
}

-- ---- the forms

-- `inside` reads parts that are formed
module _ (inside : Form → Reading Part) (each : (form : Form) (p : Spot) (x : Part) (q : Spot) → inside form p x q → IsPart x) where
  -- ---- declarations

  let_binding : (p : Spot) (e : Named × Part) (q : Spot) → LetBinding inside p e q → IsPart e.1
  let_binding p _ q (cases.with_initialiser {b = b} {x = x} n t r) = each forms.Expression b x q r
  let_binding p _ _ (cases.without_initialiser {q = q} n s) = absent_part q

  const_binding : (p : Spot) (e : Named × Part) (q : Spot) → ConstBinding inside p e q → IsPart e.1
  const_binding p _ q (cases.const_binding {b = b} {x = x} n t r) = each forms.Expression b x q r

  module _ (Binding : Reading (Named × Part)) (one : (p : Spot) (e : Named × Part) (q : Spot) → Binding p e q → IsPart e.1) where
    further : (p : Spot) (e : Named × Part) (q : Spot) → FurtherBinding inside Binding p e q → IsPart e.1
    further p e q (cases.further_binding {a = a} t r) = one a e q r

    bindings : (word : Class) (p : Spot) (es : List (Named × Part)) (q : Spot) → Bindings inside word Binding p es q → AreParts (parts_of es)
    bindings word p _ q (cases.bindings {a = a} {b = b} {x = e} {xs = es} t r m) = also (one a e b r) (many_entries further b es q m)

  lets : (p : Spot) (es : List (Named × Part)) (q end : Spot) → Lets inside p es q → IsPart (declared inside kinds.Let p es end)
  lets p _ q end (cases.bindings {x = e} {xs = es} t r m) = declaration_part kinds.Let e es p end refl (bindings (LetBinding inside) let_binding classes.Let p (e ∷ es) q (cases.bindings t r m))

  consts : (p : Spot) (es : List (Named × Part)) (q end : Spot) → Consts inside p es q → IsPart (declared inside kinds.Const p es end)
  consts p _ q end (cases.bindings {x = e} {xs = es} t r m) = declaration_part kinds.Const e es p end refl (bindings (ConstBinding inside) const_binding classes.Const p (e ∷ es) q (cases.bindings t r m))

  -- ---- parts of statements

  condition : (p : Spot) (x : Part) (q : Spot) → Condition inside p x q → IsPart x
  condition p x _ (cases.condition {a = a} {b = b} t l u) = expression_list inside each a x b l

  alternative : (p : Spot) (x : Part) (q : Spot) → Alternative inside p x q → IsPart x
  alternative p x q (cases.else_branch {a = a} t r) = each forms.Statement a x q r
  alternative p _ _ (cases.no_else s) = absent_part p

  before : {closing : Class} (p : Spot) (x : Part) (q : Spot) → ExpressionBefore inside closing p x q → IsPart x
  before p _ _ (cases.nothing_before s) = absent_part p
  before p x q (cases.expression_before s l) = expression_list inside each p x q l

  for_start : (p : Spot) (x : Part) (q : Spot) → ForStart inside p x q → IsPart x
  for_start p _ _ (cases.for_let {q = q} {xs = es} l) = lets p es q q l
  for_start p _ _ (cases.for_const {q = q} {xs = es} l) = consts p es q q l
  for_start p x q (cases.for_expression s b) = before p x q b

  returned : (p : Spot) (x : Part) (q : Spot) → Returned inside p x q → IsPart x
  returned p _ _ (cases.line_behind s) = absent_part p
  returned p _ _ (cases.nothing_returned s t e) = absent_part p
  returned p x q (cases.value_returned {a = a} s t l e) = expression_list inside each p x a l

  finaliser : (p : Spot) (x : Part) (q : Spot) → Finaliser inside p x q → IsPart x
  finaliser p x q (cases.finaliser {a = a} t r) = each forms.Block a x q r

  finaliser_if_any : (p : Spot) (x : Part) (q : Spot) → FinaliserIfAny inside p x q → IsPart x
  finaliser_if_any p x q (cases.some_finaliser f) = finaliser p x q f
  finaliser_if_any p _ _ (cases.no_finaliser s) = absent_part p

  pub block : (p : Spot) (x : Part) (q : Spot) → BlockForm inside p x q → IsPart x
  block p _ _ (cases.block {a = a} {b = b} {q = q} {xs = xs} t m u) = record {
    formed = record { form = record { name = refl; names = refl; kids = at_least_none _ }; places = refl };
    under = trees_formed xs (items inside each a xs b m);
  }

  -- ---- statements

  pub statement : (p : Spot) (x : Part) (q : Spot) → StatementForm inside p x q → IsPart x
  statement p _ _ (cases.empty {q = q} t) = plain kinds.Empty _ [] q refl none
  statement p x q (cases.block_statement b) = block p x q b
  statement p _ _ (cases.if_statement {a = a} {b = b} {c = c} {q = q} {e = e} {x = x} {y = y} t f r g) =
      plain kinds.If _ (e ∷ x ∷ y ∷ []) q refl (also (condition a e b f) (also (each forms.Statement b x c r) (also (alternative c y q g) none)))
  statement p _ _ (cases.while_statement {a = a} {b = b} {q = q} {e = e} {x = x} t f r) =
      plain kinds.While _ (e ∷ x ∷ []) q refl (also (condition a e b f) (also (each forms.Statement b x q r) none))
  statement p _ _ (cases.for_statement {b = b} {c = c} {d = d} {e = e} {f = f} {g = g} {h = h} {q = q} {i = i} {t = t} {u = u} {x = x} t0 t1 start t2 test t3 step t4 r) =
      plain kinds.For _ (i ∷ t ∷ u ∷ x ∷ []) q refl
      (also (for_start b i c start) (also (before d t e test) (also (before f u g step) (also (each forms.Statement h x q r) none))))
  statement p _ _ (cases.break_statement {q = q} t e) = plain kinds.Break _ [] q refl none
  statement p _ _ (cases.continue_statement {q = q} t e) = plain kinds.Continue _ [] q refl none
  statement p _ _ (cases.return_statement {a = a} {q = q} {x = x} t r) = plain kinds.Return _ (x ∷ []) q refl (also (returned a x q r) none)
  statement p _ _ (cases.throw_statement {a = a} {b = b} {q = q} {x = x} t s l e) = plain kinds.Throw _ (x ∷ []) q refl (also (expression_list inside each a x b l) none)
  statement p _ _ (cases.try_catch {a = a} {b = b} {c = c} {d = d} {e = e} {q = q} {x = x} {y = y} {z = z} {o = o} t r u n s f) =
      try_part o x y z p q (each forms.Block a x b r) (each forms.Block d y e s) (finaliser_if_any e z q f)
  statement p _ _ (cases.try_finally {a = a} {b = b} {q = q} {x = x} {z = z} t r f) =
      try_part None x (absent b) z p q (each forms.Block a x b r) (absent_part b) (finaliser _ z q f)
  statement p _ _ (cases.expression_statement {a = a} {q = q} {x = x} s l e) = plain kinds.ExprStmt _ (x ∷ []) q refl (also (expression_list inside each p x a l) none)

  pub item : (p : Spot) (x : Part) (q : Spot) → ItemForm inside p x q → IsPart x
  item p _ _ (cases.let_declaration {a = a} {q = q} {xs = es} l e) = lets p es a q l
  item p _ _ (cases.const_declaration {a = a} {q = q} {xs = es} l e) = consts p es a q l
  item p _ _ (cases.function_declaration {a = a} {c = c} {q = q} {ns = ns} {x = x} t u n b) = record {
    formed = record { form = record { name = (_, refl); names = at_least_none _; kids = refl }; places = places_count ns };
    under = trees_formed (x ∷ []) (also (body inside each c x q b) none);
  }
  item p x q (cases.statement_item s) = statement p x q s
