-- The rules of function expressions, objects and other primary expressions read what their cases read.
use Rattle.std.proofs.Common.{◌≡◌, ℕ, Bool, true, List, [], ◌∷◌, ◌++◌, map, Option, None, Some, inl, inr, refl, sym, ap, ◌∙◌, subst, append_assoc, append-nil}
use Rattle.std.proofs.lemmas.Bool.{cases_Bool}
use Rattle.js_syntax.specs.declared.kind.Kind.TheVariants as kinds
use Rattle.js_lexer.specs.declared.token.Token.{Token}
use Rattle.parser_rules.specs.declared.class.Class.TheVariants as classes
use Rattle.parser_rules.specs.declared.form.Form.{Form}
use Rattle.parser_rules.specs.declared.form.Form.TheVariants as forms
use Rattle.parser_rules.specs.Work.{Part, Frame, Work, State, going, opened, closed, fresh, place_of, last_name}
use Rattle.parser_rules.specs.Rules.{Rule, run, take, act, inside, ◌▸◌, either, many, sees_other, sees_key, kind_passes, is_key_kind, after, close, key}
use Rattle.parser_rules.specs.Rules.{shorthand as work_shorthand}
use Rattle.parser_rules.specs.Expressions.{token}
use Rattle.parser_rules.specs.Expressions as rules
use Rattle.parser_rules.proofs.Laws.{Inside, Still}
use Rattle.js_grammar.specs.Spots.{Spot, Reading, Named, Takes, takes, Followed, Many, no_more, then_more, is, other_than, one_more, named_at, keyed_at, node, node_at, name_node, with_name, with_names, with_name_if_any}
use Rattle.js_grammar.specs.Expressions.{Declares, declares, NameIfAny, Parameters, Elements, Items, Body, FunctionExpression, function_expression, Property, shorthand, with_key, Primary}
use Rattle.js_grammar.specs.Expressions as cases
use Rattle.js_grammar.proofs.Same.{spot_of, moved, gives, a_part, a_name, an_entry, own_name, own_name_if_any, each, Read, read, Same, then_read, as_read, either_first, either_second, either_read}
use Rattle.js_grammar.proofs.Cycles.{Cycle, cycle_end, cycle_turn, SameTurn, cycle_same}
use Rattle.js_grammar.proofs.Nodes.{entry_names, entry_parts, names_given, entries_given, kids_given}
use Rattle.js_grammar.proofs.Tests.{asks_other, asks_key}
use Rattle.js_grammar.proofs.Steps.{token_goes, token_read, saw}
use Rattle.js_grammar.proofs.Kept.{keeps_key, kept_goes, kept_read}
use Rattle.js_grammar.proofs.Words.{name_key, name_is_key, last_of}
use Rattle.js_grammar.proofs.Lists.{followed_goes, followed_read, declares_same, name_if_any_same, parameters_same, body_same}

-- a function's own name, if any, and the names of its parameters
pub closes_function : (w : Work) (o : Option Named) (ns : List Named) (x : Part) (q : Spot) →
    going (closed (gives a_part (gives (each a_name) (gives own_name_if_any (opened kinds.FunctionExpr w) o q) ns q) x q))
    ≡ going (gives a_part w (with_name_if_any o (with_names ns (node kinds.FunctionExpr (spot_of w) (x ∷ []) q))) (one_more q))
closes_function w None ns x q = rw (names_given (fresh kinds.FunctionExpr (place_of w.rest)) ns) refl
closes_function w (Some n) ns x q = rw (names_given (own_name (fresh kinds.FunctionExpr (place_of w.rest)) n) ns) refl

module _ (at : Form → State → State) (eats : Inside at) (still : (form : Form) → Still (at form)) (R : Form → Reading Part) (within : (form : Form) → Same a_part (at form) (R form)) where
  -- ---- functions

  function_goes : (w : Work) (x : Part) (q : Spot) → FunctionExpression R (spot_of w) x q → run at rules.function_expression (going w) ≡ going (gives a_part w x q)
  unfolding rules.function_expression after
  function_goes w _ _ (function_expression {a = a} {b = b} {c = c} {q = q} {o = o} {ns = ns} {x = x} t n l b') =
      let v = opened kinds.FunctionExpr w in
      rw (
        token_goes at still classes.Function v a t,
        (name_if_any_same at eats still).complete (moved v a) o b n,
        (parameters_same at eats still).complete (gives own_name_if_any v o b) ns c l,
        (body_same at eats still R within).complete (gives (each a_name) (gives own_name_if_any v o b) ns c) x q b',
      ) (closes_function w o ns x q)

  function_is : (w : Work) → Read (gives a_part w) (FunctionExpression R (spot_of w)) (run at rules.function_expression (going w))
  unfolding rules.function_expression after
  function_is w =
      let v = opened kinds.FunctionExpr w in
      then_read at still (token classes.Function) (rules.name_if_any ▸ (rules.parameters ▸ (rules.body ▸ act close))) (going v) (token_read at still classes.Function v) (λ _ a t.
      then_read at still rules.name_if_any (rules.parameters ▸ (rules.body ▸ act close)) (going (moved v a)) ((name_if_any_same at eats still).sound (moved v a)) (λ o b n.
      then_read at still rules.parameters (rules.body ▸ act close) (going (gives own_name_if_any v o b)) ((parameters_same at eats still).sound (gives own_name_if_any v o b)) (λ ns c l.
      then_read at still rules.body (act close) (going (gives (each a_name) (gives own_name_if_any v o c) ns c)) ((body_same at eats still R within).sound (gives (each a_name) (gives own_name_if_any v o c) ns c)) (λ x q b'.
      subst (λ (s : State). Read (gives a_part w) (FunctionExpression R (spot_of w)) s) (sym (closes_function w o ns x q))
      (read {x = with_name_if_any o (with_names ns (node kinds.FunctionExpr (spot_of w) (x ∷ []) q))} {q = one_more q} (function_expression t n l b'))))))

  pub function_same : Same a_part (run at rules.function_expression) (FunctionExpression R)
  function_same = record { complete = function_goes; sound = function_is }

  -- ---- properties

  key_goes : (w : Work) (q : Spot) → Takes (kind_passes is_key_kind) (spot_of w) q → run at (act key ▸ take sees_key) (going w) ≡ going (gives a_name w (keyed_at (spot_of w)) q)
  key_goes w q t = kept_goes at still keeps_key asks_key w q t

  key_read : (w : Work) → Read (λ (u : Unit {0}) (q : Spot). gives a_name w (keyed_at (spot_of w)) q) (λ u q. Takes (kind_passes is_key_kind) (spot_of w) q) (run at (act key ▸ take sees_key) (going w))
  key_read w = kept_read at still keeps_key asks_key w

  value_goes : (w : Work) (x : Part) (b q : Spot) → Takes (is classes.Colon) (spot_of w) b → R forms.Expression b x q → run at rules.property_value (going w) ≡ going (gives a_part w x q)
  unfolding rules.property_value
  value_goes w x b q t r = rw (token_goes at still classes.Colon w b t) ((within forms.Expression).complete (moved w b) x q r)

  abbrev one_property : Rule
  one_property = either (rules.at classes.Name) rules.named_property rules.keyed_property

  -- the last name of the form, once it has this one more, is that one
  abbrev Even : Work → Type 0
  Even w = (n : Named) → last_name (w.top.names ++ n.0 ∷ []) (w.top.places ++ n.1 ∷ []) ≡ Some n

  shorthand_goes : (w : Work) (n : Named) (a : Spot) → Even w → run at (act work_shorthand) (going (gives a_name w n a)) ≡ going (gives an_entry w (n, with_name n (node_at kinds.Name n.1 [] a)) (one_more a))
  unfolding after
  shorthand_goes w n a e = rw (e n) refl

  renamed : (p q : Spot) → Takes (is classes.Name) p q → keyed_at p ≡ named_at p
  renamed p q t = ap (λ (text : List ℕ). (text, place_of p.rest)) (name_key p.rest (saw t))

  retake : {of to : List Token → Bool} {p q : Spot} → Takes of p q → to p.rest ≡ true → Takes to p q
  retake (takes h) k = takes k

  keyed_goes : (w : Work) (x : Part) (a b q : Spot) → Takes (kind_passes is_key_kind) (spot_of w) a → Takes (is classes.Colon) a b → R forms.Expression b x q →
      run at rules.keyed_property (going w) ≡ going (gives an_entry w (keyed_at (spot_of w), x) q)
  unfolding rules.keyed_property
  keyed_goes w x a b q t u r = ap (λ (s : State). run at rules.property_value s) (key_goes w a t) ∙ value_goes (gives a_name w (keyed_at (spot_of w)) a) x b q u r

  property_goes : (w : Work) → Even w → (e : Named × Part) (q : Spot) → Property R (spot_of w) e q → run at one_property (going w) ≡ going (gives an_entry w e q)
  unfolding rules.named_property
  property_goes w even _ _ (shorthand {a = a} t h) =
      either_first at still (rules.at classes.Name) rules.named_property rules.keyed_property w (saw t)
      ∙ ap (λ (s : State). run at (either (rules.at classes.Colon) rules.property_value (act work_shorthand)) s) ((declares_same at eats still).complete w (named_at (spot_of w)) a (declares t))
      ∙ either_second at still (rules.at classes.Colon) rules.property_value (act work_shorthand) (gives a_name w (named_at (spot_of w)) a) h
      ∙ shorthand_goes w (named_at (spot_of w)) a even
  property_goes w even _ q (with_key {a = a} {b = b} {x = x} t u r) = elim (cases_Bool (is classes.Name w.rest)) [
    | inl h ↦
        let n = retake t h in
        either_first at still (rules.at classes.Name) rules.named_property rules.keyed_property w h
        ∙ ap (λ (s : State). run at (either (rules.at classes.Colon) rules.property_value (act work_shorthand)) s) ((declares_same at eats still).complete w (named_at (spot_of w)) a (declares n))
        ∙ either_first at still (rules.at classes.Colon) rules.property_value (act work_shorthand) (gives a_name w (named_at (spot_of w)) a) (saw u)
        ∙ value_goes (gives a_name w (named_at (spot_of w)) a) x b q u r
        ∙ ap (λ (m : Named). going (gives an_entry w (m, x) q)) (sym (renamed (spot_of w) a n))
    | inr h ↦
        either_second at still (rules.at classes.Name) rules.named_property rules.keyed_property w h
        ∙ keyed_goes w x a b q t u r
  ]

  -- behind the key
  behind_name : (w : Work) → Even w → (n : Named) (a : Spot) → Declares (spot_of w) n a →
      Read (gives an_entry w) (Property R (spot_of w)) (run at (either (rules.at classes.Colon) rules.property_value (act work_shorthand)) (going (gives a_name w n a)))
  unfolding rules.property_value
  behind_name w even _ a (declares t) =
      let n = named_at (spot_of w) in
      either_read at still (rules.at classes.Colon) rules.property_value (act work_shorthand) (gives a_name w n a)
      (λ h. then_read at still (token classes.Colon) (inside forms.Expression) (going (gives a_name w n a)) (token_read at still classes.Colon (gives a_name w n a)) (λ _ b u.
      as_read at still _ ((within forms.Expression).sound (gives a_name w n b)) (λ x q r.
      read {x = (n, x)} {q = q} (subst (λ (m : Named). Property R (spot_of w) (m, x) q) (renamed (spot_of w) a t) (with_key (retake t (name_is_key w.rest (saw t))) u r)))))
      (λ h. subst (λ (s : State). Read (gives an_entry w) (Property R (spot_of w)) s) (sym (shorthand_goes w n a even)) (read {x = (n, name_node (spot_of w) a)} {q = one_more a} (shorthand t h)))

  property_is : (w : Work) → Even w → Read (gives an_entry w) (Property R (spot_of w)) (run at one_property (going w))
  unfolding rules.named_property rules.keyed_property rules.property_value
  property_is w even = either_read at still (rules.at classes.Name) rules.named_property rules.keyed_property w
      (λ h. then_read at still rules.declared_name (either (rules.at classes.Colon) rules.property_value (act work_shorthand)) (going w) ((declares_same at eats still).sound w) (λ n a d. behind_name w even n a d))
      (λ h. then_read at still (act key ▸ take sees_key) (token classes.Colon ▸ inside forms.Expression) (going w) (key_read w) (λ _ a t.
      then_read at still (token classes.Colon) (inside forms.Expression) (going (gives a_name w (keyed_at (spot_of w)) a)) (token_read at still classes.Colon (gives a_name w (keyed_at (spot_of w)) a)) (λ _ b u.
      as_read at still _ ((within forms.Expression).sound (gives a_name w (keyed_at (spot_of w)) b)) (λ x q r. read {x = (keyed_at (spot_of w), x)} {q = q} (with_key t u r)))))

  -- ---- objects

  abbrev One : Reading (Named × Part)
  One = Followed (is classes.Comma) (is classes.BraceClose) (Property R)

  abbrev goes_on : List Token → Bool
  goes_on = other_than (classes.BraceClose ∷ [])

  data Further : List (Named × Part) → Spot → List (Named × Part) → Spot → Type 0 where
    further : {es : List (Named × Part)} {e : Named × Part} {p q : Spot} → One p e q → Further es p (es ++ e ∷ []) q

  each_behind : (f : Frame) (es : List (Named × Part)) (e : Named × Part) → each an_entry f (es ++ e ∷ []) ≡ an_entry (each an_entry f es) e
  each_behind f [] e = refl
  each_behind f (d ∷ es) e = each_behind (an_entry f d) es e

  to_cycle : (es ds : List (Named × Part)) (p q : Spot) → Many goes_on One p ds q → Cycle goes_on Further es p (es ++ ds) q
  to_cycle es [] p _ (no_more h) = subst (λ (fs : List (Named × Part)). Cycle goes_on Further es p fs p) (sym (append-nil es)) (cycle_end h)
  to_cycle es (d ∷ ds) p q (then_more {a = a} h r m) = subst (λ (fs : List (Named × Part)). Cycle goes_on Further es p fs q) (append_assoc es (d ∷ []) ds) (cycle_turn h (further r) (to_cycle (es ++ d ∷ []) ds a q m))

  from_cycle : (es fs : List (Named × Part)) (p q : Spot) → Cycle goes_on Further es p fs q → (ds : List (Named × Part)) × Many goes_on One p ds q × (fs ≡ es ++ ds)
  from_cycle es _ p _ (cycle_end h) = ([], no_more h, sym (append-nil es))
  from_cycle es fs p q (cycle_turn {y = gs} {a = a} h (further {e = d} r) c) = let (ds, m, e) = from_cycle (es ++ d ∷ []) fs a q c in (d ∷ ds, then_more h r m, e ∙ append_assoc es (d ∷ []) ds)

  module _ (w : Work) where
    abbrev object_form : Work
    object_form = opened kinds.Object w

    abbrev with_entries : List (Named × Part) → Spot → Work
    with_entries es p = gives (each an_entry) object_form es p

    stays_even : (es : List (Named × Part)) (p : Spot) → Even (with_entries es p)
    stays_even es p n = rw (entries_given (fresh kinds.Object (place_of w.rest)) es) (last_of (entry_names es) n)

    entry_goes : (es fs : List (Named × Part)) (p q : Spot) → Further es p fs q → run at rules.property (going (with_entries es p)) ≡ going (with_entries fs q)
    unfolding rules.property
    entry_goes es _ p q (further {e = e} r) =
        followed_goes at eats still an_entry one_property (Property R) classes.BraceClose (with_entries es p) (property_goes (with_entries es p) (stays_even es p)) e q r
        ∙ ap (λ (f : Frame). going (record object_form { rest = q.rest; made = q.made; top = f })) (sym (each_behind (fresh kinds.Object (place_of w.rest)) es e))

    entry_is : (es : List (Named × Part)) (p : Spot) → Read (gives (each an_entry) object_form) (Further es p) (run at rules.property (going (with_entries es p)))
    unfolding rules.property
    entry_is es p = as_read at still _ (followed_read at eats still an_entry one_property (Property R) classes.BraceClose (with_entries es p) (property_is (with_entries es p) (stays_even es p))) (λ e q r.
        subst (λ (f : Frame). Read (gives (each an_entry) object_form) (Further es p) (going (record object_form { rest = q.rest; made = q.made; top = f }))) (each_behind (fresh kinds.Object (place_of w.rest)) es e) (read {x = es ++ e ∷ []} {q = q} (further r)))

    entries_same : SameTurn (each an_entry) object_form (run at (many (sees_other (classes.BraceClose ∷ [])) rules.property)) (Cycle goes_on Further)
    unfolding rules.property rules.comma_before rules.named_property rules.keyed_property rules.declared_name rules.property_value
    entries_same = cycle_same at eats still (sees_other (classes.BraceClose ∷ [])) goes_on (asks_other (classes.BraceClose ∷ [])) rules.property refl (each an_entry) object_form Further (record { complete = entry_goes; sound = entry_is })

    abbrev object_of : List (Named × Part) → Spot → Part
    object_of es q = with_names (map (λ (e : Named × Part). e.0) es) (node kinds.Object (spot_of w) (map (λ (e : Named × Part). e.1) es) q)

    closes_object : (es : List (Named × Part)) (q : Spot) → going (closed (with_entries es q)) ≡ going (gives a_part w (object_of es q) (one_more q))
    closes_object es q = rw (entries_given (fresh kinds.Object (place_of w.rest)) es, kids_given (entry_parts es)) refl

    pub object_goes : (es : List (Named × Part)) (a b q : Spot) → Takes (is classes.BraceOpen) (spot_of w) a → Many goes_on One a es b → Takes (is classes.BraceClose) b q →
        run at rules.object (going w) ≡ going (gives a_part w (object_of es q) (one_more q))
    unfolding rules.object after
    object_goes es a b q t m u =
        rw (token_goes at still classes.BraceOpen object_form a t, entries_same.complete [] es a b (to_cycle [] es a b m), token_goes at still classes.BraceClose (with_entries es b) q u) (closes_object es q)

    pub object_is : Read (gives a_part w) (Primary R (spot_of w)) (run at rules.object (going w))
    unfolding rules.object after
    object_is =
        then_read at still (token classes.BraceOpen) (many (sees_other (classes.BraceClose ∷ [])) rules.property ▸ (token classes.BraceClose ▸ act close)) (going object_form) (token_read at still classes.BraceOpen object_form) (λ _ a t.
        then_read at still (many (sees_other (classes.BraceClose ∷ [])) rules.property) (token classes.BraceClose ▸ act close) (going (with_entries [] a)) (entries_same.sound [] a) (λ fs b c.
        then_read at still (token classes.BraceClose) (act close) (going (with_entries fs b)) (token_read at still classes.BraceClose (with_entries fs b)) (λ _ q u.
        let (es, m, e) = from_cycle [] fs a b c in
        subst (λ (s : State). Read (gives a_part w) (Primary R (spot_of w)) s) (sym (closes_object fs q))
        (read {x = object_of fs q} {q = one_more q} (cases.object t (subst (λ (gs : List (Named × Part)). Many goes_on One a gs b) (sym e) m) u)))))
