-- The rules of operands, up to what calls and members may follow, read what their cases read.
use Rattle.std.proofs.Common.{◌≡◌, true, false, List, [], ◌∷◌, refl, sym, ◌∙◌, subst}
use Rattle.js_syntax.specs.declared.kind.Kind.{Kind}
use Rattle.js_syntax.specs.declared.kind.Kind.TheVariants as kinds
use Rattle.parser_rules.specs.declared.class.Class.{Class}
use Rattle.parser_rules.specs.declared.class.Class.TheVariants as classes
use Rattle.parser_rules.specs.declared.form.Form.{Form}
use Rattle.parser_rules.specs.Classes.{is_one_of}
use Rattle.parser_rules.specs.Work.{Part, Work, State, going, opened, closed, fresh, place_of}
use Rattle.parser_rules.specs.Rules.{Rule, run, take, act, ◌▸◌, either, refuse, sees_word, kind_passes, is_word_kind, after, close, name_it, unwrap}
use Rattle.parser_rules.specs.Expressions.{token, prefix_operators}
use Rattle.parser_rules.specs.Expressions as rules
use Rattle.parser_rules.proofs.Laws.{Inside, Still}
use Rattle.js_grammar.specs.Spots.{Spot, Reading, Named, Takes, is, one_more, named_at, node, name_node, with_name, from_paren}
use Rattle.js_grammar.specs.Expressions.{Elements, ExpressionList, FunctionExpression, function_expression, Primary, number, text, this, undefined, null, true_word, false_word, array, object, function, construction, Simple, parentheses, name, primary}
use Rattle.js_grammar.proofs.Same.{spot_of, moved, gives, a_part, own_name, each, Read, read, Same, then_read, as_read, either_first, either_read, refuse_read}
use Rattle.js_grammar.proofs.Nodes.{parts_given, kids_given}
use Rattle.js_grammar.proofs.Tests.{asks_word}
use Rattle.js_grammar.proofs.Steps.{token_goes, token_read, saw}
use Rattle.js_grammar.proofs.Kept.{keeps_name, kept_goes, kept_read, leaf_goes, leaf_read, number_goes, number_read, text_goes, text_read}
use Rattle.js_grammar.proofs.Lists.{pass_by, own_name_goes, own_name_read, elements_same, expression_list_same, closes_parts}
use Rattle.js_grammar.proofs.Functions.{function_same, object_goes, object_is}

-- a form that has a name and began without a part is closed behind these parts
closes_named : (w : Work) (kind : Kind) (n : Named) (xs : List Part) (q : Spot) →
    going (closed (gives (each a_part) (gives own_name (opened kind w) n q) xs q)) ≡ going (gives a_part w (with_name n (node kind (spot_of w) xs q)) (one_more q))
closes_named w kind n xs q = rw (parts_given (own_name (fresh kind (place_of w.rest)) n) xs, kids_given xs) refl

-- a token stands here that is neither a parenthesis nor a name nor an operator before an operand
abbrev pub BeginsApart : Spot → Type 0
BeginsApart p =
    (c : Class) × (is c p.rest ≡ true) × (is_one_of c (classes.ParenOpen ∷ []) ≡ false) × (is_one_of c (classes.Name ∷ []) ≡ false) × (is_one_of c prefix_operators ≡ false)
    × (is_one_of c (classes.ParenClose ∷ []) ≡ false)

module _ (R : Form → Reading Part) where
  -- ---- what a primary expression begins with

  pub primary_begins : (p : Spot) (x : Part) (q : Spot) → Primary R p x q →
      BeginsApart p
  primary_begins p _ _ (number t) = (classes.Num, saw t, refl, refl, refl, refl)
  primary_begins p _ _ (text t) = (classes.Text, saw t, refl, refl, refl, refl)
  primary_begins p _ _ (this t) = (classes.This, saw t, refl, refl, refl, refl)
  primary_begins p _ _ (undefined t) = (classes.Undefined, saw t, refl, refl, refl, refl)
  primary_begins p _ _ (null t) = (classes.Null, saw t, refl, refl, refl, refl)
  primary_begins p _ _ (true_word t) = (classes.True, saw t, refl, refl, refl, refl)
  primary_begins p _ _ (false_word t) = (classes.False, saw t, refl, refl, refl, refl)
  primary_begins p _ _ (array t l) = (classes.BracketOpen, saw t, refl, refl, refl, refl)
  primary_begins p _ _ (object t m u) = (classes.BraceOpen, saw t, refl, refl, refl, refl)
  primary_begins p _ _ (construction t n u l) = (classes.New, saw t, refl, refl, refl, refl)
  primary_begins p x q (function f) = function_begins x q f
    where
      function_begins : (x : Part) (q : Spot) → FunctionExpression R p x q →
          BeginsApart p
      function_begins _ _ (function_expression t n l b) = (classes.Function, saw t, refl, refl, refl, refl)

module _ (at : Form → State → State) (eats : Inside at) (still : (form : Form) → Still (at form)) (R : Form → Reading Part) (within : (form : Form) → Same a_part (at form) (R form)) where
  -- ---- one token

  pub name_goes : (w : Work) (q : Spot) → Takes (is classes.Name) (spot_of w) q → run at rules.name_leaf (going w) ≡ going (gives a_part w (name_node (spot_of w) q) (one_more q))
  unfolding rules.name_leaf after
  name_goes w q t = rw (own_name_goes at eats still (opened kinds.Name w) q t) refl

  pub name_read : (w : Work) → Read (λ (u : Unit {0}) (q : Spot). gives a_part w (name_node (spot_of w) q) (one_more q)) (λ u q. Takes (is classes.Name) (spot_of w) q) (run at rules.name_leaf (going w))
  unfolding rules.name_leaf after
  name_read w = then_read at still rules.own_name (act close) (going (opened kinds.Name w)) (own_name_read at eats still (opened kinds.Name w)) (λ _ q t. read {x = tt} {q = q} t)

  -- ---- several parts

  array_goes : (w : Work) (xs : List Part) (a q : Spot) → Takes (is classes.BracketOpen) (spot_of w) a → Elements R classes.BracketClose a xs q →
      run at rules.array (going w) ≡ going (gives a_part w (node kinds.Array (spot_of w) xs q) (one_more q))
  unfolding rules.array after
  array_goes w xs a q t l =
      let v = opened kinds.Array w in
      rw (token_goes at still classes.BracketOpen v a t, (elements_same at eats still R within classes.BracketClose).complete (moved v a) xs q l) (closes_parts w kinds.Array xs q)

  array_is : (w : Work) → Read (gives a_part w) (Primary R (spot_of w)) (run at rules.array (going w))
  unfolding rules.array after
  array_is w =
      let v = opened kinds.Array w in
      then_read at still (token classes.BracketOpen) (rules.elements classes.BracketClose ▸ act close) (going v) (token_read at still classes.BracketOpen v) (λ _ a t.
      then_read at still (rules.elements classes.BracketClose) (act close) (going (moved v a)) ((elements_same at eats still R within classes.BracketClose).sound (moved v a)) (λ xs q l.
      subst (λ (s : State). Read (gives a_part w) (Primary R (spot_of w)) s) (sym (closes_parts w kinds.Array xs q)) (read {x = node kinds.Array (spot_of w) xs q} {q = one_more q} (array t l))))

  construction_goes : (w : Work) (xs : List Part) (a b c q : Spot) → Takes (is classes.New) (spot_of w) a → Takes (kind_passes is_word_kind) a b → Takes (is classes.ParenOpen) b c → Elements R classes.ParenClose c xs q →
      run at rules.construction (going w) ≡ going (gives a_part w (with_name (named_at a) (node kinds.New (spot_of w) xs q)) (one_more q))
  unfolding rules.construction after
  construction_goes w xs a b c q t n u l =
      let v = opened kinds.New w in
      rw (
        token_goes at still classes.New v a t,
        kept_goes at still keeps_name asks_word (moved v a) b n,
        token_goes at still classes.ParenOpen (gives own_name v (named_at a) b) c u,
        (elements_same at eats still R within classes.ParenClose).complete (gives own_name v (named_at a) c) xs q l,
      )
      (closes_named w kinds.New (named_at a) xs q)

  construction_is : (w : Work) → Read (gives a_part w) (Primary R (spot_of w)) (run at rules.construction (going w))
  unfolding rules.construction after
  construction_is w =
      let v = opened kinds.New w in
      then_read at still (token classes.New) ((act name_it ▸ take sees_word) ▸ (token classes.ParenOpen ▸ (rules.elements classes.ParenClose ▸ act close))) (going v) (token_read at still classes.New v) (λ _ a t.
      then_read at still (act name_it ▸ take sees_word) (token classes.ParenOpen ▸ (rules.elements classes.ParenClose ▸ act close)) (going (moved v a)) (kept_read at still keeps_name asks_word (moved v a)) (λ _ b n.
      then_read at still (token classes.ParenOpen) (rules.elements classes.ParenClose ▸ act close) (going (gives own_name v (named_at a) b)) (token_read at still classes.ParenOpen (gives own_name v (named_at a) b)) (λ _ c u.
      then_read at still (rules.elements classes.ParenClose) (act close) (going (gives own_name v (named_at a) c)) ((elements_same at eats still R within classes.ParenClose).sound (gives own_name v (named_at a) c)) (λ xs q l.
      subst (λ (s : State). Read (gives a_part w) (Primary R (spot_of w)) s) (sym (closes_named w kinds.New (named_at a) xs q)) (read {x = with_name (named_at a) (node kinds.New (spot_of w) xs q)} {q = one_more q} (construction t n u l))))))

  -- ---- words

  abbrev behind_true : Rule
  behind_true = either (rules.at classes.False) (rules.leaf kinds.False classes.False) refuse

  abbrev behind_null : Rule
  behind_null = either (rules.at classes.True) (rules.leaf kinds.True classes.True) behind_true

  abbrev behind_undefined : Rule
  behind_undefined = either (rules.at classes.Null) (rules.leaf kinds.Null classes.Null) behind_null

  abbrev behind_this : Rule
  behind_this = either (rules.at classes.Undefined) (rules.leaf kinds.Undefined classes.Undefined) behind_undefined

  word_is : (w : Work) → Read (gives a_part w) (Primary R (spot_of w)) (run at rules.word_leaf (going w))
  unfolding rules.word_leaf
  word_is w =
      either_read at still (rules.at classes.This) (rules.leaf kinds.This classes.This) behind_this w (λ _. leaf_read at still kinds.This classes.This w (λ q t. this t)) (λ _.
      either_read at still (rules.at classes.Undefined) (rules.leaf kinds.Undefined classes.Undefined) behind_undefined w (λ _. leaf_read at still kinds.Undefined classes.Undefined w (λ q t. undefined t)) (λ _.
      either_read at still (rules.at classes.Null) (rules.leaf kinds.Null classes.Null) behind_null w (λ _. leaf_read at still kinds.Null classes.Null w (λ q t. null t)) (λ _.
      either_read at still (rules.at classes.True) (rules.leaf kinds.True classes.True) behind_true w (λ _. leaf_read at still kinds.True classes.True w (λ q t. true_word t)) (λ _.
      either_read at still (rules.at classes.False) (rules.leaf kinds.False classes.False) refuse w (λ _. leaf_read at still kinds.False classes.False w (λ q t. false_word t)) (λ _. refuse_read at still w)))))

  -- ---- primary expressions

  abbrev behind_function : Rule
  behind_function = either (rules.at classes.New) rules.construction rules.word_leaf

  abbrev behind_object : Rule
  behind_object = either (rules.at classes.Function) rules.function_expression behind_function

  abbrev behind_array : Rule
  behind_array = either (rules.at classes.BraceOpen) rules.object behind_object

  abbrev behind_text : Rule
  behind_text = either (rules.at classes.BracketOpen) rules.array behind_array

  abbrev behind_number : Rule
  behind_number = either (rules.at classes.Text) rules.text_leaf behind_text

  module _ (w : Work) (c : Class) (h : is c w.rest ≡ true) where
    past_number : is_one_of c (classes.Num ∷ []) ≡ false → run at rules.primary (going w) ≡ run at behind_number (going w)
    unfolding rules.primary
    past_number e = pass_by at eats still c (classes.Num ∷ []) rules.number_leaf behind_number w h e

    past_text : is_one_of c (classes.Num ∷ []) ≡ false → is_one_of c (classes.Text ∷ []) ≡ false → run at rules.primary (going w) ≡ run at behind_text (going w)
    past_text d e = past_number d ∙ pass_by at eats still c (classes.Text ∷ []) rules.text_leaf behind_text w h e

    past_array : is_one_of c (classes.Num ∷ []) ≡ false → is_one_of c (classes.Text ∷ []) ≡ false → is_one_of c (classes.BracketOpen ∷ []) ≡ false → run at rules.primary (going w) ≡ run at behind_array (going w)
    past_array d e f = past_text d e ∙ pass_by at eats still c (classes.BracketOpen ∷ []) rules.array behind_array w h f

    past_object : is_one_of c (classes.Num ∷ []) ≡ false → is_one_of c (classes.Text ∷ []) ≡ false → is_one_of c (classes.BracketOpen ∷ []) ≡ false → is_one_of c (classes.BraceOpen ∷ []) ≡ false → run at rules.primary (going w) ≡ run at behind_object (going w)
    past_object d e f g = past_array d e f ∙ pass_by at eats still c (classes.BraceOpen ∷ []) rules.object behind_object w h g

    past_function : is_one_of c (classes.Num ∷ []) ≡ false → is_one_of c (classes.Text ∷ []) ≡ false → is_one_of c (classes.BracketOpen ∷ []) ≡ false → is_one_of c (classes.BraceOpen ∷ []) ≡ false →
        is_one_of c (classes.Function ∷ []) ≡ false → run at rules.primary (going w) ≡ run at behind_function (going w)
    past_function d e f g i = past_object d e f g ∙ pass_by at eats still c (classes.Function ∷ []) rules.function_expression behind_function w h i

    past_new : is_one_of c (classes.Num ∷ []) ≡ false → is_one_of c (classes.Text ∷ []) ≡ false → is_one_of c (classes.BracketOpen ∷ []) ≡ false → is_one_of c (classes.BraceOpen ∷ []) ≡ false →
        is_one_of c (classes.Function ∷ []) ≡ false → is_one_of c (classes.New ∷ []) ≡ false → run at rules.primary (going w) ≡ run at rules.word_leaf (going w)
    past_new d e f g i j = past_function d e f g i ∙ pass_by at eats still c (classes.New ∷ []) rules.construction rules.word_leaf w h j

    past_this : is_one_of c (classes.This ∷ []) ≡ false → run at rules.word_leaf (going w) ≡ run at behind_this (going w)
    unfolding rules.word_leaf
    past_this e = pass_by at eats still c (classes.This ∷ []) (rules.leaf kinds.This classes.This) behind_this w h e

    past_undefined : is_one_of c (classes.This ∷ []) ≡ false → is_one_of c (classes.Undefined ∷ []) ≡ false → run at rules.word_leaf (going w) ≡ run at behind_undefined (going w)
    past_undefined e f = past_this e ∙ pass_by at eats still c (classes.Undefined ∷ []) (rules.leaf kinds.Undefined classes.Undefined) behind_undefined w h f

    past_null : is_one_of c (classes.This ∷ []) ≡ false → is_one_of c (classes.Undefined ∷ []) ≡ false → is_one_of c (classes.Null ∷ []) ≡ false → run at rules.word_leaf (going w) ≡ run at behind_null (going w)
    past_null e f g = past_undefined e f ∙ pass_by at eats still c (classes.Null ∷ []) (rules.leaf kinds.Null classes.Null) behind_null w h g

    past_true : is_one_of c (classes.This ∷ []) ≡ false → is_one_of c (classes.Undefined ∷ []) ≡ false → is_one_of c (classes.Null ∷ []) ≡ false → is_one_of c (classes.True ∷ []) ≡ false → run at rules.word_leaf (going w) ≡ run at behind_true (going w)
    past_true e f g i = past_null e f g ∙ pass_by at eats still c (classes.True ∷ []) (rules.leaf kinds.True classes.True) behind_true w h i

  first_of : (c : Class) (first second : Rule) (w : Work) → is c w.rest ≡ true → run at (either (rules.at c) first second) (going w) ≡ run at first (going w)
  first_of c first second w h = either_first at still (rules.at c) first second w h

  this_goes : (w : Work) (q : Spot) → Takes (is classes.This) (spot_of w) q → run at rules.word_leaf (going w) ≡ going (gives a_part w (node kinds.This (spot_of w) [] q) (one_more q))
  unfolding rules.word_leaf
  this_goes w q t = first_of classes.This (rules.leaf kinds.This classes.This) behind_this w (saw t) ∙ leaf_goes at still kinds.This classes.This w q t

  first_number : (w : Work) (q : Spot) → Takes (is classes.Num) (spot_of w) q → run at rules.primary (going w) ≡ run at rules.number_leaf (going w)
  unfolding rules.primary
  first_number w q t = first_of classes.Num rules.number_leaf behind_number w (saw t)

  primary_goes : (w : Work) (x : Part) (q : Spot) → Primary R (spot_of w) x q → run at rules.primary (going w) ≡ going (gives a_part w x q)
  primary_goes w _ _ (number {q = q} t) = first_number w q t ∙ number_goes at still w q t
  primary_goes w _ _ (text {q = q} t) = past_number w classes.Text (saw t) refl ∙ first_of classes.Text rules.text_leaf behind_text w (saw t) ∙ text_goes at still w q t
  primary_goes w _ _ (this {q = q} t) = past_new w classes.This (saw t) refl refl refl refl refl refl ∙ this_goes w q t
  primary_goes w _ _ (undefined {q = q} t) =
      past_new w classes.Undefined (saw t) refl refl refl refl refl refl ∙ past_this w classes.Undefined (saw t) refl
      ∙ first_of classes.Undefined (rules.leaf kinds.Undefined classes.Undefined) behind_undefined w (saw t) ∙ leaf_goes at still kinds.Undefined classes.Undefined w q t
  primary_goes w _ _ (null {q = q} t) =
      past_new w classes.Null (saw t) refl refl refl refl refl refl ∙ past_undefined w classes.Null (saw t) refl refl
      ∙ first_of classes.Null (rules.leaf kinds.Null classes.Null) behind_null w (saw t) ∙ leaf_goes at still kinds.Null classes.Null w q t
  primary_goes w _ _ (true_word {q = q} t) =
      past_new w classes.True (saw t) refl refl refl refl refl refl ∙ past_null w classes.True (saw t) refl refl refl
      ∙ first_of classes.True (rules.leaf kinds.True classes.True) behind_true w (saw t) ∙ leaf_goes at still kinds.True classes.True w q t
  primary_goes w _ _ (false_word {q = q} t) =
      past_new w classes.False (saw t) refl refl refl refl refl refl ∙ past_true w classes.False (saw t) refl refl refl refl
      ∙ first_of classes.False (rules.leaf kinds.False classes.False) refuse w (saw t) ∙ leaf_goes at still kinds.False classes.False w q t
  primary_goes w _ _ (array {a = a} {q = q} {xs = xs} t l) = past_text w classes.BracketOpen (saw t) refl refl ∙ first_of classes.BracketOpen rules.array behind_array w (saw t) ∙ array_goes w xs a q t l
  primary_goes w _ _ (object {a = a} {b = b} {q = q} {ps = ps} t m u) = past_array w classes.BraceOpen (saw t) refl refl refl ∙ first_of classes.BraceOpen rules.object behind_object w (saw t) ∙ object_goes at eats still R within w ps a b q t m u
  primary_goes w x q (function f) = function_begins w x q f
    where
      function_begins : (w : Work) (x : Part) (q : Spot) → FunctionExpression R (spot_of w) x q → run at rules.primary (going w) ≡ going (gives a_part w x q)
      function_begins w _ _ (function_expression {q = q} {o = o} {ns = ns} {x = x} t n l b) =
          past_object w classes.Function (saw t) refl refl refl refl ∙ first_of classes.Function rules.function_expression behind_function w (saw t)
          ∙ (function_same at eats still R within).complete w _ _ (function_expression t n l b)
  primary_goes w _ _ (construction {a = a} {b = b} {c = c} {q = q} {xs = xs} t n u l) =
      past_function w classes.New (saw t) refl refl refl refl refl ∙ first_of classes.New rules.construction rules.word_leaf w (saw t) ∙ construction_goes w xs a b c q t n u l

  primary_is : (w : Work) → Read (gives a_part w) (Primary R (spot_of w)) (run at rules.primary (going w))
  unfolding rules.primary
  primary_is w =
      either_read at still (rules.at classes.Num) rules.number_leaf behind_number w (λ _. number_read at still w (λ q t. number t)) (λ _.
      either_read at still (rules.at classes.Text) rules.text_leaf behind_text w (λ _. text_read at still w (λ q t. text t)) (λ _.
      either_read at still (rules.at classes.BracketOpen) rules.array behind_array w (λ _. array_is w) (λ _.
      either_read at still (rules.at classes.BraceOpen) rules.object behind_object w (λ _. object_is at eats still R within w) (λ _.
      either_read at still (rules.at classes.Function) rules.function_expression behind_function w (λ _. as_read at still _ ((function_same at eats still R within).sound w) (λ x q f. read {x = x} {q = q} (function f))) (λ _.
      either_read at still (rules.at classes.New) rules.construction rules.word_leaf w (λ _. construction_is w) (λ _. word_is w))))))

  pub primary_same : Same a_part (run at rules.primary) (Primary R)
  primary_same = record { complete = primary_goes; sound = primary_is }

  -- ---- operands without calls

  parenthesised_goes : (w : Work) (x : Part) (a b q : Spot) → Takes (is classes.ParenOpen) (spot_of w) a → ExpressionList R a x b → Takes (is classes.ParenClose) b q →
      run at rules.parenthesised (going w) ≡ going (gives a_part w (from_paren (spot_of w) x) q)
  unfolding rules.parenthesised after
  parenthesised_goes w x a b q t l u =
      let v = opened kinds.Arrow w in
      rw (token_goes at still classes.ParenOpen v a t, (expression_list_same at eats still R within).complete (moved v a) x b l, token_goes at still classes.ParenClose (gives a_part v x b) q u) refl

  parenthesised_is : (w : Work) → Read (gives a_part w) (Simple R (spot_of w)) (run at rules.parenthesised (going w))
  unfolding rules.parenthesised after
  parenthesised_is w =
      let v = opened kinds.Arrow w in
      then_read at still (token classes.ParenOpen) (rules.expression_list ▸ (token classes.ParenClose ▸ act unwrap)) (going v) (token_read at still classes.ParenOpen v) (λ _ a t.
      then_read at still rules.expression_list (token classes.ParenClose ▸ act unwrap) (going (moved v a)) ((expression_list_same at eats still R within).sound (moved v a)) (λ x b l.
      then_read at still (token classes.ParenClose) (act unwrap) (going (gives a_part v x b)) (token_read at still classes.ParenClose (gives a_part v x b)) (λ _ q u.
      read {x = from_paren (spot_of w) x} {q = q} (parentheses t l u))))

  abbrev behind_parenthesised : Rule
  behind_parenthesised = either (rules.at classes.Name) rules.name_leaf rules.primary

  simple_goes : (w : Work) (x : Part) (q : Spot) → Simple R (spot_of w) x q → run at rules.simple_operand (going w) ≡ going (gives a_part w x q)
  unfolding rules.simple_operand
  simple_goes w _ q (parentheses {a = a} {b = b} {x = x} t l u) = either_first at still (rules.at classes.ParenOpen) rules.parenthesised behind_parenthesised w (saw t) ∙ parenthesised_goes w x a b q t l u
  simple_goes w _ _ (name {q = q} t) =
      pass_by at eats still classes.Name (classes.ParenOpen ∷ []) rules.parenthesised behind_parenthesised w (saw t) refl
      ∙ either_first at still (rules.at classes.Name) rules.name_leaf rules.primary w (saw t) ∙ name_goes w q t
  simple_goes w x q (primary d) =
      let (c, h, e, f, g, i) = primary_begins R (spot_of w) x q d in
      pass_by at eats still c (classes.ParenOpen ∷ []) rules.parenthesised behind_parenthesised w h e
      ∙ pass_by at eats still c (classes.Name ∷ []) rules.name_leaf rules.primary w h f ∙ primary_goes w x q d

  simple_is : (w : Work) → Read (gives a_part w) (Simple R (spot_of w)) (run at rules.simple_operand (going w))
  unfolding rules.simple_operand
  simple_is w =
      either_read at still (rules.at classes.ParenOpen) rules.parenthesised behind_parenthesised w (λ _. parenthesised_is w) (λ _.
      either_read at still (rules.at classes.Name) rules.name_leaf rules.primary w
      (λ _. as_read at still _ (name_read w) (λ _ q t. read {x = name_node (spot_of w) q} {q = one_more q} (name t)))
      (λ _. as_read at still _ (primary_is w) (λ x q d. read {x = x} {q = q} (primary d))))

  pub simple_same : Same a_part (run at rules.simple_operand) (Simple R)
  simple_same = record { complete = simple_goes; sound = simple_is }
