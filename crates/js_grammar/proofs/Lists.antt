-- The rules of lists, names and bodies read what their cases read.
use Rattle.std.proofs.Common.{◌≡◌, true, false, List, [], ◌∷◌, Option, None, Some, refl, sym, ap, ◌∙◌, subst}
use Rattle.js_syntax.specs.declared.kind.Kind.{Kind}
use Rattle.js_syntax.specs.declared.kind.Kind.TheVariants as kinds
use Rattle.parser_rules.specs.declared.class.Class.{Class}
use Rattle.parser_rules.specs.declared.class.Class.TheVariants as classes
use Rattle.parser_rules.specs.declared.form.Form.{Form}
use Rattle.parser_rules.specs.declared.form.Form.TheVariants as forms
use Rattle.parser_rules.specs.Classes.{is_one_of}
use Rattle.parser_rules.specs.Work.{Part, Work, State, going, opened, closed, fresh, place_of}
use Rattle.parser_rules.specs.Rules.{Rule, run, act, inside, ◌▸◌, either, many, nothing_more, refuse, sees, sees_other, after, close, pair, declare}
use Rattle.parser_rules.specs.Expressions.{token}
use Rattle.parser_rules.specs.Expressions as rules
use Rattle.parser_rules.proofs.Laws.{Inside, Still}
use Rattle.js_grammar.specs.Spots.{Spot, Reading, Named, Takes, Followed, by_comma, by_closing, Many, Chain, is, other_than, one_more, named_at, node, node_from}
use Rattle.js_grammar.specs.Expressions.{Declares, declares, NameIfAny, named, unnamed, Parameters, parameters, Elements, elements, CommaBehind, comma_behind, ExpressionList, expression_list, Items, Body, body}
use Rattle.js_grammar.proofs.Same.{spot_of, moved, Effect, gives, a_part, a_name, own_name, own_name_if_any, each, Read, read, Same, SameTail, then_read, as_read, either_first, either_second, either_read, refuse_read}
use Rattle.js_grammar.proofs.Loops.{many_same, chain_same}
use Rattle.js_grammar.proofs.Nodes.{parts_given, kids_given}
use Rattle.js_grammar.proofs.Tests.{asks_sees, asks_other, among_of}
use Rattle.js_grammar.proofs.Steps.{token_goes, token_read, saw}
use Rattle.js_grammar.proofs.Kept.{keeps_name, keeps_declared, kept_goes, kept_read}

module _ (at : Form → State → State) (eats : Inside at) (still : (form : Form) → Still (at form)) where
  -- ---- choices

  -- where a token of another class is in view, the second is read
  pub pass_by : (c : Class) (cs : List Class) (first second : Rule) (w : Work) → is c w.rest ≡ true → is_one_of c cs ≡ false → run at (either (sees cs) first second) (going w) ≡ run at second (going w)
  pass_by c cs first second w h e = either_second at still (sees cs) first second w (among_of c cs w.rest h ∙ e)

  -- ---- what stands behind one of several

  module _ {A : Type 0} (effect : Effect A) (one : Rule) (One : Reading A) (closing : Class) where
    -- where one is read as it is read by cases, so is one with what stands behind it
    pub followed_goes : (w : Work) → ((x : A) (q : Spot) → One (spot_of w) x q → run at one (going w) ≡ going (gives effect w x q)) →
        (x : A) (q : Spot) → Followed (is classes.Comma) (is closing) One (spot_of w) x q → run at (one ▸ rules.comma_before closing) (going w) ≡ going (gives effect w x q)
    unfolding rules.comma_before
    followed_goes w c x q (by_comma {a = a} r t) =
        ap (λ (s : State). run at (rules.comma_before closing) s) (c x a r)
        ∙ either_first at still (rules.at classes.Comma) (token classes.Comma) (either (rules.at closing) nothing_more refuse) (gives effect w x a) (saw t)
        ∙ token_goes at still classes.Comma (gives effect w x a) q t
    followed_goes w c x q (by_closing r other here) =
        ap (λ (s : State). run at (rules.comma_before closing) s) (c x q r)
        ∙ either_second at still (rules.at classes.Comma) (token classes.Comma) (either (rules.at closing) nothing_more refuse) (gives effect w x q) other
        ∙ either_first at still (rules.at closing) nothing_more refuse (gives effect w x q) here

    pub followed_read : (w : Work) → Read (gives effect w) (One (spot_of w)) (run at one (going w)) →
        Read (gives effect w) (Followed (is classes.Comma) (is closing) One (spot_of w)) (run at (one ▸ rules.comma_before closing) (going w))
    unfolding rules.comma_before
    followed_read w h = then_read at still one (rules.comma_before closing) (going w) h (λ x a r.
        either_read at still (rules.at classes.Comma) (token classes.Comma) (either (rules.at closing) nothing_more refuse) (gives effect w x a)
        (λ here. as_read at still _ (token_read at still classes.Comma (gives effect w x a)) (λ _ q t. read {x = x} {q = q} (by_comma r t)))
        (λ other. either_read at still (rules.at closing) nothing_more refuse (gives effect w x a)
        (λ here. read {x = x} {q = a} (by_closing r other here))
        (λ _. refuse_read at still (gives effect w x a))))

    pub followed_same : Same effect (run at one) One → Same effect (run at (one ▸ rules.comma_before closing)) (Followed (is classes.Comma) (is closing) One)
    followed_same same = record { complete = λ w x q f. followed_goes w (same.complete w) x q f; sound = λ w. followed_read w (same.sound w) }

  -- ---- names

  pub declares_same : Same a_name (run at rules.declared_name) Declares
  unfolding rules.declared_name
  declares_same = record { complete = λ w x q d. goes w x q d; sound = λ w. is_read w }
    where
      goes : (w : Work) (x : Named) (q : Spot) → Declares (spot_of w) x q → run at (act declare ▸ token classes.Name) (going w) ≡ going (gives a_name w x q)
      goes w _ q (declares t) = kept_goes at still keeps_declared (asks_sees (classes.Name ∷ [])) w q t

      is_read : (w : Work) → Read (gives a_name w) (Declares (spot_of w)) (run at (act declare ▸ token classes.Name) (going w))
      is_read w = as_read at still _ (kept_read at still keeps_declared (asks_sees (classes.Name ∷ [])) w) (λ _ q t. read {x = named_at (spot_of w)} {q = q} (declares t))

  pub own_name_goes : (w : Work) (q : Spot) → Takes (is classes.Name) (spot_of w) q → run at rules.own_name (going w) ≡ going (gives own_name w (named_at (spot_of w)) q)
  unfolding rules.own_name
  own_name_goes w q t = kept_goes at still keeps_name (asks_sees (classes.Name ∷ [])) w q t

  pub own_name_read : (w : Work) → Read (λ (u : Unit {0}) (q : Spot). gives own_name w (named_at (spot_of w)) q) (λ u q. Takes (is classes.Name) (spot_of w) q) (run at rules.own_name (going w))
  unfolding rules.own_name
  own_name_read w = kept_read at still keeps_name (asks_sees (classes.Name ∷ [])) w

  pub own_name_same : Same own_name (run at rules.own_name) Declares
  own_name_same = record { complete = λ w n q d. goes w n q d; sound = λ w. as_read at still _ (own_name_read w) (λ _ q t. read {x = named_at (spot_of w)} {q = q} (declares t)) }
    where
      goes : (w : Work) (n : Named) (q : Spot) → Declares (spot_of w) n q → run at rules.own_name (going w) ≡ going (gives own_name w n q)
      goes w _ q (declares t) = own_name_goes w q t

  name_if_any_goes : (w : Work) (o : Option Named) (q : Spot) → NameIfAny (spot_of w) o q → run at rules.name_if_any (going w) ≡ going (gives own_name_if_any w o q)
  unfolding rules.name_if_any
  name_if_any_goes w _ q (named t) = either_first at still (rules.at classes.Name) rules.own_name nothing_more w (saw t) ∙ own_name_goes w q t
  name_if_any_goes w _ _ (unnamed h) = either_second at still (rules.at classes.Name) rules.own_name nothing_more w h

  name_if_any_is : (w : Work) → Read (gives own_name_if_any w) (NameIfAny (spot_of w)) (run at rules.name_if_any (going w))
  unfolding rules.name_if_any
  name_if_any_is w = either_read at still (rules.at classes.Name) rules.own_name nothing_more w
      (λ h. as_read at still _ (own_name_read w) (λ _ q t. read {x = Some (named_at (spot_of w))} {q = q} (named t)))
      (λ h. read {x = None} {q = spot_of w} (unnamed h))

  pub name_if_any_same : Same own_name_if_any (run at rules.name_if_any) NameIfAny
  name_if_any_same = record { complete = name_if_any_goes; sound = name_if_any_is }

  names_same : Same (each a_name) (run at (many (rules.at classes.Name) rules.parameter)) (Many (is classes.Name) (Followed (is classes.Comma) (is classes.ParenClose) Declares))
  unfolding rules.parameter rules.declared_name
  names_same = many_same at eats still (rules.at classes.Name) (is classes.Name) (asks_sees (classes.Name ∷ [])) (rules.declared_name ▸ rules.comma_before classes.ParenClose) refl
      a_name (Followed (is classes.Comma) (is classes.ParenClose) Declares) (followed_same a_name rules.declared_name Declares classes.ParenClose declares_same)

  parameters_goes : (w : Work) (ns : List Named) (q : Spot) → Parameters (spot_of w) ns q → run at rules.parameters (going w) ≡ going (gives (each a_name) w ns q)
  unfolding rules.parameters
  parameters_goes w ns q (parameters {a = a} {b = b} t m u) =
      rw (token_goes at still classes.ParenOpen w a t, names_same.complete (moved w a) ns b m, token_goes at still classes.ParenClose (gives (each a_name) w ns b) q u) refl

  parameters_is : (w : Work) → Read (gives (each a_name) w) (Parameters (spot_of w)) (run at rules.parameters (going w))
  unfolding rules.parameters
  parameters_is w =
      then_read at still (token classes.ParenOpen) (many (rules.at classes.Name) rules.parameter ▸ token classes.ParenClose) (going w) (token_read at still classes.ParenOpen w) (λ _ a t.
      then_read at still (many (rules.at classes.Name) rules.parameter) (token classes.ParenClose) (going (moved w a)) (names_same.sound (moved w a)) (λ ns b m.
      as_read at still _ (token_read at still classes.ParenClose (gives (each a_name) w ns b)) (λ _ q u. read {x = ns} {q = q} (parameters t m u))))

  pub parameters_same : Same (each a_name) (run at rules.parameters) Parameters
  parameters_same = record { complete = parameters_goes; sound = parameters_is }

-- ---- what has forms inside

-- a form that began without a part is closed behind these parts
pub closes_parts : (w : Work) (kind : Kind) (xs : List Part) (q : Spot) → going (closed (gives (each a_part) (opened kind w) xs q)) ≡ going (gives a_part w (node kind (spot_of w) xs q) (one_more q))
closes_parts w kind xs q = rw (parts_given (fresh kind (place_of w.rest)) xs, kids_given xs) refl

module _ (at : Form → State → State) (eats : Inside at) (still : (form : Form) → Still (at form)) (R : Form → Reading Part) (within : (form : Form) → Same a_part (at form) (R form)) where
  elements_many : (closing : Class) → Same (each a_part) (run at (many (sees_other (closing ∷ [])) (rules.element closing))) (Many (other_than (closing ∷ [])) (Followed (is classes.Comma) (is closing) (R forms.Expression)))
  unfolding rules.element
  elements_many closing = many_same at eats still (sees_other (closing ∷ [])) (other_than (closing ∷ [])) (asks_other (closing ∷ [])) (inside forms.Expression ▸ rules.comma_before closing) refl
      a_part (Followed (is classes.Comma) (is closing) (R forms.Expression)) (followed_same at eats still a_part (inside forms.Expression) (R forms.Expression) closing (within forms.Expression))

  elements_goes : (closing : Class) (w : Work) (xs : List Part) (q : Spot) → Elements R closing (spot_of w) xs q → run at (rules.elements closing) (going w) ≡ going (gives (each a_part) w xs q)
  unfolding rules.elements
  elements_goes closing w xs q (elements {a = a} m t) =
      rw ((elements_many closing).complete w xs a m, token_goes at still closing (gives (each a_part) w xs a) q t) refl

  elements_is : (closing : Class) (w : Work) → Read (gives (each a_part) w) (Elements R closing (spot_of w)) (run at (rules.elements closing) (going w))
  unfolding rules.elements
  elements_is closing w =
      then_read at still (many (sees_other (closing ∷ [])) (rules.element closing)) (token closing) (going w) ((elements_many closing).sound w) (λ xs a m.
      as_read at still _ (token_read at still closing (gives (each a_part) w xs a)) (λ _ q t. read {x = xs} {q = q} (elements m t)))

  pub elements_same : (closing : Class) → Same (each a_part) (run at (rules.elements closing)) (Elements R closing)
  elements_same closing = record { complete = elements_goes closing; sound = elements_is closing }

  pub items_same : Same (each a_part) (run at rules.item_list) (Items R)
  unfolding rules.item_list
  items_same = many_same at eats still (sees_other (classes.BraceClose ∷ classes.End ∷ [])) (other_than (classes.BraceClose ∷ classes.End ∷ [])) (asks_other (classes.BraceClose ∷ classes.End ∷ [])) (inside forms.Item) refl a_part (R forms.Item) (within forms.Item)

  -- ---- expressions with `,` between

  comma_goes : (w : Work) (x y : Part) (p q : Spot) → CommaBehind R x p y q → run at rules.further_expression (going (gives a_part w x p)) ≡ going (gives a_part w y q)
  unfolding rules.further_expression after
  comma_goes w x _ p _ (comma_behind {y = y} {a = a} {q = q} t r) =
      rw (token_goes at still classes.Comma (gives a_part w x p) a t, (within forms.Expression).complete (gives a_part w x a) y q r) refl

  comma_is : (w : Work) (x : Part) (p : Spot) → Read (gives a_part w) (CommaBehind R x p) (run at rules.further_expression (going (gives a_part w x p)))
  unfolding rules.further_expression after
  comma_is w x p =
      then_read at still (token classes.Comma) (inside forms.Expression ▸ act (pair kinds.Comma)) (going (gives a_part w x p)) (token_read at still classes.Comma (gives a_part w x p)) (λ _ a t.
      then_read at still (inside forms.Expression) (act (pair kinds.Comma)) (going (gives a_part w x a)) ((within forms.Expression).sound (gives a_part w x a)) (λ y q r.
      read {x = node_from kinds.Comma x (x ∷ y ∷ []) q} {q = one_more q} (comma_behind t r)))

  commas_same : SameTail (run at (many (rules.at classes.Comma) rules.further_expression)) (Chain (is classes.Comma) (CommaBehind R))
  unfolding rules.further_expression
  commas_same = chain_same at eats still (rules.at classes.Comma) (is classes.Comma) (asks_sees (classes.Comma ∷ [])) rules.further_expression refl (CommaBehind R) (record { complete = comma_goes; sound = comma_is })

  expression_list_goes : (w : Work) (x : Part) (q : Spot) → ExpressionList R (spot_of w) x q → run at rules.expression_list (going w) ≡ going (gives a_part w x q)
  unfolding rules.expression_list
  expression_list_goes w y q (expression_list {a = a} {x = x} r c) =
      rw ((within forms.Expression).complete w x a r) (commas_same.complete w x y a q c)

  expression_list_is : (w : Work) → Read (gives a_part w) (ExpressionList R (spot_of w)) (run at rules.expression_list (going w))
  unfolding rules.expression_list
  expression_list_is w =
      then_read at still (inside forms.Expression) (many (rules.at classes.Comma) rules.further_expression) (going w) ((within forms.Expression).sound w) (λ x a r.
      as_read at still _ (commas_same.sound w x a) (λ y q c. read {x = y} {q = q} (expression_list r c)))

  pub expression_list_same : Same a_part (run at rules.expression_list) (ExpressionList R)
  expression_list_same = record { complete = expression_list_goes; sound = expression_list_is }

  -- ---- bodies

  body_goes : (w : Work) (x : Part) (q : Spot) → Body R (spot_of w) x q → run at rules.body (going w) ≡ going (gives a_part w x q)
  unfolding rules.body after
  body_goes w _ _ (body {a = a} {b = b} {q = q} {xs = xs} t m u) =
      let v = opened kinds.Body w in
      rw (token_goes at still classes.BraceOpen v a t, items_same.complete (moved v a) xs b m, token_goes at still classes.BraceClose (gives (each a_part) v xs b) q u) (closes_parts w kinds.Body xs q)

  body_is : (w : Work) → Read (gives a_part w) (Body R (spot_of w)) (run at rules.body (going w))
  unfolding rules.body after
  body_is w =
      let v = opened kinds.Body w in
      then_read at still (token classes.BraceOpen) (rules.item_list ▸ (token classes.BraceClose ▸ act close)) (going v) (token_read at still classes.BraceOpen v) (λ _ a t.
      then_read at still rules.item_list (token classes.BraceClose ▸ act close) (going (moved v a)) (items_same.sound (moved v a)) (λ xs b m.
      then_read at still (token classes.BraceClose) (act close) (going (gives (each a_part) v xs b)) (token_read at still classes.BraceClose (gives (each a_part) v xs b)) (λ _ q u.
      subst (λ (s : State). Read (gives a_part w) (Body R (spot_of w)) s) (sym (closes_parts w kinds.Body xs q)) (read {x = node kinds.Body (spot_of w) xs q} {q = one_more q} (body t m u)))))

  pub body_same : Same a_part (run at rules.body) (Body R)
  body_same = record { complete = body_goes; sound = body_is }
