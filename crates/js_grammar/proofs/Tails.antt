-- What stands behind an operand: members, calls, and an operator behind it; and operators before it.
use Rattle.std.proofs.Common.{◌≡◌, Bool, true, false, not, ◌&&◌, List, [], ◌∷◌, refl, sym, ap, ◌∙◌, subst}
use Rattle.js_syntax.specs.declared.kind.Kind.TheVariants as kinds
use Rattle.parser_rules.specs.declared.class.Class.{Class}
use Rattle.parser_rules.specs.declared.class.Class.TheVariants as classes
use Rattle.parser_rules.specs.declared.form.Form.{Form}
use Rattle.parser_rules.specs.declared.form.Form.TheVariants as forms
use Rattle.parser_rules.specs.Classes.{class_of, is_one_of}
use Rattle.parser_rules.specs.Work.{Part, Work, State, going, opened, preceded}
use Rattle.parser_rules.specs.Rules.{Rule, nothing_more, run, take, act, ◌▸◌, either, inside, sees, sees_on_line, sees_word, after, name_it, close, prefix_kind, operator_kind, kind_passes, is_word_kind, is_line}
use Rattle.parser_rules.specs.Expressions.{at, token, expression_list, elements, simple_operand, prefix_operators}
use Rattle.parser_rules.specs.Expressions as rules
use Rattle.parser_rules.proofs.Laws.{Inside, Still}
use Rattle.js_grammar.specs.Spots.{Spot, Reading, Takes, takes, Sees, SeesNot, is, among, on_line, named_at, one_more, node, node_from, with_name}
use Rattle.js_grammar.specs.Expressions.{ExpressionList, Elements, Primary, Simple, Access, Calls, Postfix, Operand, PrefixForm, FunctionExpression, steps}
use Rattle.js_grammar.specs.Expressions as cases
use Rattle.js_grammar.proofs.Same.{spot_of, moved, gives, a_part, each, Read, read, Same, SameTail, then_read, as_read, either_first, either_second, either_read, take_goes, take_read}
use Rattle.js_grammar.proofs.Steps.{token_goes, token_read, saw}
use Rattle.js_grammar.proofs.Tests.{asks_sees, asks_word, among_of}
use Rattle.js_grammar.proofs.Nodes.{parts_given, kids_behind}
use Rattle.js_grammar.proofs.Kept.{keeps_name, kept_goes, kept_read}
use Rattle.js_grammar.proofs.Loops.{chain_same}

module _ (at : Form → State → State) (eats : Inside at) (still : (form : Form) → Still (at form)) (R : Form → Reading Part) (within : (form : Form) → Same a_part (at form) (R form))
    (list : Same a_part (run at expression_list) (ExpressionList R)) (elements_same : (closing : Class) → Same (each a_part) (run at (elements closing)) (Elements R closing))
    (simple : Same a_part (run at simple_operand) (Simple R)) where
  -- ---- behind an operand

  member_goes : (w : Work) (x : Part) (p a q : Spot) → Takes (is classes.Dot) p a → Takes (kind_passes is_word_kind) a q →
      run at rules.member (going (gives a_part w x p)) ≡ going (gives a_part w (with_name (named_at a) (node_from kinds.Member x (x ∷ []) q)) (one_more q))
  unfolding rules.member after
  member_goes w x p a q t u =
      let v = preceded kinds.Member (gives a_part w x p) in
      rw (token_goes at still classes.Dot v a t) (ap (λ (s : State). run at (act close) s) (kept_goes at still keeps_name asks_word (moved v a) q u))

  member_is : (w : Work) (x : Part) (p : Spot) → Read (gives a_part w) (Access R x p) (run at rules.member (going (gives a_part w x p)))
  unfolding rules.member after
  member_is w x p =
      let v = preceded kinds.Member (gives a_part w x p) in
      then_read at still (token classes.Dot) (act name_it ▸ take sees_word ▸ act close) (going v) (token_read at still classes.Dot v) (λ _ a t.
      then_read at still (act name_it ▸ take sees_word) (act close) (going (moved v a)) (kept_read at still keeps_name asks_word (moved v a)) (λ _ q u.
      read {x = with_name (named_at a) (node_from kinds.Member x (x ∷ []) q)} {q = one_more q} (cases.member t u)))

  index_goes : (w : Work) (x y : Part) (p a b q : Spot) → Takes (is classes.BracketOpen) p a → ExpressionList R a y b → Takes (is classes.BracketClose) b q →
      run at rules.index (going (gives a_part w x p)) ≡ going (gives a_part w (node_from kinds.Index x (x ∷ y ∷ []) q) (one_more q))
  unfolding rules.index after
  index_goes w x y p a b q t l u =
      let v = preceded kinds.Index (gives a_part w x p) in
      rw (token_goes at still classes.BracketOpen v a t, list.complete (moved v a) y b l, token_goes at still classes.BracketClose (gives a_part v y b) q u) refl

  index_is : (w : Work) (x : Part) (p : Spot) → Read (gives a_part w) (Access R x p) (run at rules.index (going (gives a_part w x p)))
  unfolding rules.index after
  index_is w x p =
      let v = preceded kinds.Index (gives a_part w x p) in
      then_read at still (token classes.BracketOpen) (expression_list ▸ (token classes.BracketClose ▸ act close)) (going v) (token_read at still classes.BracketOpen v) (λ _ a t.
      then_read at still expression_list (token classes.BracketClose ▸ act close) (going (moved v a)) (list.sound (moved v a)) (λ y b l.
      then_read at still (token classes.BracketClose) (act close) (going (gives a_part v y b)) (token_read at still classes.BracketClose (gives a_part v y b)) (λ _ q u.
      read {x = node_from kinds.Index x (x ∷ y ∷ []) q} {q = one_more q} (cases.index t l u))))

  -- the call is whole
  call_closed : (w : Work) (x : Part) (p : Spot) (ys : List Part) (q : Spot) →
      run at (act close) (going (gives (each a_part) (preceded kinds.Call (gives a_part w x p)) ys q)) ≡ going (gives a_part w (node_from kinds.Call x (x ∷ ys) q) (one_more q))
  unfolding after
  call_closed w x p ys q =
      let v = preceded kinds.Call (gives a_part w x p) in
      rw (parts_given v.top ys, kids_behind x ys) refl

  call_goes : (w : Work) (x : Part) (ys : List Part) (p a q : Spot) → Takes (is classes.ParenOpen) p a → Elements R classes.ParenClose a ys q →
      run at rules.call (going (gives a_part w x p)) ≡ going (gives a_part w (node_from kinds.Call x (x ∷ ys) q) (one_more q))
  unfolding rules.call after
  call_goes w x ys p a q t l =
      let v = preceded kinds.Call (gives a_part w x p) in
      rw (token_goes at still classes.ParenOpen v a t, (elements_same classes.ParenClose).complete (moved v a) ys q l) (call_closed w x p ys q)

  call_is : (w : Work) (x : Part) (p : Spot) → Read (gives a_part w) (Access R x p) (run at rules.call (going (gives a_part w x p)))
  unfolding rules.call after
  call_is w x p =
      let v = preceded kinds.Call (gives a_part w x p) in
      then_read at still (token classes.ParenOpen) (elements classes.ParenClose ▸ act close) (going v) (token_read at still classes.ParenOpen v) (λ _ a t.
      then_read at still (elements classes.ParenClose) (act close) (going (moved v a)) ((elements_same classes.ParenClose).sound (moved v a)) (λ ys q l.
      subst (λ (s : State). Read (gives a_part w) (Access R x p) s) (sym (call_closed w x p ys q)) (read {x = node_from kinds.Call x (x ∷ ys) q} {q = one_more q} (cases.call t l))))

  abbrev not_member : Rule
  not_member = either (sees (classes.BracketOpen ∷ [])) rules.index rules.call

  access_goes : (w : Work) (x y : Part) (p q : Spot) → Access R x p y q → run at rules.access (going (gives a_part w x p)) ≡ going (gives a_part w y q)
  unfolding rules.access
  access_goes w x _ p _ (cases.member {a = a} {q = q} t u) =
      either_first at still (sees (classes.Dot ∷ [])) rules.member not_member (gives a_part w x p) (saw t) ∙ member_goes w x p a q t u
  access_goes w x _ p _ (cases.index {y = y} {a = a} {b = b} {q = q} t l u) =
      either_second at still (sees (classes.Dot ∷ [])) rules.member not_member (gives a_part w x p) (among_of classes.BracketOpen (classes.Dot ∷ []) p.rest (saw t))
      ∙ either_first at still (sees (classes.BracketOpen ∷ [])) rules.index rules.call (gives a_part w x p) (saw t) ∙ index_goes w x y p a b q t l u
  access_goes w x _ p _ (cases.call {ys = ys} {a = a} {q = q} t l) =
      either_second at still (sees (classes.Dot ∷ [])) rules.member not_member (gives a_part w x p) (among_of classes.ParenOpen (classes.Dot ∷ []) p.rest (saw t))
      ∙ either_second at still (sees (classes.BracketOpen ∷ [])) rules.index rules.call (gives a_part w x p) (among_of classes.ParenOpen (classes.BracketOpen ∷ []) p.rest (saw t)) ∙ call_goes w x ys p a q t l

  access_is : (w : Work) (x : Part) (p : Spot) → Read (gives a_part w) (Access R x p) (run at rules.access (going (gives a_part w x p)))
  unfolding rules.access
  access_is w x p =
      either_read at still (sees (classes.Dot ∷ [])) rules.member not_member (gives a_part w x p) (λ _. member_is w x p) (λ _.
      either_read at still (sees (classes.BracketOpen ∷ [])) rules.index rules.call (gives a_part w x p) (λ _. index_is w x p) (λ _. call_is w x p))

  access_same : SameTail (run at rules.access) (Access R)
  access_same = record { complete = access_goes; sound = access_is }

  pub calls_same : SameTail (run at rules.calls) (Calls R)
  unfolding rules.calls rules.access rules.member rules.index rules.call
  calls_same = chain_same at eats still (sees (classes.Dot ∷ classes.BracketOpen ∷ classes.ParenOpen ∷ [])) _ (asks_sees _) rules.access refl (Access R) access_same

  -- ---- an operator behind it

  both : (a b : Bool) → a && b ≡ true → a ≡ true
  both true b h = refl
  both false b h = absurd (let none : ⊥ = cc in none)

  on_line_among : (cs : List Class) {p q : Spot} → Takes (on_line cs) p q → Takes (among cs) p q
  on_line_among cs (takes {t = t} {ts = ts} h) = takes (both (among cs (t ∷ ts)) (not (is_line (t ∷ ts))) h)

  among_on_line : (cs : List Class) {p q : Spot} → Sees (on_line cs) p → Takes (among cs) p q → Takes (on_line cs) p q
  among_on_line cs h (takes _) = takes h

  stepped_goes : (w : Work) (x : Part) (p q : Spot) → Takes (on_line steps) p q →
      run at rules.stepped (going (gives a_part w x p)) ≡ going (gives a_part w (node_from (operator_kind (class_of p.rest)) x (x ∷ []) q) (one_more q))
  unfolding rules.stepped after
  stepped_goes w x p q t =
      let v = preceded (operator_kind (class_of p.rest)) (gives a_part w x p) in
      rw (take_goes at still (sees steps) (among steps) (asks_sees steps) v q (on_line_among steps t)) refl

  stepped_is : (w : Work) (x : Part) (p : Spot) → Sees (on_line steps) p → Read (gives a_part w) (Postfix R x p) (run at rules.stepped (going (gives a_part w x p)))
  unfolding rules.stepped after
  stepped_is w x p h =
      let v = preceded (operator_kind (class_of p.rest)) (gives a_part w x p) in
      then_read at still (take (sees steps)) (act close) (going v) (take_read at still (sees steps) (among steps) (asks_sees steps) v) (λ _ q t.
      read {x = node_from (operator_kind (class_of p.rest)) x (x ∷ []) q} {q = one_more q} (cases.stepped (among_on_line steps h t)))

  postfix_goes : (w : Work) (x : Part) (p : Spot) (y : Part) (q : Spot) → Postfix R x p y q → run at rules.postfix (going (gives a_part w x p)) ≡ going (gives a_part w y q)
  unfolding rules.postfix
  postfix_goes w x p _ _ (cases.stepped {q = q} t) = either_first at still (sees_on_line steps) rules.stepped nothing_more (gives a_part w x p) (saw t) ∙ stepped_goes w x p q t
  postfix_goes w x p _ _ (cases.not_stepped h) = either_second at still (sees_on_line steps) rules.stepped nothing_more (gives a_part w x p) h

  postfix_is : (w : Work) (x : Part) (p : Spot) → Read (gives a_part w) (Postfix R x p) (run at rules.postfix (going (gives a_part w x p)))
  unfolding rules.postfix
  postfix_is w x p =
      either_read at still (sees_on_line steps) rules.stepped nothing_more (gives a_part w x p) (λ h. stepped_is w x p h) (λ h. read {x = x} {q = p} (cases.not_stepped h))

  pub postfix_same : SameTail (run at rules.postfix) (Postfix R)
  postfix_same = record { complete = λ w x y p q t. postfix_goes w x p y q t; sound = postfix_is }

  -- ---- operands

  called_goes : (w : Work) (x y z : Part) (a b q : Spot) → Simple R (spot_of w) x a → Calls R x a y b → Postfix R y b z q → run at rules.called_operand (going w) ≡ going (gives a_part w z q)
  unfolding rules.called_operand
  called_goes w x y z a b q s c f =
      ap (λ (s : State). run at rules.postfix (run at rules.calls s)) (simple.complete w x a s)
      ∙ ap (λ (s : State). run at rules.postfix s) (calls_same.complete w x y a b c)
      ∙ postfix_same.complete w y z b q f

  called_is : (w : Work) → Read (gives a_part w) (Operand R (spot_of w)) (run at rules.called_operand (going w))
  unfolding rules.called_operand
  called_is w =
      then_read at still simple_operand (rules.calls ▸ rules.postfix) (going w) (simple.sound w) (λ x a s.
      then_read at still rules.calls rules.postfix (going (gives a_part w x a)) (calls_same.sound w x a) (λ y b c.
      as_read at still _ (postfix_same.sound w y b) (λ z q f. read {x = z} {q = q} (cases.called s c f))))

  -- no operator stands before what calls may follow
  no_prefix : (c : Class) {p q : Spot} → is_one_of c prefix_operators ≡ false → Takes (is c) p q → SeesNot (among prefix_operators) p
  no_prefix c {p} e t = among_of c prefix_operators p.rest (saw t) ∙ e

  function_begins : {p q : Spot} {x : Part} → FunctionExpression R p x q → SeesNot (among prefix_operators) p
  function_begins (cases.function_expression t _ _ _) = no_prefix classes.Function refl t

  primary_begins : {p q : Spot} {x : Part} → Primary R p x q → SeesNot (among prefix_operators) p
  primary_begins (cases.number t) = no_prefix classes.Num refl t
  primary_begins (cases.text t) = no_prefix classes.Text refl t
  primary_begins (cases.this t) = no_prefix classes.This refl t
  primary_begins (cases.undefined t) = no_prefix classes.Undefined refl t
  primary_begins (cases.null t) = no_prefix classes.Null refl t
  primary_begins (cases.true_word t) = no_prefix classes.True refl t
  primary_begins (cases.false_word t) = no_prefix classes.False refl t
  primary_begins (cases.array t _) = no_prefix classes.BracketOpen refl t
  primary_begins (cases.object t _ _) = no_prefix classes.BraceOpen refl t
  primary_begins (cases.function f) = function_begins f
  primary_begins (cases.construction t _ _ _) = no_prefix classes.New refl t

  simple_begins : {p q : Spot} {x : Part} → Simple R p x q → SeesNot (among prefix_operators) p
  simple_begins (cases.parentheses t _ _) = no_prefix classes.ParenOpen refl t
  simple_begins (cases.name t) = no_prefix classes.Name refl t
  simple_begins (cases.primary r) = primary_begins r

  operand_goes : (w : Work) (x : Part) (q : Spot) → Operand R (spot_of w) x q → run at rules.operand (going w) ≡ going (gives a_part w x q)
  unfolding rules.operand
  operand_goes w x q (cases.prefixed h r) = either_first at still (sees prefix_operators) (inside forms.Prefix) rules.called_operand w h ∙ (within forms.Prefix).complete w x q r
  operand_goes w z q (cases.called {a = a} {b = b} {x = x} {y = y} s c f) =
      either_second at still (sees prefix_operators) (inside forms.Prefix) rules.called_operand w (simple_begins s) ∙ called_goes w x y z a b q s c f

  operand_is : (w : Work) → Read (gives a_part w) (Operand R (spot_of w)) (run at rules.operand (going w))
  unfolding rules.operand
  operand_is w =
      either_read at still (sees prefix_operators) (inside forms.Prefix) rules.called_operand w
      (λ h. as_read at still _ ((within forms.Prefix).sound w) (λ x q r. read {x = x} {q = q} (cases.prefixed h r)))
      (λ _. called_is w)

  pub operand_same : Same a_part (run at rules.operand) (Operand R)
  operand_same = record { complete = operand_goes; sound = operand_is }

  prefix_goes : (w : Work) (x : Part) (q : Spot) → PrefixForm R (spot_of w) x q → run at rules.prefix (going w) ≡ going (gives a_part w x q)
  unfolding rules.prefix after
  prefix_goes w _ _ (cases.prefix {a = a} {q = q} {x = x} t o) =
      let v = opened (prefix_kind (class_of w.rest)) w in
      rw (take_goes at still (sees prefix_operators) (among prefix_operators) (asks_sees prefix_operators) v a t, operand_goes (moved v a) x q o) refl

  prefix_is : (w : Work) → Read (gives a_part w) (PrefixForm R (spot_of w)) (run at rules.prefix (going w))
  unfolding rules.prefix after
  prefix_is w =
      let v = opened (prefix_kind (class_of w.rest)) w in
      then_read at still (take (sees prefix_operators)) (rules.operand ▸ act close) (going v) (take_read at still (sees prefix_operators) (among prefix_operators) (asks_sees prefix_operators) v) (λ _ a t.
      then_read at still rules.operand (act close) (going (moved v a)) (operand_is (moved v a)) (λ x q o.
      read {x = node (prefix_kind (class_of w.rest)) (spot_of w) (x ∷ []) q} {q = one_more q} (cases.prefix t o)))

  pub prefix_same : Same a_part (run at rules.prefix) (PrefixForm R)
  prefix_same = record { complete = prefix_goes; sound = prefix_is }
