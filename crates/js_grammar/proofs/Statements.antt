-- The rules of the parts of statements read what their cases read.
use Rattle.std.proofs.Common.{◌≡◌, List, [], ◌∷◌, Option, None, Some, refl, sym, ap, ◌∙◌, subst}
use Rattle.js_syntax.specs.declared.kind.Kind.TheVariants as kinds
use Rattle.parser_rules.specs.declared.class.Class.{Class}
use Rattle.parser_rules.specs.declared.class.Class.TheVariants as classes
use Rattle.parser_rules.specs.declared.form.Form.{Form}
use Rattle.parser_rules.specs.declared.form.Form.TheVariants as forms
use Rattle.parser_rules.specs.Work.{Part, Work, State, going, opened, omitted}
use Rattle.parser_rules.specs.Rules.{Rule, run, act, ◌▸◌, either, inside, nothing_more, sees, after_line, after, close, omit}
use Rattle.parser_rules.specs.Expressions.{token, expression_list, declared_name, own_name}
use Rattle.parser_rules.specs.Statements as rules
use Rattle.parser_rules.proofs.Laws.{Inside, Still}
use Rattle.js_grammar.specs.Spots.{Spot, Reading, Named, Takes, is, named_at, one_more, absent, Sees}
use Rattle.js_grammar.specs.Expressions.{ExpressionList, Declares, declares}
use Rattle.js_grammar.specs.Statements.{JumpEnds, line_end, on_its_line, Condition, condition, Alternative, else_branch, no_else, ExpressionBefore, nothing_before, expression_before, declared, ForStart, for_let, for_const, for_expression, Returned, line_behind, nothing_returned, value_returned, CatchName, caught, nothing_caught, Finaliser, finaliser, FinaliserIfAny, some_finaliser, no_finaliser}
use Rattle.js_grammar.proofs.Same.{spot_of, moved, gives, a_part, no_effect, a_name, own_name_if_any, Read, read, Same, then_read, as_read, either_first, either_second, either_read}
use Rattle.js_grammar.proofs.Apart.{other_of, none_of, not_first, not_others}
use Rattle.js_grammar.proofs.Steps.{token_goes, token_read, saw}
use Rattle.js_grammar.proofs.Lists.{own_name_same}
use Rattle.js_grammar.proofs.Declarations.{ends_goes, ends_is, let_bindings, const_bindings, lets_same, consts_same, closed_declared, bindings_begin}

module _ (at : Form → State → State) (eats : Inside at) (still : (form : Form) → Still (at form)) (R : Form → Reading Part) (within : (form : Form) → Same a_part (at form) (R form))
    (list : Same a_part (run at expression_list) (ExpressionList R)) (name : Same a_name (run at declared_name) Declares) where
  condition_goes : (w : Work) (x : Part) (q : Spot) → Condition R (spot_of w) x q → run at rules.condition (going w) ≡ going (gives a_part w x q)
  unfolding rules.condition
  condition_goes w x q (condition {a = a} {b = b} t l u) =
      rw (token_goes at still classes.ParenOpen w a t, list.complete (moved w a) x b l, token_goes at still classes.ParenClose (gives a_part w x b) q u) refl

  condition_is : (w : Work) → Read (gives a_part w) (Condition R (spot_of w)) (run at rules.condition (going w))
  unfolding rules.condition
  condition_is w =
      then_read at still (token classes.ParenOpen) (expression_list ▸ token classes.ParenClose) (going w) (token_read at still classes.ParenOpen w) (λ _ a t.
      then_read at still expression_list (token classes.ParenClose) (going (moved w a)) (list.sound (moved w a)) (λ x b l.
      as_read at still _ (token_read at still classes.ParenClose (gives a_part w x b)) (λ _ q u. read {x = x} {q = q} (condition t l u))))

  pub condition_same : Same a_part (run at rules.condition) (Condition R)
  condition_same = record { complete = condition_goes; sound = condition_is }

  alternative_goes : (w : Work) (x : Part) (q : Spot) → Alternative R (spot_of w) x q → run at rules.alternative (going w) ≡ going (gives a_part w x q)
  unfolding rules.alternative rules.else_branch after
  alternative_goes w x q (else_branch {a = a} t s) =
      either_first at still (sees (classes.Else ∷ [])) rules.else_branch (act omit) w (saw t) ∙ rw (token_goes at still classes.Else w a t, (within forms.Statement).complete (moved w a) x q s) refl
  alternative_goes w _ _ (no_else h) = either_second at still (sees (classes.Else ∷ [])) rules.else_branch (act omit) w h

  alternative_is : (w : Work) → Read (gives a_part w) (Alternative R (spot_of w)) (run at rules.alternative (going w))
  unfolding rules.alternative rules.else_branch after
  alternative_is w = either_read at still (sees (classes.Else ∷ [])) rules.else_branch (act omit) w
      (λ h. then_read at still (token classes.Else) (inside forms.Statement) (going w) (token_read at still classes.Else w) (λ _ a t.
      as_read at still _ ((within forms.Statement).sound (moved w a)) (λ x q s. read {x = x} {q = q} (else_branch t s))))
      (λ h. read {x = absent (spot_of w)} {q = one_more (spot_of w)} (no_else h))

  pub alternative_same : Same a_part (run at rules.alternative) (Alternative R)
  alternative_same = record { complete = alternative_goes; sound = alternative_is }

  -- ---- what may be missing

  before_goes : (c : Class) (w : Work) (x : Part) (q : Spot) → ExpressionBefore R c (spot_of w) x q → run at (rules.expression_before c) (going w) ≡ going (gives a_part w x q)
  unfolding rules.expression_before after
  before_goes c w _ _ (nothing_before h) = either_first at still (sees (c ∷ [])) (act omit) expression_list w h
  before_goes c w x q (expression_before h l) = either_second at still (sees (c ∷ [])) (act omit) expression_list w h ∙ list.complete w x q l

  before_is : (c : Class) (w : Work) → Read (gives a_part w) (ExpressionBefore R c (spot_of w)) (run at (rules.expression_before c) (going w))
  unfolding rules.expression_before after
  before_is c w = either_read at still (sees (c ∷ [])) (act omit) expression_list w
      (λ h. read {x = absent (spot_of w)} {q = one_more (spot_of w)} (nothing_before h))
      (λ h. as_read at still _ (list.sound w) (λ x q l. read {x = x} {q = q} (expression_before h l)))

  pub before_same : (c : Class) → Same a_part (run at (rules.expression_before c)) (ExpressionBefore R c)
  before_same c = record { complete = before_goes c; sound = before_is c }

  jump_goes : (w : Work) (u : Unit {0}) (q : Spot) → JumpEnds (spot_of w) q → run at rules.line_or_end (going w) ≡ going (moved w q)
  unfolding rules.line_or_end
  jump_goes w u _ (line_end h) = either_first at still after_line nothing_more rules.ends w h
  jump_goes w u q (on_its_line h e) = either_second at still after_line nothing_more rules.ends w h ∙ ends_goes at eats still w u q e

  jump_is : (w : Work) → Read (gives no_effect w) (λ u q. JumpEnds (spot_of w) q) (run at rules.line_or_end (going w))
  unfolding rules.line_or_end
  jump_is w = either_read at still after_line nothing_more rules.ends w
      (λ h. read {x = tt} {q = spot_of w} (line_end h))
      (λ h. as_read at still _ (ends_is at eats still w) (λ _ q e. read {x = tt} {q = q} (on_its_line h e)))

  pub jump_same : Same no_effect (run at rules.line_or_end) (λ p (u : Unit {0}) q. JumpEnds p q)
  jump_same = record { complete = jump_goes; sound = jump_is }

  -- ---- what a `return` gives

  abbrev no_value : List Class
  no_value = classes.Semicolon ∷ classes.BraceClose ∷ classes.End ∷ []

  abbrev behind_line : Rule
  behind_line = either (sees no_value) rules.nothing_returned rules.ended_expression

  returned_goes : (w : Work) (x : Part) (q : Spot) → Returned R (spot_of w) x q → run at rules.returned (going w) ≡ going (gives a_part w x q)
  unfolding rules.returned rules.nothing_returned rules.ended_expression after
  returned_goes w _ _ (line_behind h) = either_first at still after_line (act omit) behind_line w h
  returned_goes w _ q (nothing_returned h g e) =
      either_second at still after_line (act omit) behind_line w h ∙ either_first at still (sees no_value) rules.nothing_returned rules.ended_expression w g
      ∙ ends_goes at eats still (omitted w) tt q e
  returned_goes w x q (value_returned {a = a} h g l e) =
      either_second at still after_line (act omit) behind_line w h ∙ either_second at still (sees no_value) rules.nothing_returned rules.ended_expression w g
      ∙ ap (λ (s : State). run at rules.ends s) (list.complete w x a l) ∙ ends_goes at eats still (gives a_part w x a) tt q e

  returned_is : (w : Work) → Read (gives a_part w) (Returned R (spot_of w)) (run at rules.returned (going w))
  unfolding rules.returned rules.nothing_returned rules.ended_expression after
  returned_is w = either_read at still after_line (act omit) behind_line w
      (λ h. read {x = absent (spot_of w)} {q = one_more (spot_of w)} (line_behind h))
      (λ h. either_read at still (sees no_value) rules.nothing_returned rules.ended_expression w
      (λ g. as_read at still _ (ends_is at eats still (omitted w)) (λ _ q e. read {x = absent (spot_of w)} {q = q} (nothing_returned h g e)))
      (λ g. then_read at still expression_list rules.ends (going w) (list.sound w) (λ x a l.
      as_read at still _ (ends_is at eats still (gives a_part w x a)) (λ _ q e. read {x = x} {q = q} (value_returned h g l e)))))

  pub returned_same : Same a_part (run at rules.returned) (Returned R)
  returned_same = record { complete = returned_goes; sound = returned_is }

  -- ---- what stands behind a block of `try`

  catch_goes : (w : Work) (o : Option Named) (q : Spot) → CatchName R (spot_of w) o q → run at rules.catch_name (going w) ≡ going (gives own_name_if_any w o q)
  unfolding rules.catch_name rules.caught_name
  catch_goes w _ q (caught {a = a} {b = b} t n u) =
      either_first at still (sees (classes.ParenOpen ∷ [])) rules.caught_name nothing_more w (saw t)
      ∙ rw (token_goes at still classes.ParenOpen w a t, (own_name_same at eats still).complete (moved w a) (named_at a) b (declares n), token_goes at still classes.ParenClose (gives own_name_if_any w (Some (named_at a)) b) q u) refl
  catch_goes w _ _ (nothing_caught h) = either_second at still (sees (classes.ParenOpen ∷ [])) rules.caught_name nothing_more w h

  catch_is : (w : Work) → Read (gives own_name_if_any w) (CatchName R (spot_of w)) (run at rules.catch_name (going w))
  unfolding rules.catch_name rules.caught_name
  catch_is w = either_read at still (sees (classes.ParenOpen ∷ [])) rules.caught_name nothing_more w
      (λ h. then_read at still (token classes.ParenOpen) (own_name ▸ token classes.ParenClose) (going w) (token_read at still classes.ParenOpen w) (λ _ a t.
      then_read at still own_name (token classes.ParenClose) (going (moved w a)) ((own_name_same at eats still).sound (moved w a)) (λ n b d.
      as_read at still _ (token_read at still classes.ParenClose (gives own_name_if_any w (Some n) b)) (λ _ q u. found w a b q n t d u))))
      (λ h. read {x = None} {q = spot_of w} (nothing_caught h))
    where
      found : (w : Work) (a b q : Spot) (n : Named) → Takes (is classes.ParenOpen) (spot_of w) a → Declares a n b → Takes (is classes.ParenClose) b q →
          Read (gives own_name_if_any w) (CatchName R (spot_of w)) (going (gives own_name_if_any w (Some n) q))
      found w a b q _ t (declares n) u = read {x = Some (named_at a)} {q = q} (caught t n u)

  pub catch_same : Same own_name_if_any (run at rules.catch_name) (CatchName R)
  catch_same = record { complete = catch_goes; sound = catch_is }

  finaliser_goes : (w : Work) (x : Part) (q : Spot) → Finaliser R (spot_of w) x q → run at rules.finaliser (going w) ≡ going (gives a_part w x q)
  unfolding rules.finaliser
  finaliser_goes w x q (finaliser {a = a} t b) = ap (λ (s : State). run at (inside forms.Block) s) (token_goes at still classes.Finally w a t) ∙ (within forms.Block).complete (moved w a) x q b

  finaliser_is : (w : Work) → Read (gives a_part w) (Finaliser R (spot_of w)) (run at rules.finaliser (going w))
  unfolding rules.finaliser
  finaliser_is w =
      then_read at still (token classes.Finally) (inside forms.Block) (going w) (token_read at still classes.Finally w) (λ _ a t.
      as_read at still _ ((within forms.Block).sound (moved w a)) (λ x q b. read {x = x} {q = q} (finaliser t b)))

  pub finaliser_same : Same a_part (run at rules.finaliser) (Finaliser R)
  finaliser_same = record { complete = finaliser_goes; sound = finaliser_is }

  pub finaliser_begins : (p : Spot) (x : Part) (q : Spot) → Finaliser R p x q → Sees (is classes.Finally) p
  finaliser_begins p x q (finaliser t b) = saw t

  if_any_goes : (w : Work) (x : Part) (q : Spot) → FinaliserIfAny R (spot_of w) x q → run at rules.finaliser_if_any (going w) ≡ going (gives a_part w x q)
  unfolding rules.finaliser_if_any after
  if_any_goes w x q (some_finaliser f) = either_first at still (sees (classes.Finally ∷ [])) rules.finaliser (act omit) w (finaliser_begins (spot_of w) x q f) ∙ finaliser_goes w x q f
  if_any_goes w _ _ (no_finaliser h) = either_second at still (sees (classes.Finally ∷ [])) rules.finaliser (act omit) w h

  if_any_is : (w : Work) → Read (gives a_part w) (FinaliserIfAny R (spot_of w)) (run at rules.finaliser_if_any (going w))
  unfolding rules.finaliser_if_any after
  if_any_is w = either_read at still (sees (classes.Finally ∷ [])) rules.finaliser (act omit) w
      (λ h. as_read at still _ (finaliser_is w) (λ x q f. read {x = x} {q = q} (some_finaliser f)))
      (λ h. read {x = absent (spot_of w)} {q = one_more (spot_of w)} (no_finaliser h))

  pub if_any_same : Same a_part (run at rules.finaliser_if_any) (FinaliserIfAny R)
  if_any_same = record { complete = if_any_goes; sound = if_any_is }

  -- ---- what a `for` begins with

  abbrev for_words : List Class
  for_words = classes.Let ∷ classes.Const ∷ []

  abbrev no_let : Rule
  no_let = either (sees (classes.Const ∷ [])) rules.const_start (rules.expression_before classes.Semicolon)

  for_start_goes : (w : Work) (x : Part) (q : Spot) → ForStart R (spot_of w) x q → run at rules.for_start (going w) ≡ going (gives a_part w x q)
  unfolding rules.for_start rules.let_start rules.const_start rules.let_list rules.const_list after
  for_start_goes w _ _ (for_let {q = q} {xs = xs} d) =
      either_first at still (sees (classes.Let ∷ [])) rules.let_start no_let w (bindings_begin at eats still R within name classes.Let _ (spot_of w) xs q d)
      ∙ ap (λ (s : State). run at (act close) s) ((lets_same at eats still R within name).complete (opened kinds.Let w) xs q d)
      ∙ closed_declared at eats still R within name kinds.Let w xs q
  for_start_goes w _ _ (for_const {q = q} {xs = xs} d) =
      let h = bindings_begin at eats still R within name classes.Const _ (spot_of w) xs q d in
      either_second at still (sees (classes.Let ∷ [])) rules.let_start no_let w (other_of classes.Let (classes.Const ∷ []) w.rest refl h)
      ∙ either_first at still (sees (classes.Const ∷ [])) rules.const_start (rules.expression_before classes.Semicolon) w h
      ∙ ap (λ (s : State). run at (act close) s) ((consts_same at eats still R within name).complete (opened kinds.Const w) xs q d)
      ∙ closed_declared at eats still R within name kinds.Const w xs q
  for_start_goes w x q (for_expression h b) =
      either_second at still (sees (classes.Let ∷ [])) rules.let_start no_let w (not_first classes.Let (classes.Const ∷ []) w.rest h)
      ∙ either_second at still (sees (classes.Const ∷ [])) rules.const_start (rules.expression_before classes.Semicolon) w (not_others classes.Let (classes.Const ∷ []) w.rest h)
      ∙ before_goes classes.Semicolon w x q b

  for_start_is : (w : Work) → Read (gives a_part w) (ForStart R (spot_of w)) (run at rules.for_start (going w))
  unfolding rules.for_start rules.let_start rules.const_start rules.let_list rules.const_list after
  for_start_is w = either_read at still (sees (classes.Let ∷ [])) rules.let_start no_let w
      (λ h. then_read at still let_bindings (act close) (going (opened kinds.Let w)) ((lets_same at eats still R within name).sound (opened kinds.Let w)) (λ xs q d.
      subst (λ (s : State). Read (gives a_part w) (ForStart R (spot_of w)) s) (sym (closed_declared at eats still R within name kinds.Let w xs q)) (read {x = declared R kinds.Let (spot_of w) xs q} {q = one_more q} (for_let d))))
      (λ h. either_read at still (sees (classes.Const ∷ [])) rules.const_start (rules.expression_before classes.Semicolon) w
      (λ g. then_read at still const_bindings (act close) (going (opened kinds.Const w)) ((consts_same at eats still R within name).sound (opened kinds.Const w)) (λ xs q d.
      subst (λ (s : State). Read (gives a_part w) (ForStart R (spot_of w)) s) (sym (closed_declared at eats still R within name kinds.Const w xs q)) (read {x = declared R kinds.Const (spot_of w) xs q} {q = one_more q} (for_const d))))
      (λ g. as_read at still _ (before_is classes.Semicolon w) (λ x q b. read {x = x} {q = q} (for_expression (none_of classes.Let (classes.Const ∷ []) w.rest h g) b))))

  pub for_start_same : Same a_part (run at rules.for_start) (ForStart R)
  for_start_same = record { complete = for_start_goes; sound = for_start_is }
