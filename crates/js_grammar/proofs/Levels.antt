-- Operators between operands, level by level; choices; and what is assigned.
use Rattle.std.proofs.Common.{◌≡◌, true, List, [], ◌∷◌, refl, ap, ◌∙◌}
use Rattle.js_syntax.specs.declared.kind.Kind.TheVariants as kinds
use Rattle.parser_rules.specs.declared.class.Class.{Class}
use Rattle.parser_rules.specs.declared.class.Class.TheVariants as classes
use Rattle.parser_rules.specs.declared.form.Form.{Form}
use Rattle.parser_rules.specs.declared.form.Form.TheVariants as forms
use Rattle.parser_rules.specs.Classes.{class_of}
use Rattle.parser_rules.specs.Work.{Part, Work, State, going, preceded}
use Rattle.parser_rules.specs.Rules.{Rule, nothing_more, run, take, act, ◌▸◌, either, many, inside, sees, after, close, operator_kind}
use Rattle.parser_rules.specs.Expressions.{token, expression_list, elements, simple_operand}
use Rattle.parser_rules.specs.Expressions as rules
use Rattle.parser_rules.proofs.Laws.{Inside, Still, takes}
use Rattle.js_grammar.specs.Spots.{Spot, Reading, Tail, Takes, is, among, one_more, node_from, Then, and_then, Nothing, none_behind}
use Rattle.js_grammar.specs.Expressions.{ExpressionList, Elements, Simple, Calls, Postfix, Operand, RightOperand, Level, Products, Sums, Comparisons, Equalities, Coalescings, Conjunctions, Disjunctions, ShortCircuit, Conditional, Assignment}
use Rattle.js_grammar.specs.Expressions as cases
use Rattle.js_grammar.proofs.Same.{moved, gives, a_part, each, Read, read, Same, SameTail, then_read, as_read, either_first, either_second, either_read, take_goes, take_read}
use Rattle.js_grammar.proofs.Steps.{token_goes, token_read, saw}
use Rattle.js_grammar.proofs.Tests.{asks_sees}
use Rattle.js_grammar.proofs.Loops.{chain_same}
use Rattle.js_grammar.proofs.Tails.{operand_same, calls_same, postfix_same}

module _ (at : Form → State → State) (eats : Inside at) (still : (form : Form) → Still (at form)) (R : Form → Reading Part) (within : (form : Form) → Same a_part (at form) (R form))
    (list : Same a_part (run at expression_list) (ExpressionList R)) (elements_same : (closing : Class) → Same (each a_part) (run at (elements closing)) (Elements R closing))
    (simple : Same a_part (run at simple_operand) (Simple R)) where
  operands : Same a_part (run at rules.operand) (Operand R)
  operands = operand_same at eats still R within list elements_same simple

  behind_operand : SameTail (run at rules.postfix) (Postfix R)
  behind_operand = postfix_same at eats still R within list elements_same simple

  called : SameTail (run at rules.calls) (Calls R)
  called = calls_same at eats still R within list elements_same simple

  -- ---- tails

  -- one tail after the other
  module _ (first second : Rule) (F G : Tail) (of_first : SameTail (run at first) F) (of_second : SameTail (run at second) G) where
    then_goes : (w : Work) (x y : Part) (p q : Spot) → Then F G x p y q → run at (first ▸ second) (going (gives a_part w x p)) ≡ going (gives a_part w y q)
    then_goes w x z p q (and_then {y = y} {a = a} f g) = ap (λ (s : State). run at second s) (of_first.complete w x y p a f) ∙ of_second.complete w y z a q g

    then_is : (w : Work) (x : Part) (p : Spot) → Read (gives a_part w) (Then F G x p) (run at (first ▸ second) (going (gives a_part w x p)))
    then_is w x p =
        then_read at still first second (going (gives a_part w x p)) (of_first.sound w x p) (λ y a f.
        as_read at still _ (of_second.sound w y a) (λ z q g. read {x = z} {q = q} (and_then f g)))

    then_same : SameTail (run at (first ▸ second)) (Then F G)
    then_same = record { complete = then_goes; sound = then_is }

  nothing_goes : (w : Work) (x y : Part) (p q : Spot) → Nothing x p y q → run at nothing_more (going (gives a_part w x p)) ≡ going (gives a_part w y q)
  nothing_goes w x _ p _ none_behind = refl

  nothing_same : SameTail (run at nothing_more) Nothing
  nothing_same = record { complete = nothing_goes; sound = λ w x p. read {x = x} {q = p} none_behind }

  -- ---- an operator and its right operand

  module _ (operators : List Class) (tighter : Rule) (T : Tail) (same : SameTail (run at tighter) T) where
    binary_goes : (w : Work) (x : Part) (p : Spot) (y : Part) (q : Spot) → RightOperand R operators T x p y q → run at (rules.binary operators tighter) (going (gives a_part w x p)) ≡ going (gives a_part w y q)
    unfolding after
    binary_goes w x p _ _ (cases.right_operand {y = y} {z = z} {a = a} {b = b} {q = q} t o f) =
        let v = preceded (operator_kind (class_of p.rest)) (gives a_part w x p) in
        ap (λ (s : State). run at (act close) (run at tighter (run at rules.operand s))) (take_goes at still (sees operators) (among operators) (asks_sees operators) v a t)
        ∙ ap (λ (s : State). run at (act close) (run at tighter s)) (operands.complete (moved v a) y b o)
        ∙ ap (λ (s : State). run at (act close) s) (same.complete v y z b q f)

    binary_is : (w : Work) (x : Part) (p : Spot) → Read (gives a_part w) (RightOperand R operators T x p) (run at (rules.binary operators tighter) (going (gives a_part w x p)))
    unfolding after
    binary_is w x p =
        let v = preceded (operator_kind (class_of p.rest)) (gives a_part w x p) in
        then_read at still (take (sees operators)) (rules.operand ▸ (tighter ▸ act close)) (going v) (take_read at still (sees operators) (among operators) (asks_sees operators) v) (λ _ a t.
        then_read at still rules.operand (tighter ▸ act close) (going (moved v a)) (operands.sound (moved v a)) (λ y b o.
        then_read at still tighter (act close) (going (gives a_part v y b)) (same.sound v y b) (λ z q f.
        read {x = node_from (operator_kind (class_of p.rest)) x (x ∷ z ∷ []) q} {q = one_more q} (cases.right_operand t o f))))

    binary_same : SameTail (run at (rules.binary operators tighter)) (RightOperand R operators T)
    binary_same = record { complete = λ w x y p q r. binary_goes w x p y q r; sound = binary_is }

  -- a level of operators, by the rule of one of them
  level_same : (operators : List Class) (step : Rule) (T : Tail) → takes step ≡ true → SameTail (run at step) (RightOperand R operators T) → SameTail (run at (many (sees operators) step)) (Level R operators T)
  level_same operators step T t same = chain_same at eats still (sees operators) (among operators) (asks_sees operators) step t (RightOperand R operators T) same

  -- ---- the levels

  products_same : SameTail (run at rules.products) (Products R)
  unfolding rules.products rules.product
  products_same = level_same rules.product_operators rules.product Nothing refl (binary_same rules.product_operators nothing_more Nothing nothing_same)

  sums_same : SameTail (run at rules.sums) (Sums R)
  unfolding rules.sums rules.sum_step
  sums_same =
      then_same rules.products (many (sees rules.sum_operators) rules.sum_step) (Products R) (Level R rules.sum_operators (Products R)) products_same
      (level_same rules.sum_operators rules.sum_step (Products R) refl (binary_same rules.sum_operators rules.products (Products R) products_same))

  comparisons_same : SameTail (run at rules.comparisons) (Comparisons R)
  unfolding rules.comparisons rules.comparison
  comparisons_same =
      then_same rules.sums (many (sees rules.comparison_operators) rules.comparison) (Sums R) (Level R rules.comparison_operators (Sums R)) sums_same
      (level_same rules.comparison_operators rules.comparison (Sums R) refl (binary_same rules.comparison_operators rules.sums (Sums R) sums_same))

  equalities_same : SameTail (run at rules.equalities) (Equalities R)
  unfolding rules.equalities rules.equality
  equalities_same =
      then_same rules.comparisons (many (sees rules.equality_operators) rules.equality) (Comparisons R) (Level R rules.equality_operators (Comparisons R)) comparisons_same
      (level_same rules.equality_operators rules.equality (Comparisons R) refl (binary_same rules.equality_operators rules.comparisons (Comparisons R) comparisons_same))

  coalescings_same : SameTail (run at rules.coalescings) (Coalescings R)
  unfolding rules.coalescings rules.coalescing
  coalescings_same =
      level_same (classes.Coalesce ∷ []) rules.coalescing (Equalities R) refl (binary_same (classes.Coalesce ∷ []) rules.equalities (Equalities R) equalities_same)

  conjunctions_same : SameTail (run at rules.conjunctions) (Conjunctions R)
  unfolding rules.conjunctions rules.conjunction
  conjunctions_same =
      level_same (classes.AndAnd ∷ []) rules.conjunction (Equalities R) refl (binary_same (classes.AndAnd ∷ []) rules.equalities (Equalities R) equalities_same)

  disjunctions_same : SameTail (run at (many (sees (classes.OrOr ∷ [])) rules.disjunction)) (Disjunctions R)
  unfolding rules.disjunction
  disjunctions_same =
      level_same (classes.OrOr ∷ []) rules.disjunction (Then (Equalities R) (Conjunctions R)) refl
      (binary_same (classes.OrOr ∷ []) (rules.equalities ▸ rules.conjunctions) (Then (Equalities R) (Conjunctions R))
      (then_same rules.equalities rules.conjunctions (Equalities R) (Conjunctions R) equalities_same conjunctions_same))

  -- ---- ShortCircuitExpression

  logical_goes : (w : Work) (y z u : Part) (a b q : Spot) → Conjunctions R y a z b → Disjunctions R z b u q → run at rules.logical (going (gives a_part w y a)) ≡ going (gives a_part w u q)
  unfolding rules.logical
  logical_goes w y z u a b q c d = ap (λ (s : State). run at (many (sees (classes.OrOr ∷ [])) rules.disjunction) s) (conjunctions_same.complete w y z a b c) ∙ disjunctions_same.complete w z u b q d

  short_goes : (w : Work) (x y : Part) (p q : Spot) → ShortCircuit R x p y q → run at rules.short_circuit (going (gives a_part w x p)) ≡ going (gives a_part w y q)
  unfolding rules.short_circuit
  short_goes w x z p q (cases.coalescing {y = y} {a = a} e h c) =
      ap (λ (s : State). run at (either (sees (classes.Coalesce ∷ [])) rules.coalescings rules.logical) s) (equalities_same.complete w x y p a e)
      ∙ either_first at still (sees (classes.Coalesce ∷ [])) rules.coalescings rules.logical (gives a_part w y a) h
      ∙ coalescings_same.complete w y z a q c
  short_goes w x u p q (cases.logical {y = y} {z = z} {a = a} {b = b} e h c d) =
      ap (λ (s : State). run at (either (sees (classes.Coalesce ∷ [])) rules.coalescings rules.logical) s) (equalities_same.complete w x y p a e)
      ∙ either_second at still (sees (classes.Coalesce ∷ [])) rules.coalescings rules.logical (gives a_part w y a) h
      ∙ logical_goes w y z u a b q c d

  short_is : (w : Work) (x : Part) (p : Spot) → Read (gives a_part w) (ShortCircuit R x p) (run at rules.short_circuit (going (gives a_part w x p)))
  unfolding rules.short_circuit rules.logical
  short_is w x p =
      then_read at still rules.equalities (either (sees (classes.Coalesce ∷ [])) rules.coalescings rules.logical) (going (gives a_part w x p)) (equalities_same.sound w x p) (λ y a e.
      either_read at still (sees (classes.Coalesce ∷ [])) rules.coalescings rules.logical (gives a_part w y a)
      (λ h. as_read at still _ (coalescings_same.sound w y a) (λ z q c. read {x = z} {q = q} (cases.coalescing e h c)))
      (λ h.
      then_read at still rules.conjunctions (many (sees (classes.OrOr ∷ [])) rules.disjunction) (going (gives a_part w y a)) (conjunctions_same.sound w y a) (λ z b c.
      as_read at still _ (disjunctions_same.sound w z b) (λ u q d. read {x = u} {q = q} (cases.logical e h c d)))))

  short_circuit_same : SameTail (run at rules.short_circuit) (ShortCircuit R)
  short_circuit_same = record { complete = short_goes; sound = short_is }

  -- ---- ConditionalExpression

  choice_goes : (w : Work) (c y z : Part) (a b d e q : Spot) → Takes (is classes.Question) a b → R forms.Expression b y d → Takes (is classes.Colon) d e → R forms.Expression e z q →
      run at rules.choice (going (gives a_part w c a)) ≡ going (gives a_part w (node_from kinds.Cond c (c ∷ y ∷ z ∷ []) q) (one_more q))
  unfolding rules.choice after
  choice_goes w c y z a b d e q t r u s =
      let v = preceded kinds.Cond (gives a_part w c a) in
      rw (
        token_goes at still classes.Question v b t,
        (within forms.Expression).complete (moved v b) y d r,
        token_goes at still classes.Colon (gives a_part v y d) e u,
        (within forms.Expression).complete (gives a_part v y e) z q s,
      ) refl

  conditional_goes : (w : Work) (x y : Part) (p q : Spot) → Conditional R x p y q → run at rules.conditional (going (gives a_part w x p)) ≡ going (gives a_part w y q)
  unfolding rules.conditional
  conditional_goes w x _ p _ (cases.choice {c = c} {y = y} {z = z} {a = a} {b = b} {d = d} {e = e} {q = q} k t r u s) =
      ap (λ (s : State). run at (either (sees (classes.Question ∷ [])) rules.choice nothing_more) s) (short_circuit_same.complete w x c p a k)
      ∙ either_first at still (sees (classes.Question ∷ [])) rules.choice nothing_more (gives a_part w c a) (saw t)
      ∙ choice_goes w c y z a b d e q t r u s
  conditional_goes w x y p q (cases.no_choice k h) =
      ap (λ (s : State). run at (either (sees (classes.Question ∷ [])) rules.choice nothing_more) s) (short_circuit_same.complete w x y p q k)
      ∙ either_second at still (sees (classes.Question ∷ [])) rules.choice nothing_more (gives a_part w y q) h

  choice_is : (w : Work) (x c : Part) (p a : Spot) → ShortCircuit R x p c a → Read (gives a_part w) (Conditional R x p) (run at rules.choice (going (gives a_part w c a)))
  unfolding rules.choice after
  choice_is w x c p a k =
      let v = preceded kinds.Cond (gives a_part w c a) in
      then_read at still (token classes.Question) (inside forms.Expression ▸ (token classes.Colon ▸ (inside forms.Expression ▸ act close))) (going v) (token_read at still classes.Question v) (λ _ b t.
      then_read at still (inside forms.Expression) (token classes.Colon ▸ (inside forms.Expression ▸ act close)) (going (moved v b)) ((within forms.Expression).sound (moved v b)) (λ y d r.
      then_read at still (token classes.Colon) (inside forms.Expression ▸ act close) (going (gives a_part v y d)) (token_read at still classes.Colon (gives a_part v y d)) (λ _ e u.
      then_read at still (inside forms.Expression) (act close) (going (gives a_part v y e)) ((within forms.Expression).sound (gives a_part v y e)) (λ z q s.
      read {x = node_from kinds.Cond c (c ∷ y ∷ z ∷ []) q} {q = one_more q} (cases.choice k t r u s)))))

  conditional_is : (w : Work) (x : Part) (p : Spot) → Read (gives a_part w) (Conditional R x p) (run at rules.conditional (going (gives a_part w x p)))
  unfolding rules.conditional
  conditional_is w x p =
      then_read at still rules.short_circuit (either (sees (classes.Question ∷ [])) rules.choice nothing_more) (going (gives a_part w x p)) (short_circuit_same.sound w x p) (λ c a k.
      either_read at still (sees (classes.Question ∷ [])) rules.choice nothing_more (gives a_part w c a)
      (λ _. choice_is w x c p a k)
      (λ h. read {x = c} {q = a} (cases.no_choice k h)))

  pub conditional_same : SameTail (run at rules.conditional) (Conditional R)
  conditional_same = record { complete = conditional_goes; sound = conditional_is }

  -- ---- AssignmentExpression

  assigned_goes : (w : Work) (x y : Part) (p a q : Spot) → Takes (among rules.assignments) p a → R forms.Expression a y q →
      run at rules.assigned (going (gives a_part w x p)) ≡ going (gives a_part w (node_from (operator_kind (class_of p.rest)) x (x ∷ y ∷ []) q) (one_more q))
  unfolding rules.assigned after
  assigned_goes w x y p a q t r =
      let v = preceded (operator_kind (class_of p.rest)) (gives a_part w x p) in
      rw (take_goes at still (sees rules.assignments) (among rules.assignments) (asks_sees rules.assignments) v a t, (within forms.Expression).complete (moved v a) y q r) refl

  abbrev not_assigned : Rule
  not_assigned = rules.postfix ▸ rules.conditional

  behind_calls_goes : (w : Work) (x : Part) (p : Spot) (z : Part) (q : Spot) → Assignment R x p z q → run at (either (sees rules.assignments) rules.assigned not_assigned) (going (gives a_part w x p)) ≡ going (gives a_part w z q)
  behind_calls_goes w x p _ _ (cases.assigned {y = y} {a = a} {q = q} t r) =
      either_first at still (sees rules.assignments) rules.assigned not_assigned (gives a_part w x p) (saw t) ∙ assigned_goes w x y p a q t r
  behind_calls_goes w x p z q (cases.not_assigned {y = y} {a = a} h f c) =
      either_second at still (sees rules.assignments) rules.assigned not_assigned (gives a_part w x p) h
      ∙ ap (λ (s : State). run at rules.conditional s) (behind_operand.complete w x y p a f)
      ∙ conditional_same.complete w y z a q c

  assigned_is : (w : Work) (x : Part) (p : Spot) → Read (gives a_part w) (Assignment R x p) (run at rules.assigned (going (gives a_part w x p)))
  unfolding rules.assigned after
  assigned_is w x p =
      let v = preceded (operator_kind (class_of p.rest)) (gives a_part w x p) in
      then_read at still (take (sees rules.assignments)) (inside forms.Expression ▸ act close) (going v) (take_read at still (sees rules.assignments) (among rules.assignments) (asks_sees rules.assignments) v) (λ _ a t.
      then_read at still (inside forms.Expression) (act close) (going (moved v a)) ((within forms.Expression).sound (moved v a)) (λ y q r.
      read {x = node_from (operator_kind (class_of p.rest)) x (x ∷ y ∷ []) q} {q = one_more q} (cases.assigned t r)))

  behind_calls_is : (w : Work) (x : Part) (p : Spot) → Read (gives a_part w) (Assignment R x p) (run at (either (sees rules.assignments) rules.assigned not_assigned) (going (gives a_part w x p)))
  behind_calls_is w x p =
      either_read at still (sees rules.assignments) rules.assigned not_assigned (gives a_part w x p)
      (λ _. assigned_is w x p)
      (λ h.
      then_read at still rules.postfix rules.conditional (going (gives a_part w x p)) (behind_operand.sound w x p) (λ y a f.
      as_read at still _ (conditional_same.sound w y a) (λ z q c. read {x = z} {q = q} (cases.not_assigned h f c))))

  behind_calls_same : SameTail (run at (either (sees rules.assignments) rules.assigned not_assigned)) (Assignment R)
  behind_calls_same = record { complete = λ w x y p q t. behind_calls_goes w x p y q t; sound = behind_calls_is }

  pub assignment_same : SameTail (run at rules.assignment) (Then (Calls R) (Assignment R))
  unfolding rules.assignment
  assignment_same = then_same rules.calls (either (sees rules.assignments) rules.assigned not_assigned) (Calls R) (Assignment R) called behind_calls_same
