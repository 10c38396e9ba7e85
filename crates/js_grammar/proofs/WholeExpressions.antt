-- The rule of an expression reads what its cases read.
use Rattle.std.proofs.Common.{◌≡◌, ℕ, zero, suc, Bool, true, false, List, [], ◌∷◌, Option, None, Some, inl, inr, refl, sym, ap, ◌∙◌, subst}
use Rattle.std.proofs.lemmas.Bool.{cases_Bool, eq-eqb}
use Rattle.std.specs.Prelude.{◌⊎◌}
use Rattle.js_syntax.specs.declared.kind.Kind.TheVariants as kinds
use Rattle.js_lexer.specs.declared.token.Token.{Token}
use Rattle.parser_rules.specs.declared.class.Class.TheVariants as classes
use Rattle.parser_rules.specs.declared.form.Form.{Form}
use Rattle.parser_rules.specs.declared.form.Form.TheVariants as forms
use Rattle.parser_rules.specs.declared.form.Cover.{Cover}
use Rattle.parser_rules.specs.declared.form.Cover.TheVariants as covers
use Rattle.parser_rules.specs.Work.{Part, Frame, Work, State, going, stuck, opened, place_of}
use Rattle.parser_rules.specs.Rules.{Rule, run, inside, ◌▸◌, either, sees, sees_on_line, may_be_parameters, must_be_parameters, is_names, is_parameters, after}
use Rattle.parser_rules.specs.Expressions.{token, prefix_operators}
use Rattle.parser_rules.specs.Expressions as rules
use Rattle.parser_rules.proofs.Laws.{Inside, Still}
use Rattle.js_grammar.specs.Spots.{Spot, spot, Reading, Named, Takes, takes, Sees, SeesNot, Then, and_then, is, among, on_line, node, one_more, named_at, name_node, with_names, from_paren}
use Rattle.js_grammar.specs.Expressions.{ConciseBody, ArrowNames, ArrowParameters, one_name, names_in_parentheses, ArrowFunction, arrow_function, Primary, Simple, parentheses, name, primary, Calls, Conditional, Assignment, NoArrow, ExpressionForm, prefix_first, simple_first}
use Rattle.js_grammar.specs.Expressions as cases
use Rattle.js_grammar.specs.Derives.{Reads}
use Rattle.js_grammar.proofs.Same.{spot_of, moved, gives, a_part, Read, read, Same, SameTail, then_read, as_read, either_first, either_second, either_read}
use Rattle.js_grammar.proofs.Tests.{among_of}
use Rattle.js_grammar.proofs.Steps.{token_goes, token_read, saw}
use Rattle.js_grammar.proofs.Apart.{other_of}
use Rattle.js_grammar.proofs.Lists.{pass_by}
use Rattle.js_grammar.proofs.Operands.{BeginsApart, primary_same, primary_begins, name_goes, name_read}
use Rattle.js_grammar.proofs.Covers.{Unclosed, Held, cover_held, for_arrow, for_expression, Inner, arrow_names_in, arrow_names_out, list_in, list_out}
use Rattle.js_grammar.proofs.Arrows.{held_if_any, inner_goes, inner_is, arrow_goes, arrow_is}

-- an expression begins with no `)`
pub expression_unclosed : (R : Form → Reading Part) (p : Spot) (x : Part) (q : Spot) → ExpressionForm R p x q → SeesNot (is classes.ParenClose) p
expression_unclosed R p _ _ (cases.arrow (arrow_function (one_name t) n c)) = among_of classes.Name (classes.ParenClose ∷ []) p.rest (saw t)
expression_unclosed R p _ _ (cases.arrow (arrow_function (names_in_parentheses t l u) n c)) = among_of classes.ParenOpen (classes.ParenClose ∷ []) p.rest (saw t)
expression_unclosed R p x q (prefix_first s r c) = other_of classes.ParenClose prefix_operators p.rest refl s
expression_unclosed R p x q (simple_first (parentheses t l u) n c a) = among_of classes.ParenOpen (classes.ParenClose ∷ []) p.rest (saw t)
expression_unclosed R p x q (simple_first (name t) n c a) = among_of classes.Name (classes.ParenClose ∷ []) p.rest (saw t)
expression_unclosed R p x q (simple_first {a = b} {x = y} (primary d) n c a) = begins (primary_begins R p y b d)
  where
    begins : BeginsApart p → SeesNot (is classes.ParenClose) p
    begins (c, h, e, f, g, i) = among_of c (classes.ParenClose ∷ []) p.rest h ∙ i

pub reads_unclosed : (n : ℕ) → Unclosed (Reads n)
unfolding Reads
reads_unclosed zero p x q r = absurd r
reads_unclosed (suc n) p x q r = expression_unclosed (Reads n) p x q r

which_cover : (c : Cover) → for_arrow c ≡ true → (is_parameters c ≡ true) ⊎ ((is_parameters c ≡ false) × (is_names c ≡ true))
which_cover covers.Names h = inr (refl, refl)
which_cover covers.Expressions h = absurd (let none : ⊥ = cc in none)
which_cover covers.Parameters h = inl refl

no_parameters : (c : Cover) → for_expression c ≡ true → is_parameters c ≡ false
no_parameters covers.Names h = refl
no_parameters covers.Expressions h = refl
no_parameters covers.Parameters h = absurd (let none : ⊥ = cc in none)

arrow_if_parameters : (c : Cover) → is_parameters c ≡ true → for_arrow c ≡ true
arrow_if_parameters covers.Names h = refl
arrow_if_parameters covers.Expressions h = h
arrow_if_parameters covers.Parameters h = refl

arrow_if_names : (c : Cover) → is_names c ≡ true → for_arrow c ≡ true
arrow_if_names covers.Names h = refl
arrow_if_names covers.Expressions h = h
arrow_if_names covers.Parameters h = refl

expression_else : (c : Cover) → is_parameters c ≡ false → for_expression c ≡ true
expression_else covers.Names h = refl
expression_else covers.Expressions h = refl
expression_else covers.Parameters h = absurd (let none : ⊥ = cc in none)

no_arrow_else : (c : Cover) → is_parameters c ≡ false → is_names c ≡ false → for_arrow c ≡ false
no_arrow_else covers.Names h i = absurd (let none : ⊥ = cc in none)
no_arrow_else covers.Expressions h i = refl
no_arrow_else covers.Parameters h i = absurd (let none : ⊥ = cc in none)

-- ---- where a token ends

behind_first : List Token → List Token
behind_first [] = []
behind_first (t ∷ ts) = ts

ends_there : {of : List Token → Bool} {p q : Spot} → Takes of p q → q ≡ spot (behind_first p.rest) p.made
unfolding behind_first
ends_there (takes h) = refl

-- one token ends at one spot, whatever it is taken as
ends_alike : {of to : List Token → Bool} {p q r : Spot} → Takes of p q → Takes to p r → q ≡ r
ends_alike t u = ends_there t ∙ sym (ends_there u)

module _ (at : Form → State → State) (eats : Inside at) (still : (form : Form) → Still (at form)) (R : Form → Reading Part) (within : (form : Form) → Same a_part (at form) (R form))
    (unclosed : Unclosed R)
    (conditional_is : SameTail (run at rules.conditional) (Conditional R)) (assignment_is : SameTail (run at rules.assignment) (Then (Calls R) (Assignment R))) where
  -- ---- behind the `)`

  abbrev behind_may : Rule
  behind_may = either may_be_parameters rules.behind_names rules.unwrapped_first

  abbrev form_of : Work → Option Held → Spot → Work
  form_of w o p = gives held_if_any (opened kinds.Arrow w) o p

  behind_arrow : (w : Work) (o : Option Held) (p : Spot) → for_arrow (cover_held o) ≡ true → on_line (classes.Arrow ∷ []) p.rest ≡ true → run at rules.behind_items (going (form_of w o p)) ≡ run at rules.arrow (going (form_of w o p))
  unfolding rules.behind_items rules.behind_names
  behind_arrow w None p f e = either_first at still must_be_parameters rules.arrow behind_may (form_of w None p) refl
  behind_arrow w (Some h) p f e = elim (which_cover h.cover f) [
    | inl i ↦ either_first at still must_be_parameters rules.arrow behind_may (form_of w (Some h) p) i
    | inr (i, j) ↦
        either_second at still must_be_parameters rules.arrow behind_may (form_of w (Some h) p) i
        ∙ either_first at still may_be_parameters rules.behind_names rules.unwrapped_first (form_of w (Some h) p) j
        ∙ either_first at still (sees_on_line (classes.Arrow ∷ [])) rules.arrow rules.unwrapped_first (form_of w (Some h) p) e
  ]

  behind_expression : (w : Work) (h : Held) (p : Spot) → for_expression h.cover ≡ true → (is_names h.cover ≡ true → on_line (classes.Arrow ∷ []) p.rest ≡ false) →
      run at rules.behind_items (going (form_of w (Some h) p)) ≡ run at rules.unwrapped_first (going (form_of w (Some h) p))
  unfolding rules.behind_items rules.behind_names
  behind_expression w h p f n =
      either_second at still must_be_parameters rules.arrow behind_may (form_of w (Some h) p) (no_parameters h.cover f)
      ∙ elim (cases_Bool (is_names h.cover)) [
        | inl e ↦
            either_first at still may_be_parameters rules.behind_names rules.unwrapped_first (form_of w (Some h) p) e
            ∙ either_second at still (sees_on_line (classes.Arrow ∷ [])) rules.arrow rules.unwrapped_first (form_of w (Some h) p) (n e)
        | inr e ↦ either_second at still may_be_parameters rules.behind_names rules.unwrapped_first (form_of w (Some h) p) e
      ]

  unwrapped_goes : (w : Work) (h : Held) (x : Part) (p b : Spot) (y z : Part) (q : Spot) → h.part ≡ x → Calls R (from_paren (spot_of w) x) p y b → Assignment R y b z q → run at rules.unwrapped_first (going (form_of w (Some h) p)) ≡ going (gives a_part w z q)
  unfolding rules.unwrapped_first after
  unwrapped_goes w h x p b y z q e c s = ap (λ (v : Part). run at rules.assignment (going (gives a_part w (from_paren (spot_of w) v) p))) e ∙ assignment_is.complete w (from_paren (spot_of w) x) z p q (and_then c s)

  covered_arrow : (w : Work) (ns : List Named) (x : Part) (a b c d q : Spot) → Takes (is classes.ParenOpen) (spot_of w) a → ArrowNames R a ns b → Takes (is classes.ParenClose) b c → Takes (on_line (classes.Arrow ∷ [])) c d → ConciseBody R d x q →
      run at rules.covered (going w) ≡ going (gives a_part w (with_names ns (node kinds.Arrow (spot_of w) (x ∷ []) q)) (one_more q))
  unfolding rules.covered rules.behind_items after
  covered_arrow w ns x a b c d q t l u n y =
      let v = opened kinds.Arrow w in
      let (o, i, e, f) = arrow_names_in R unclosed a b ns l in
      rw (token_goes at still classes.ParenOpen v a t, inner_goes at eats still R within w o a b i, token_goes at still classes.ParenClose (form_of w o b) c u)
      (behind_arrow w o c f (saw n) ∙ arrow_goes at eats still R within w o c d x q n y ∙ ap (λ (ms : List Named). going (gives a_part w (with_names ms (node kinds.Arrow (spot_of w) (x ∷ []) q)) (one_more q))) e)

  covered_expression : (w : Work) (x y z : Part) (a b c d q : Spot) → Takes (is classes.ParenOpen) (spot_of w) a → cases.ExpressionList R a x b → Takes (is classes.ParenClose) b c → NoArrow R (spot_of w) c →
      Calls R (from_paren (spot_of w) x) c y d → Assignment R y d z q → run at rules.covered (going w) ≡ going (gives a_part w z q)
  unfolding rules.covered rules.behind_items after
  covered_expression w x y z a b c d q t l u n m s =
      let v = opened kinds.Arrow w in
      let (h, i, e, f) = list_in R unclosed a x b l in
      rw (token_goes at still classes.ParenOpen v a t, inner_goes at eats still R within w (Some h) a b i, token_goes at still classes.ParenClose (form_of w (Some h) b) c u)
      (behind_expression w h c f (λ k. n h.names (names_in_parentheses t (arrow_names_out R a b (Some h) i (arrow_if_names h.cover k) (saw u)) u)) ∙ unwrapped_goes w h x c d y z q e m s)

  -- ---- and nothing else

  cover_at : State → Cover
  cover_at (going w) = w.top.cover
  cover_at (stuck why ts) = covers.Names

  cover_of_form : (f : Frame) (o : Option Held) → (held_if_any f o).cover ≡ cover_held o
  cover_of_form f None = refl
  cover_of_form f (Some h) = refl

  -- what stands behind the `(` is of one kind
  one_cover : (w : Work) (o k : Option Held) (a b c : Spot) → Inner R a o b → Inner R a k c → cover_held o ≡ cover_held k
  unfolding cover_at
  one_cover w o k a b c i j =
      sym (cover_of_form (opened kinds.Arrow w).top o)
      ∙ ap cover_at (sym (inner_goes at eats still R within w o a b i) ∙ inner_goes at eats still R within w k a c j)
      ∙ cover_of_form (opened kinds.Arrow w).top k

  -- where not all are names, no arrow function begins
  no_arrow : (w : Work) (h : Held) (ns : List Named) (p a b c : Spot) → Takes (is classes.ParenOpen) p a → Inner R a (Some h) b → for_arrow h.cover ≡ false → ArrowParameters R p ns c → SeesNot (on_line (classes.Arrow ∷ [])) c
  no_arrow w h _ p a b _ t i f (one_name u) = absurd (let k = among_of classes.ParenOpen (classes.Name ∷ []) p.rest (saw t) in let l = saw u in cc)
  no_arrow w h ns p a b c t i f (names_in_parentheses {a = d} {b = e} u l v) =
      let (o, j, m, g) = arrow_names_in R unclosed a e ns (subst (λ (x : Spot). ArrowNames R x ns e) (ends_alike u t) l) in
      absurd (let k : true ≡ false = sym g ∙ ap for_arrow (one_cover w o (Some h) a e b j i) ∙ f in cc)

  simple_then : {p a q : Spot} {x z : Part} → Simple R p x a → NoArrow R p a → Then (Calls R) (Assignment R) x a z q → ExpressionForm R p z q
  simple_then s n (and_then c a) = simple_first s n c a

  -- the rest of an expression
  rest_is : (w : Work) (x : Part) (a : Spot) → Simple R (spot_of w) x a → NoArrow R (spot_of w) a → Read (gives a_part w) (ExpressionForm R (spot_of w)) (run at rules.assignment (going (gives a_part w x a)))
  rest_is w x a s n = as_read at still _ (assignment_is.sound w x a) (λ z q d. read {x = z} {q = q} (simple_then s n d))

  as_arrow : (w : Work) (o : Option Held) (a b c : Spot) → Takes (is classes.ParenOpen) (spot_of w) a → Inner R a o b → Takes (is classes.ParenClose) b c → for_arrow (cover_held o) ≡ true →
      Read (gives a_part w) (ExpressionForm R (spot_of w)) (run at rules.arrow (going (form_of w o c)))
  as_arrow w o a b c t i u f = arrow_is at eats still R within w o c (λ d x q n y. cases.arrow (arrow_function (names_in_parentheses t (arrow_names_out R a b o i f (saw u)) u) n y))

  unwrapped_is : (w : Work) (h : Held) (a b c : Spot) → Takes (is classes.ParenOpen) (spot_of w) a → Inner R a (Some h) b → Takes (is classes.ParenClose) b c → for_expression h.cover ≡ true → NoArrow R (spot_of w) c →
      Read (gives a_part w) (ExpressionForm R (spot_of w)) (run at rules.unwrapped_first (going (form_of w (Some h) c)))
  unfolding rules.unwrapped_first after
  unwrapped_is w h a b c t i u f n = rest_is w (from_paren (spot_of w) h.part) c (parentheses t (list_out R a b h i f) u) n

  behind_is : (w : Work) (o : Option Held) (a b c : Spot) → Takes (is classes.ParenOpen) (spot_of w) a → Inner R a o b → Takes (is classes.ParenClose) b c →
      Read (gives a_part w) (ExpressionForm R (spot_of w)) (run at rules.behind_items (going (form_of w o c)))
  unfolding rules.behind_items rules.behind_names
  behind_is w None a b c t i u =
      subst (λ (s : State). Read (gives a_part w) (ExpressionForm R (spot_of w)) s) (sym (either_first at still must_be_parameters rules.arrow behind_may (form_of w None c) refl)) (as_arrow w None a b c t i u refl)
  behind_is w (Some h) a b c t i u =
      either_read at still must_be_parameters rules.arrow behind_may (form_of w (Some h) c)
      (λ m. as_arrow w (Some h) a b c t i u (arrow_if_parameters h.cover m))
      (λ m. either_read at still may_be_parameters rules.behind_names rules.unwrapped_first (form_of w (Some h) c)
      (λ n. either_read at still (sees_on_line (classes.Arrow ∷ [])) rules.arrow rules.unwrapped_first (form_of w (Some h) c)
      (λ e. as_arrow w (Some h) a b c t i u (arrow_if_names h.cover n))
      (λ e. unwrapped_is w h a b c t i u (expression_else h.cover m) (λ ns d. e)))
      (λ n. unwrapped_is w h a b c t i u (expression_else h.cover m) (λ ns d. no_arrow w h ns (spot_of w) a b c t i (no_arrow_else h.cover m n) d)))

  covered_is : (w : Work) → Read (gives a_part w) (ExpressionForm R (spot_of w)) (run at rules.covered (going w))
  unfolding rules.covered after
  covered_is w =
      let v = opened kinds.Arrow w in
      then_read at still (token classes.ParenOpen) (rules.items ▸ (token classes.ParenClose ▸ rules.behind_items)) (going v) (token_read at still classes.ParenOpen v) (λ _ a t.
      then_read at still rules.items (token classes.ParenClose ▸ rules.behind_items) (going (moved v a)) (inner_is at eats still R within w a) (λ o b i.
      then_read at still (token classes.ParenClose) rules.behind_items (going (form_of w o b)) (token_read at still classes.ParenClose (form_of w o b)) (λ _ c u.
      behind_is w o a b c t i u)))

  -- ---- a name first

  -- one name, as the parameter of an arrow function
  abbrev lone : Work → Spot → Held
  lone w q = record { cover = covers.Names; names = named_at (spot_of w) ∷ []; part = name_node (spot_of w) q }

  abbrev behind_leaf : Rule
  behind_leaf = either (sees_on_line (classes.Arrow ∷ [])) rules.named_arrow rules.assignment

  named_arrow_goes : (w : Work) (q : Spot) → run at rules.named_arrow (going (gives a_part w (name_node (spot_of w) q) (one_more q))) ≡ run at rules.arrow (going (form_of w (Some (lone w q)) (one_more q)))
  unfolding rules.named_arrow rules.arrow after
  named_arrow_goes w q = rw (eq-eqb (place_of w.rest) (place_of w.rest) refl) refl

  named_first_arrow : (w : Work) (x : Part) (a b q : Spot) → Takes (is classes.Name) (spot_of w) a → Takes (on_line (classes.Arrow ∷ [])) (one_more a) b → ConciseBody R b x q →
      run at rules.named_first (going w) ≡ going (gives a_part w (with_names (named_at (spot_of w) ∷ []) (node kinds.Arrow (spot_of w) (x ∷ []) q)) (one_more q))
  unfolding rules.named_first
  named_first_arrow w x a b q t n c =
      ap (λ (s : State). run at behind_leaf s) (name_goes at eats still R within w a t)
      ∙ either_first at still (sees_on_line (classes.Arrow ∷ [])) rules.named_arrow rules.assignment (gives a_part w (name_node (spot_of w) a) (one_more a)) (saw n)
      ∙ named_arrow_goes w a ∙ arrow_goes at eats still R within w (Some (lone w a)) (one_more a) b x q n c

  named_first_expression : (w : Work) (y z : Part) (a b q : Spot) → Takes (is classes.Name) (spot_of w) a → NoArrow R (spot_of w) (one_more a) → Calls R (name_node (spot_of w) a) (one_more a) y b → Assignment R y b z q →
      run at rules.named_first (going w) ≡ going (gives a_part w z q)
  unfolding rules.named_first
  named_first_expression w y z a b q t n c s =
      ap (λ (s : State). run at behind_leaf s) (name_goes at eats still R within w a t)
      ∙ either_second at still (sees_on_line (classes.Arrow ∷ [])) rules.named_arrow rules.assignment (gives a_part w (name_node (spot_of w) a) (one_more a)) (n (named_at (spot_of w) ∷ []) (one_name t))
      ∙ assignment_is.complete w (name_node (spot_of w) a) z (one_more a) q (and_then c s)

  named_first_is : (w : Work) → Read (gives a_part w) (ExpressionForm R (spot_of w)) (run at rules.named_first (going w))
  unfolding rules.named_first
  named_first_is w =
      then_read at still rules.name_leaf behind_leaf (going w) (name_read at eats still R within w) (λ _ a t.
      either_read at still (sees_on_line (classes.Arrow ∷ [])) rules.named_arrow rules.assignment (gives a_part w (name_node (spot_of w) a) (one_more a))
      (λ e. subst (λ (s : State). Read (gives a_part w) (ExpressionForm R (spot_of w)) s) (sym (named_arrow_goes w a))
      (arrow_is at eats still R within w (Some (lone w a)) (one_more a) (λ b x q n c. cases.arrow (arrow_function (one_name t) n c))))
      (λ e. rest_is w (name_node (spot_of w) a) (one_more a) (name t) (λ ns d. e)))

  -- ---- expressions

  abbrev behind_named : Rule
  behind_named = either (sees prefix_operators) rules.prefix_first rules.primary_first

  abbrev behind_covered : Rule
  behind_covered = either (rules.at classes.Name) rules.named_first behind_named

  paren_first : (w : Work) → is classes.ParenOpen w.rest ≡ true → run at rules.expression (going w) ≡ run at rules.covered (going w)
  unfolding rules.expression
  paren_first w h = either_first at still (rules.at classes.ParenOpen) rules.covered behind_covered w h

  name_first : (w : Work) → is classes.Name w.rest ≡ true → run at rules.expression (going w) ≡ run at rules.named_first (going w)
  unfolding rules.expression
  name_first w h =
      pass_by at eats still classes.Name (classes.ParenOpen ∷ []) rules.covered behind_covered w h refl
      ∙ either_first at still (rules.at classes.Name) rules.named_first behind_named w h

  prefix_goes : (w : Work) (x y : Part) (a q : Spot) → Sees (among prefix_operators) (spot_of w) → R forms.Prefix (spot_of w) x a → Conditional R x a y q → run at rules.expression (going w) ≡ going (gives a_part w y q)
  unfolding rules.expression rules.prefix_first
  prefix_goes w x y a q s r c =
      either_second at still (rules.at classes.ParenOpen) rules.covered behind_covered w (other_of classes.ParenOpen prefix_operators w.rest refl s)
      ∙ either_second at still (rules.at classes.Name) rules.named_first behind_named w (other_of classes.Name prefix_operators w.rest refl s)
      ∙ either_first at still (sees prefix_operators) rules.prefix_first rules.primary_first w s
      ∙ ap (λ (s : State). run at rules.conditional s) ((within forms.Prefix).complete w x a r) ∙ conditional_is.complete w x y a q c

  primary_goes : (w : Work) (x y z : Part) (a b q : Spot) → Primary R (spot_of w) x a → Calls R x a y b → Assignment R y b z q → run at rules.expression (going w) ≡ going (gives a_part w z q)
  unfolding rules.expression rules.primary_first
  primary_goes w x y z a b q d m s =
      let (c, h, e, f, g, i) = primary_begins R (spot_of w) x a d in
      pass_by at eats still c (classes.ParenOpen ∷ []) rules.covered behind_covered w h e
      ∙ pass_by at eats still c (classes.Name ∷ []) rules.named_first behind_named w h f
      ∙ pass_by at eats still c prefix_operators rules.prefix_first rules.primary_first w h g
      ∙ ap (λ (s : State). run at rules.assignment s) ((primary_same at eats still R within).complete w x a d) ∙ assignment_is.complete w x z a q (and_then m s)

  expression_goes : (w : Work) (x : Part) (q : Spot) → ExpressionForm R (spot_of w) x q → run at rules.expression (going w) ≡ going (gives a_part w x q)
  expression_goes w _ _ (cases.arrow (arrow_function {b = b} {q = q} {x = x} (one_name {q = a} t) n c)) = name_first w (saw t) ∙ named_first_arrow w x a b q t n c
  expression_goes w _ _ (cases.arrow (arrow_function {a = c} {b = d} {q = q} {ns = ns} {x = x} (names_in_parentheses {a = a} {b = b} t l u) n y)) = paren_first w (saw t) ∙ covered_arrow w ns x a b c d q t l u n y
  expression_goes w y q (prefix_first {a = a} {x = x} s r c) = prefix_goes w x y a q s r c
  expression_goes w z q (simple_first {a = c} {b = d} {y = y} (parentheses {a = a} {b = b} {x = x} t l u) n m s) = paren_first w (saw t) ∙ covered_expression w x y z a b c d q t l u n m s
  expression_goes w z q (simple_first {b = b} {y = y} (name {q = a} t) n m s) = name_first w (saw t) ∙ named_first_expression w y z a b q t n m s
  expression_goes w z q (simple_first {a = a} {b = b} {x = x} {y = y} (primary d) n m s) = primary_goes w x y z a b q d m s

  -- what begins with neither a `(` nor a name begins no arrow function
  primary_no_arrow : {p q : Spot} {x : Part} → Primary R p x q → NoArrow R p q
  primary_no_arrow {p} {q} {x} d ns h = begins ns q h (primary_begins R p x q d)
    where
      begins : (ns : List Named) (c : Spot) → ArrowParameters R p ns c → BeginsApart p →
          SeesNot (on_line (classes.Arrow ∷ [])) c
      begins _ _ (one_name t) (k, h, e, f, g, i) = absurd (let none : true ≡ false = sym (saw t) ∙ among_of k (classes.Name ∷ []) p.rest h ∙ f in cc)
      begins _ _ (names_in_parentheses t l u) (k, h, e, f, g, i) = absurd (let none : true ≡ false = sym (saw t) ∙ among_of k (classes.ParenOpen ∷ []) p.rest h ∙ e in cc)

  expression_is : (w : Work) → Read (gives a_part w) (ExpressionForm R (spot_of w)) (run at rules.expression (going w))
  unfolding rules.expression rules.prefix_first rules.primary_first
  expression_is w =
      either_read at still (rules.at classes.ParenOpen) rules.covered behind_covered w (λ _. covered_is w) (λ _.
      either_read at still (rules.at classes.Name) rules.named_first behind_named w (λ _. named_first_is w) (λ _.
      either_read at still (sees prefix_operators) rules.prefix_first rules.primary_first w
      (λ s. then_read at still (inside forms.Prefix) rules.conditional (going w) ((within forms.Prefix).sound w) (λ x a r.
      as_read at still _ (conditional_is.sound w x a) (λ y q c. read {x = y} {q = q} (prefix_first s r c))))
      (λ _. then_read at still rules.primary rules.assignment (going w) ((primary_same at eats still R within).sound w) (λ x a d. rest_is w x a (primary d) (primary_no_arrow d)))))

  pub expression_same : Same a_part (run at rules.expression) (ExpressionForm R)
  expression_same = record { complete = expression_goes; sound = expression_is }
