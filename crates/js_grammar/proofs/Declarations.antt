-- The rules of ends and declarations read what their cases read.
use Rattle.std.proofs.Common.{◌≡◌, true, List, [], ◌∷◌, refl, ap, ◌∙◌}
use Rattle.js_syntax.specs.declared.kind.Kind.{Kind}
use Rattle.parser_rules.specs.declared.class.Class.{Class}
use Rattle.parser_rules.specs.declared.class.Class.TheVariants as classes
use Rattle.parser_rules.specs.declared.form.Form.{Form}
use Rattle.parser_rules.specs.declared.form.Form.TheVariants as forms
use Rattle.parser_rules.specs.Work.{Part, Work, State, going, opened}
use Rattle.parser_rules.specs.Rules.{Rule, run, act, ◌▸◌, either, many, inside, nothing_more, refuse, sees, may_end, after, close, omit}
use Rattle.parser_rules.specs.Expressions.{token, declared_name}
use Rattle.parser_rules.specs.Statements as rules
use Rattle.parser_rules.proofs.Laws.{Inside, Still, takes}
use Rattle.js_grammar.specs.Spots.{Spot, Reading, Named, Takes, is, one_more, absent, Many}
use Rattle.js_grammar.specs.Expressions.{Declares}
use Rattle.js_grammar.specs.Statements.{Ends, semicolon, nothing_there, LetBinding, with_initialiser, without_initialiser, ConstBinding, const_binding, FurtherBinding, further_binding, Bindings, bindings, Lets, Consts, declared}
use Rattle.js_grammar.proofs.Same.{spot_of, moved, gives, a_part, no_effect, a_name, an_entry, each, Read, read, Same, then_read, as_read, either_first, either_second, either_read, refuse_read}
use Rattle.js_grammar.proofs.Nodes.{entries_given, entry_parts, kids_given}
use Rattle.js_grammar.proofs.Loops.{many_same}
use Rattle.js_grammar.proofs.Tests.{asks_sees}
use Rattle.js_grammar.proofs.Steps.{token_goes, token_read, saw}

-- a list of bindings behind its open form
abbrev pub let_bindings : Rule
let_bindings = token classes.Let ▸ (rules.let_binding ▸ many (sees (classes.Comma ∷ [])) rules.further_let)

abbrev pub const_bindings : Rule
const_bindings = token classes.Const ▸ (rules.const_binding ▸ many (sees (classes.Comma ∷ [])) rules.further_const)

module _ (at : Form → State → State) (eats : Inside at) (still : (form : Form) → Still (at form)) where
  -- ---- the end of a statement

  pub ends_goes : (w : Work) (u : Unit {0}) (q : Spot) → Ends (spot_of w) q → run at rules.ends (going w) ≡ going (moved w q)
  unfolding rules.ends
  ends_goes w u q (semicolon t) =
      either_first at still (sees (classes.Semicolon ∷ [])) (token classes.Semicolon) (either may_end nothing_more refuse) w (saw t) ∙ token_goes at still classes.Semicolon w q t
  ends_goes w u _ (nothing_there h g) =
      either_second at still (sees (classes.Semicolon ∷ [])) (token classes.Semicolon) (either may_end nothing_more refuse) w h ∙ either_first at still may_end nothing_more refuse w g

  pub ends_is : (w : Work) → Read (gives no_effect w) (λ u q. Ends (spot_of w) q) (run at rules.ends (going w))
  unfolding rules.ends
  ends_is w = either_read at still (sees (classes.Semicolon ∷ [])) (token classes.Semicolon) (either may_end nothing_more refuse) w
      (λ h. as_read at still _ (token_read at still classes.Semicolon w) (λ _ q t. read {x = tt} {q = q} (semicolon t)))
      (λ h. either_read at still may_end nothing_more refuse w (λ g. read {x = tt} {q = spot_of w} (nothing_there h g)) (λ g. refuse_read at still w))

  pub ends_same : Same no_effect (run at rules.ends) (λ p (u : Unit {0}) q. Ends p q)
  ends_same = record { complete = ends_goes; sound = ends_is }

  -- ---- lists of bindings

  -- a rule of one binding and the rule of a further one, behind its `,`
  module _ (R : Form → Reading Part) (word : Class) (binding further : Rule) (Binding : Reading (Named × Part)) (one : Same an_entry (run at binding) Binding) (more : Same an_entry (run at further) (FurtherBinding R Binding)) (t : takes further ≡ true) where
    several : Same (each an_entry) (run at (many (sees (classes.Comma ∷ [])) further)) (Many (is classes.Comma) (FurtherBinding R Binding))
    several = many_same at eats still (sees (classes.Comma ∷ [])) (is classes.Comma) (asks_sees (classes.Comma ∷ [])) further t an_entry (FurtherBinding R Binding) more

    abbrev whole : Rule
    whole = token word ▸ (binding ▸ many (sees (classes.Comma ∷ [])) further)

    bindings_goes : (w : Work) (xs : List (Named × Part)) (q : Spot) → Bindings R word Binding (spot_of w) xs q → run at whole (going w) ≡ going (gives (each an_entry) w xs q)
    bindings_goes w _ q (bindings {a = a} {b = b} {x = x} {xs = xs} u d m) =
        rw (token_goes at still word w a u, one.complete (moved w a) x b d, several.complete (gives an_entry (moved w a) x b) xs q m) refl

    bindings_is : (w : Work) → Read (gives (each an_entry) w) (Bindings R word Binding (spot_of w)) (run at whole (going w))
    bindings_is w =
        then_read at still (token word) (binding ▸ many (sees (classes.Comma ∷ [])) further) (going w) (token_read at still word w) (λ _ a u.
        then_read at still binding (many (sees (classes.Comma ∷ [])) further) (going (moved w a)) (one.sound (moved w a)) (λ x b d.
        as_read at still _ (several.sound (gives an_entry (moved w a) x b)) (λ xs q m. read {x = x ∷ xs} {q = q} (bindings u d m))))

    pub bindings_same : Same (each an_entry) (run at whole) (Bindings R word Binding)
    bindings_same = record { complete = bindings_goes; sound = bindings_is }

  -- a further binding is a `,` and a binding
  further_same : (R : Form → Reading Part) (binding : Rule) (Binding : Reading (Named × Part)) → Same an_entry (run at binding) Binding → Same an_entry (run at (token classes.Comma ▸ binding)) (FurtherBinding R Binding)
  further_same R binding Binding one = record { complete = goes; sound = goes_back }
    where
      goes : (w : Work) (x : Named × Part) (q : Spot) → FurtherBinding R Binding (spot_of w) x q → run at (token classes.Comma ▸ binding) (going w) ≡ going (gives an_entry w x q)
      goes w x q (further_binding {a = a} t b) = ap (λ (s : State). run at binding s) (token_goes at still classes.Comma w a t) ∙ one.complete (moved w a) x q b

      goes_back : (w : Work) → Read (gives an_entry w) (FurtherBinding R Binding (spot_of w)) (run at (token classes.Comma ▸ binding) (going w))
      goes_back w =
          then_read at still (token classes.Comma) binding (going w) (token_read at still classes.Comma w) (λ _ a t.
          as_read at still _ (one.sound (moved w a)) (λ x q b. read {x = x} {q = q} (further_binding t b)))

  -- ---- declarations

  module _ (R : Form → Reading Part) (within : (form : Form) → Same a_part (at form) (R form)) (name : Same a_name (run at declared_name) Declares) where
    initialised : (w : Work) (n : Named) (p a q : Spot) (x : Part) → Takes (is classes.Equals) p a → R forms.Expression a x q →
        run at rules.initialiser (going (gives a_name w n p)) ≡ going (gives an_entry w (n, x) q)
    unfolding rules.initialiser
    initialised w n p a q x t r =
        ap (λ (s : State). run at (inside forms.Expression) s) (token_goes at still classes.Equals (gives a_name w n p) a t) ∙ (within forms.Expression).complete (moved (gives a_name w n p) a) x q r

    let_binding_goes : (w : Work) (x : Named × Part) (q : Spot) → LetBinding R (spot_of w) x q → run at rules.let_binding (going w) ≡ going (gives an_entry w x q)
    unfolding rules.let_binding after
    let_binding_goes w _ q (with_initialiser {a = a} {b = b} {n = n} {x = x} d t r) =
        ap (λ (s : State). run at (either (sees (classes.Equals ∷ [])) rules.initialiser (act omit)) s) (name.complete w n a d)
        ∙ either_first at still (sees (classes.Equals ∷ [])) rules.initialiser (act omit) (gives a_name w n a) (saw t)
        ∙ initialised w n a b q x t r
    let_binding_goes w _ _ (without_initialiser {q = q} {n = n} d h) =
        ap (λ (s : State). run at (either (sees (classes.Equals ∷ [])) rules.initialiser (act omit)) s) (name.complete w n q d)
        ∙ either_second at still (sees (classes.Equals ∷ [])) rules.initialiser (act omit) (gives a_name w n q) h

    let_binding_is : (w : Work) → Read (gives an_entry w) (LetBinding R (spot_of w)) (run at rules.let_binding (going w))
    unfolding rules.let_binding rules.initialiser after
    let_binding_is w =
        then_read at still declared_name (either (sees (classes.Equals ∷ [])) rules.initialiser (act omit)) (going w) (name.sound w) (λ n a d.
        either_read at still (sees (classes.Equals ∷ [])) rules.initialiser (act omit) (gives a_name w n a)
        (λ h. then_read at still (token classes.Equals) (inside forms.Expression) (going (gives a_name w n a)) (token_read at still classes.Equals (gives a_name w n a)) (λ _ b t.
        as_read at still _ ((within forms.Expression).sound (moved (gives a_name w n a) b)) (λ x q r. read {x = (n, x)} {q = q} (with_initialiser d t r))))
        (λ h. read {x = (n, absent a)} {q = one_more a} (without_initialiser d h)))

    let_binding_same : Same an_entry (run at rules.let_binding) (LetBinding R)
    let_binding_same = record { complete = let_binding_goes; sound = let_binding_is }

    const_binding_goes : (w : Work) (x : Named × Part) (q : Spot) → ConstBinding R (spot_of w) x q → run at rules.const_binding (going w) ≡ going (gives an_entry w x q)
    unfolding rules.const_binding
    const_binding_goes w _ q (const_binding {a = a} {b = b} {n = n} {x = x} d t r) = ap (λ (s : State). run at rules.initialiser s) (name.complete w n a d) ∙ initialised w n a b q x t r

    const_binding_is : (w : Work) → Read (gives an_entry w) (ConstBinding R (spot_of w)) (run at rules.const_binding (going w))
    unfolding rules.const_binding rules.initialiser
    const_binding_is w =
        then_read at still declared_name rules.initialiser (going w) (name.sound w) (λ n a d.
        then_read at still (token classes.Equals) (inside forms.Expression) (going (gives a_name w n a)) (token_read at still classes.Equals (gives a_name w n a)) (λ _ b t.
        as_read at still _ ((within forms.Expression).sound (moved (gives a_name w n a) b)) (λ x q r. read {x = (n, x)} {q = q} (const_binding d t r))))

    const_binding_same : Same an_entry (run at rules.const_binding) (ConstBinding R)
    const_binding_same = record { complete = const_binding_goes; sound = const_binding_is }

    pub lets_same : Same (each an_entry) (run at let_bindings) (Lets R)
    unfolding rules.further_let
    lets_same = bindings_same R classes.Let rules.let_binding rules.further_let (LetBinding R) let_binding_same (further_same R rules.let_binding (LetBinding R) let_binding_same) refl

    pub consts_same : Same (each an_entry) (run at const_bindings) (Consts R)
    unfolding rules.further_const
    consts_same = bindings_same R classes.Const rules.const_binding rules.further_const (ConstBinding R) const_binding_same (further_same R rules.const_binding (ConstBinding R) const_binding_same) refl

    -- a list of bindings that is whole
    pub closed_declared : (kind : Kind) (w : Work) (xs : List (Named × Part)) (q : Spot) →
        run at (act close) (going (gives (each an_entry) (opened kind w) xs q)) ≡ going (gives a_part w (declared R kind (spot_of w) xs q) (one_more q))
    unfolding after
    closed_declared kind w xs q = rw (entries_given (opened kind w).top xs, kids_given (entry_parts xs)) refl

    pub bindings_begin : (word : Class) (Binding : Reading (Named × Part)) (p : Spot) (xs : List (Named × Part)) (q : Spot) → Bindings R word Binding p xs q → is word p.rest ≡ true
    bindings_begin word Binding p _ q (bindings u d m) = saw u
