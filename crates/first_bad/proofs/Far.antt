-- What begins with a construction takes the whole of its head, or nothing.
use Rattle.std.proofs.Common.{◌≡◌, ℕ, zero, suc, ◌+◌, ◌≤◌, Bool, true, false, ◌&&◌, ◌||◌, if◌then◌else◌, List, [], ◌∷◌, length, Option, None, Some, inl, inr, refl, sym, ap, ◌∙◌, subst, arith, length-append}
use Rattle.std.specs.Prelude.{◌⊎◌}
use Rattle.js_lexer.specs.declared.token.Token.{Token}
use Rattle.parser_rules.specs.declared.class.Class.TheVariants as classes
use Rattle.parser_rules.specs.declared.form.Form.{Form}
use Rattle.parser_rules.specs.declared.form.Form.TheVariants.{Expression, Prefix, Statement, Item, Block, Literal}
use Rattle.parser_rules.specs.declared.form.Why.{Why}
use Rattle.parser_rules.specs.Classes.{class_of}
use Rattle.parser_rules.specs.Work.{Work, State, going, stuck}
use Rattle.parser_rules.specs.Rules.{Test, Rule, nothing_more, take, act, inside, ◌▸◌, either, many, refuse, sees, sees_other, sees_on_line, sees_word, sees_key, sees_nonzero, sees_passing, after_line, may_end, may_be_parameters, must_be_parameters, passes, run}
use Rattle.parser_rules.specs.Grammar.{within, beyond, refused_at_limit}
use Rattle.parser_rules.specs.Expressions as e
use Rattle.parser_rules.proofs.Laws.{Still, run_still}
use Rattle.parser_rules.proofs.Takes.{within_still}
use Rattle.first_bad.proofs.Begins.{both, either_of, idle, shuts, run_idle}
use Rattle.first_bad.proofs.Front.{rest_of, Ends, Front, run_front, within_front}
use Rattle.first_bad.proofs.Views.{put}
use Rattle.first_bad.proofs.Walk.{Spot, at_word, at_name, at_paren, behind, walk, sees_class, run_walks}
use Rattle.first_bad.proofs.Words.{Opening, new_opens}

abbrev pub is_behind : Option Spot → Bool
is_behind None = false
is_behind (Some at_word) = false
is_behind (Some at_name) = false
is_behind (Some at_paren) = false
is_behind (Some behind) = true

-- the head of a construction, and nothing else
abbrev pub unit : Rule → Bool
unit r = is_behind (walk r at_word) && shuts (classes.New ∷ []) r

abbrev pub is_expression : Form → Bool
is_expression Expression = true
is_expression Prefix = false
is_expression Statement = false
is_expression Item = false
is_expression Block = false
is_expression Literal = false

abbrev pub by_class : Test → Bool
by_class (sees cs) = true
by_class _ = false

-- where a construction begins, the rule takes its head, or is refused at once
abbrev pub far : Rule → Bool
far nothing_more = false
far (take test) = false
far (act action) = false
far (inside form) = is_expression form
far (first ▸ second) = unit (first ▸ second) || (far first || (idle first && far second))
far (either test first second) = by_class test && (if sees_class test classes.New then far first else far second)
far (many test rule) = false
far refuse = false

abbrev pub FarFrom : State → List Token → Type 0
FarFrom s ts = ((why : Why) × (s ≡ stuck why ts)) ⊎ (3 + length (rest_of s) ≤ length ts)

pub record Far (f : State → State) : Type 0 where
  pub goes : (w : Work) → class_of w.rest ≡ classes.New → FarFrom (f (going w)) w.rest

pub is_behind_some : (o : Option Spot) → is_behind o ≡ true → o ≡ Some behind
is_behind_some None h = absurd (let none : ⊥ = cc in none)
is_behind_some (Some at_word) h = absurd (let none : ⊥ = cc in none)
is_behind_some (Some at_name) h = absurd (let none : ⊥ = cc in none)
is_behind_some (Some at_paren) h = absurd (let none : ⊥ = cc in none)
is_behind_some (Some behind) h = refl

-- what the head of a construction leaves
pub record Headed (f : State → State) (w : Work) (o : Opening w.rest) : Type 0 where
  pub work : Work
  pub always : (ts : List Token) → f (going (put (o.word ∷ o.name ∷ o.paren ∷ ts) w)) ≡ going (put ts work)

pub unit_heads : (at : Form → State → State) (r : Rule) → unit r ≡ true → (w : Work) (o : Opening w.rest) → Headed (run at r) w o
unit_heads at r h w o =
    let (p, _) = both (is_behind (walk r at_word)) (shuts (classes.New ∷ []) r) h in
    let (u, to) = (run_walks o.word o.name o.paren o.opens at r at_word behind (is_behind_some (walk r at_word) p)).goes w in
    record { work = u; always = to }

pub ends_shorter : (x y : List Token) → Ends x y → length x ≤ length y
ends_shorter x y (p, e) = omega (arith, ap (λ (u : List Token). length u) e, length-append p x)

unit_far : (at : Form → State → State) (r : Rule) → unit r ≡ true → Far (run at r)
unit_far at r h = record { goes = λ w c. of w (new_opens w.rest c) }
  where
    of : (w : Work) → Opening w.rest → FarFrom (run at r (going w)) w.rest
    of w o =
        let k = unit_heads at r h w o in
        let e : run at r (going w) ≡ going (put o.rest k.work) = ap (λ (ts : List Token). run at r (going (put ts w))) o.is ∙ k.always o.rest in
        inr (omega (arith, ap (λ (s : State). length (rest_of s)) e, ap (λ (ts : List Token). length ts) o.is))

then_far : (f g : State → State) → Still g → Front g → Far f → Far (λ s. g (f s))
then_far f g still front l = record {
  goes = λ w c. elim (l.goes w c) [
    | inl x ↦ stands w x
    | inr h ↦ inr (omega (arith, h, ends_shorter (rest_of (g (f (going w)))) (rest_of (f (going w))) (front.ends (f (going w)))))
  ];
}
  where
    stands : (w : Work) → ((why : Why) × (f (going w) ≡ stuck why w.rest)) → FarFrom (g (f (going w))) w.rest
    stands w (why, e) = inl (why, ap (λ (s : State). g s) e ∙ still.stays why w.rest)

sees_on : (test : Test) (w : Work) → by_class test ≡ true → class_of w.rest ≡ classes.New → passes test (going w) ≡ sees_class test classes.New
unfolding passes
sees_on (sees cs) w h c = rw c refl
sees_on (sees_other cs) w h c = absurd (let none : ⊥ = cc in none)
sees_on (sees_on_line cs) w h c = absurd (let none : ⊥ = cc in none)
sees_on sees_word w h c = absurd (let none : ⊥ = cc in none)
sees_on sees_key w h c = absurd (let none : ⊥ = cc in none)
sees_on sees_nonzero w h c = absurd (let none : ⊥ = cc in none)
sees_on sees_passing w h c = absurd (let none : ⊥ = cc in none)
sees_on after_line w h c = absurd (let none : ⊥ = cc in none)
sees_on may_end w h c = absurd (let none : ⊥ = cc in none)
sees_on may_be_parameters w h c = absurd (let none : ⊥ = cc in none)
sees_on must_be_parameters w h c = absurd (let none : ⊥ = cc in none)

is_expression_only : (form : Form) → is_expression form ≡ true → form ≡ Expression
is_expression_only Expression h = refl
is_expression_only Prefix h = absurd (let none : ⊥ = cc in none)
is_expression_only Statement h = absurd (let none : ⊥ = cc in none)
is_expression_only Item h = absurd (let none : ⊥ = cc in none)
is_expression_only Block h = absurd (let none : ⊥ = cc in none)
is_expression_only Literal h = absurd (let none : ⊥ = cc in none)

module _ (at : Form → State → State) (still : (form : Form) → Still (at form)) (front : (form : Form) → Front (at form)) (l : Far (at Expression)) where
  pub run_far : (r : Rule) → far r ≡ true → Far (run at r)
  run_far nothing_more h = absurd (let none : ⊥ = cc in none)
  run_far (take test) h = absurd (let none : ⊥ = cc in none)
  run_far (act action) h = absurd (let none : ⊥ = cc in none)
  run_far (inside form) h = subst (λ (f : Form). Far (at f)) (sym (is_expression_only form h)) l
  run_far (first ▸ second) h = elim (either_of (unit (first ▸ second)) (far first || (idle first && far second)) h) [
    | inl p ↦ unit_far at (first ▸ second) p
    | inr r ↦ elim (either_of (far first) (idle first && far second) r) [
      | inl p ↦ then_far (run at first) (run at second) (run_still at still second) (run_front at front second) (run_far first p)
      | inr q ↦
          let (p, k) = both (idle first) (far second) q in
          record { goes = λ w c. idled w ((run_idle at first p).goes w) c (λ v. (run_far second k).goes v) }
    ]
  ]
    where
      idled : (w : Work) → ((v : Work) × (run at first (going w) ≡ going v) × (v.rest ≡ w.rest)) → class_of w.rest ≡ classes.New → ((v : Work) → class_of v.rest ≡ classes.New → FarFrom (run at second (going v)) v.rest) → FarFrom (run at second (run at first (going w))) w.rest
      idled w (v, e, same) c k =
          let x : FarFrom (run at second (going v)) v.rest = k v (ap (λ (ts : List Token). class_of ts) same ∙ c) in
          subst (λ (s : State). FarFrom (run at second s) w.rest) (sym e) (subst (λ (ts : List Token). FarFrom (run at second (going v)) ts) same x)
  run_far (either test first second) h =
      let (p, q) = both (by_class test) (if sees_class test classes.New then far first else far second) h in
      record { goes = λ w c. chosen (passes test (going w)) w (sees_on test w p c) q c (λ k. (run_far first k).goes w c) (λ k. (run_far second k).goes w c) }
    where
      chosen : (b : Bool) (w : Work) → b ≡ sees_class test classes.New → (if sees_class test classes.New then far first else far second) ≡ true → class_of w.rest ≡ classes.New → (far first ≡ true → FarFrom (run at first (going w)) w.rest) → (far second ≡ true → FarFrom (run at second (going w)) w.rest) → FarFrom (if b then run at first (going w) else run at second (going w)) w.rest
      chosen true w e q c x y = x (subst (λ (b : Bool). (if b then far first else far second) ≡ true) (sym e) q)
      chosen false w e q c x y = y (subst (λ (b : Bool). (if b then far first else far second) ≡ true) (sym e) q)
  run_far (many test rule) h = absurd (let none : ⊥ = cc in none)
  run_far refuse h = absurd (let none : ⊥ = cc in none)

construction_far : far e.construction ≡ true
unfolding e.construction e.elements
construction_far = refl

expression_far : far e.expression ≡ true
unfolding e.expression e.prefix_first e.primary_first e.primary e.named_first
expression_far = rw construction_far refl

beyond_far : Far (beyond Expression)
beyond_far = record { goes = λ w c. inl (refused_at_limit Expression w.rest, refl) }

pub within_far : (n : ℕ) → Far (within n Expression)
unfolding within
within_far zero = beyond_far
within_far (suc n) = run_far (within n) (within_still n) (within_front n) (within_far n) e.expression expression_far
