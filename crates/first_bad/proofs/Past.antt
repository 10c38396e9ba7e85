-- A token that opens too many levels is taken where three more may be open.
use Rattle.std.proofs.Common.{◌≡◌, ℕ, zero, suc, ◌<◌, ◌≤◌, Bool, true, false, ◌&&◌, ◌||◌, if◌then◌else◌, List, [], ◌∷◌, length, inl, inr, refl, sym, ap, ◌∙◌, subst, arith}
use Rattle.std.specs.Prelude.{nat_eq}
use Rattle.std.specs.List.{list_any, list_all}
use Rattle.std.proofs.lemmas.Bool.{cases_Bool, eqb-true}
use Rattle.js_lexer.specs.declared.token.Token.{Token}
use Rattle.parser_rules.specs.declared.class.Class.{Class}
use Rattle.parser_rules.specs.declared.form.Form.{Form}
use Rattle.parser_rules.specs.declared.form.Form.TheVariants.{Expression, Prefix, Statement, Item, Block, Literal}
use Rattle.parser_rules.specs.declared.form.Why.TheVariants.{Unexpected, TooDeep}
use Rattle.parser_rules.specs.Classes.{class_of, is_one_of, code}
use Rattle.parser_rules.specs.Work.{Work, State, going, stuck}
use Rattle.parser_rules.specs.Rules.{Test, Rule, nothing_more, take, act, inside, ◌▸◌, either, many, refuse, sees, sees_other, sees_on_line, sees_word, sees_key, sees_nonzero, sees_passing, after_line, may_end, may_be_parameters, must_be_parameters, passes, passes_on, after, work_after, take_one, taken, refused, left, run}
use Rattle.parser_rules.specs.Grammar.{within, beyond, rule_of, begins}
use Rattle.parser_rules.specs.Expressions as e
use Rattle.parser_rules.specs.Statements as s
use Rattle.parser_rules.specs.Literals as l
use Rattle.parser_rules.proofs.Laws.{takes, Still, run_still}
use Rattle.first_bad.proofs.Begins.{both, either_of, idle, run_idle}
use Rattle.first_bad.proofs.Front.{rest_of, Front, run_front, within_front}
use Rattle.first_bad.proofs.Far.{ends_shorter}
use Rattle.first_bad.proofs.Turns.{Below, loop, loop_ends, loop_front, loop_goes, looped, turn_less, within_below}
use Rattle.first_bad.proofs.FirmRules.{firm_looped}
use Rattle.first_bad.proofs.FirmTable.{rules_firm}
use Rattle.first_bad.proofs.Deeper.{settled, Deeper, run_deeper, within_deeper}
use Rattle.first_bad.proofs.Sinks.{end_begins}
use Rattle.first_bad.proofs.Refusals.{end_class}

-- ---- what a rule surely takes

abbrev pub is_code : ℕ → List Class → Bool
is_code n cs = list_any (λ d. nat_eq n (code d)) cs

abbrev pub takes_code : Test → ℕ → Bool
takes_code (sees cs) n = is_code n cs
takes_code _ n = false

abbrev chooses : Test → ℕ → Bool → Bool → Bool
chooses (sees cs) n a b = if is_code n cs then a else b
chooses _ n a b = a && b

-- a token of the class with this code is taken, where each form takes such tokens
abbrev pub opens : (Form → ℕ → Bool) → Rule → ℕ → Bool
opens inner nothing_more n = false
opens inner (take test) n = takes_code test n
opens inner (act action) n = false
opens inner (inside form) n = inner form n
opens inner (first ▸ second) n = opens inner first n || (idle first && opens inner second n)
opens inner (either test first second) n = chooses test n (opens inner first n) (opens inner second n)
opens inner (many test rule) n = false
opens inner refuse n = false

pub record Opens (f : State → State) (c : ℕ → Bool) : Type 0 where
  pub takes_it : (w : Work) → 0 < length w.rest → c (code (class_of w.rest)) ≡ true → length (rest_of (f (going w))) < length w.rest

take_opens : (test : Test) → Opens (take_one test) (takes_code test)
unfolding take_one
take_opens test = record { takes_it = of test }
  where
    on : (ts : List Token) (w : Work) → 0 < length ts → length (rest_of (taken ts w)) < length ts
    on [] w z = absurd (omega (arith, z))
    on (t ∷ ts) w z = omega arith

    of : (test : Test) (w : Work) → 0 < length w.rest → takes_code test (code (class_of w.rest)) ≡ true → length (rest_of (take_one test (going w))) < length w.rest
    of (sees cs) w z h = subst (λ (b : Bool). length (rest_of (if b then taken w.rest w else stuck Unexpected w.rest)) < length w.rest) (sym h) (on w.rest w z)
    of (sees_other cs) w z h = absurd (let no : ⊥ = cc in no)
    of (sees_on_line cs) w z h = absurd (let no : ⊥ = cc in no)
    of sees_word w z h = absurd (let no : ⊥ = cc in no)
    of sees_key w z h = absurd (let no : ⊥ = cc in no)
    of sees_nonzero w z h = absurd (let no : ⊥ = cc in no)
    of sees_passing w z h = absurd (let no : ⊥ = cc in no)
    of after_line w z h = absurd (let no : ⊥ = cc in no)
    of may_end w z h = absurd (let no : ⊥ = cc in no)
    of may_be_parameters w z h = absurd (let no : ⊥ = cc in no)
    of must_be_parameters w z h = absurd (let no : ⊥ = cc in no)

never_opens : (f : State → State) → Opens f (λ n. false)
never_opens f = record { takes_it = λ w z h. absurd (let no : ⊥ = cc in no) }

module _ (at : Form → State → State) (front : (form : Form) → Front (at form)) (inner : Form → ℕ → Bool) (l : (form : Form) → Opens (at form) (inner form)) where
  chosen_opens : (test : Test) (first second : Rule) → Opens (run at first) (opens inner first) → Opens (run at second) (opens inner second) → Opens (run at (either test first second)) (λ n. chooses test n (opens inner first n) (opens inner second n))
  unfolding passes
  chosen_opens test first second a b = record { takes_it = of test }
    where
      by : (c d : Bool) (w : Work) → c ≡ d → (if c then opens inner first (code (class_of w.rest)) else opens inner second (code (class_of w.rest))) ≡ true → 0 < length w.rest → length (rest_of (if d then run at first (going w) else run at second (going w))) < length w.rest
      by true true w e h z = a.takes_it w z h
      by false false w e h z = b.takes_it w z h
      by true false w e h z = absurd (let no : ⊥ = cc in no)
      by false true w e h z = absurd (let no : ⊥ = cc in no)

      each : (test : Test) (w : Work) → (opens inner first (code (class_of w.rest)) && opens inner second (code (class_of w.rest))) ≡ true → 0 < length w.rest → (d : Bool) → length (rest_of (if d then run at first (going w) else run at second (going w))) < length w.rest
      each test w h z true = let (p, q) = both (opens inner first (code (class_of w.rest))) (opens inner second (code (class_of w.rest))) h in a.takes_it w z p
      each test w h z false = let (p, q) = both (opens inner first (code (class_of w.rest))) (opens inner second (code (class_of w.rest))) h in b.takes_it w z q

      of : (test : Test) (w : Work) → 0 < length w.rest → chooses test (code (class_of w.rest)) (opens inner first (code (class_of w.rest))) (opens inner second (code (class_of w.rest))) ≡ true → length (rest_of (if passes_on test w.rest w.top.cover then run at first (going w) else run at second (going w))) < length w.rest
      of (sees cs) w z h = by (is_code (code (class_of w.rest)) cs) (is_one_of (class_of w.rest) cs) w refl h z
      of (sees_other cs) w z h = each (sees_other cs) w h z (passes_on (sees_other cs) w.rest w.top.cover)
      of (sees_on_line cs) w z h = each (sees_on_line cs) w h z (passes_on (sees_on_line cs) w.rest w.top.cover)
      of sees_word w z h = each sees_word w h z (passes_on sees_word w.rest w.top.cover)
      of sees_key w z h = each sees_key w h z (passes_on sees_key w.rest w.top.cover)
      of sees_nonzero w z h = each sees_nonzero w h z (passes_on sees_nonzero w.rest w.top.cover)
      of sees_passing w z h = each sees_passing w h z (passes_on sees_passing w.rest w.top.cover)
      of after_line w z h = each after_line w h z (passes_on after_line w.rest w.top.cover)
      of may_end w z h = each may_end w h z (passes_on may_end w.rest w.top.cover)
      of may_be_parameters w z h = each may_be_parameters w h z (passes_on may_be_parameters w.rest w.top.cover)
      of must_be_parameters w z h = each must_be_parameters w h z (passes_on must_be_parameters w.rest w.top.cover)

  then_opens : (first second : Rule) → Opens (run at first) (opens inner first) → Opens (run at second) (opens inner second) → Opens (run at (first ▸ second)) (λ n. opens inner first n || (idle first && opens inner second n))
  then_opens first second a b = record {
    takes_it = λ w z h. elim (either_of (opens inner first (code (class_of w.rest))) (idle first && opens inner second (code (class_of w.rest))) h) [
      | inl p ↦ omega (arith, a.takes_it w z p, ends_shorter _ _ ((run_front at front second).ends (run at first (going w))))
      | inr k ↦
          let (p, q) = both (idle first) (opens inner second (code (class_of w.rest))) k in
          let (v, e, same) = (run_idle at first p).goes w in
          let less = b.takes_it v (omega (arith, z, ap (λ (ts : List Token). length ts) same)) (ap (λ (ts : List Token). opens inner second (code (class_of ts))) same ∙ q) in
          omega (arith, less, ap (λ (s : State). length (rest_of (run at second s))) e, ap (λ (ts : List Token). length ts) same)
    ];
  }

  pub run_opens : (r : Rule) → Opens (run at r) (opens inner r)
  run_opens nothing_more = never_opens (run at nothing_more)
  run_opens (take test) = take_opens test
  run_opens (act action) = never_opens (run at (act action))
  run_opens (inside form) = l form
  run_opens (first ▸ second) = then_opens first second (run_opens first) (run_opens second)
  run_opens (either test first second) = chosen_opens test first second (run_opens first) (run_opens second)
  run_opens (many test rule) = never_opens (run at (many test rule))
  run_opens refuse = never_opens (run at refuse)

-- ---- forms

-- the tokens that a form surely takes where so many levels may be open
abbrev pub opened : ℕ → Form → ℕ → Bool
opened zero form n = false
opened (suc k) form n = opens (opened k) (rule_of form) n

one_deeper : (n : ℕ) (inner : Form → ℕ → Bool) → ((form : Form) → Opens (within n form) (inner form)) → (form : Form) → Opens (within (suc n) form) (λ c. opens inner (rule_of form) c)
unfolding within
one_deeper n inner l form = run_opens (within n) (within_front n) inner l (rule_of form)

three_deeper : (n : ℕ) (form : Form) → Opens (within (suc (suc (suc n))) form) (opened 3 form)
three_deeper n =
    one_deeper (suc (suc n)) (λ form c. opened 2 form c)
    (one_deeper (suc n) (λ form c. opened 1 form c)
    (one_deeper n (λ form c. false) (λ form. never_opens (within n form))))

all_open : (f : ℕ → Bool) (cs : List Class) (n : ℕ) → list_all (λ c. f (code c)) cs ≡ true → is_code n cs ≡ true → f n ≡ true
all_open f [] n h k = absurd (let no : ⊥ = cc in no)
all_open f (c ∷ cs) n h k =
    let (p, q) = both (f (code c)) (list_all (λ d. f (code d)) cs) h in
    elim (either_of (nat_eq n (code c)) (is_code n cs) k) [
      | inl e ↦ ap (λ (m : ℕ). f m) (eqb-true n (code c) e) ∙ p
      | inr e ↦ all_open f cs n q e
    ]

expression_opens : list_all (λ c. opened 3 Expression (code c)) e.expression_begins ≡ true
unfolding e.expression e.covered e.named_first e.name_leaf e.own_name e.prefix_first e.primary_first e.primary e.number_leaf e.text_leaf e.array e.object e.function_expression e.construction e.word_leaf e.leaf e.prefix
expression_opens = refl

statement_opens : list_all (λ c. opened 3 Statement (code c)) s.statement_begins ≡ true
unfolding s.statement s.empty_statement s.block s.if_statement s.while_statement s.for_statement s.try_statement s.simple_statement s.jump s.return_statement s.throw_statement s.expression_statement s.ended_expression e.expression_list e.expression e.covered e.named_first e.name_leaf e.own_name e.prefix_first e.primary_first e.primary e.number_leaf e.text_leaf e.array e.object e.function_expression e.construction e.word_leaf e.leaf e.prefix
statement_opens = refl

item_opens : list_all (λ c. opened 3 Item (code c)) s.item_begins ≡ true
unfolding s.item s.let_declaration s.let_list s.const_declaration s.const_list s.function_declaration s.statement s.empty_statement s.block s.if_statement s.while_statement s.for_statement s.try_statement s.simple_statement s.jump s.return_statement s.throw_statement s.expression_statement s.ended_expression e.expression_list e.expression e.covered e.named_first e.name_leaf e.own_name e.prefix_first e.primary_first e.primary e.number_leaf e.text_leaf e.array e.object e.function_expression e.construction e.word_leaf e.leaf e.prefix
item_opens = refl

rules_open : (form : Form) → list_all (λ c. opened 3 form (code c)) (begins form) ≡ true
unfolding e.prefix s.block l.literal l.negative l.literal_array l.literal_object l.constant_word e.number_leaf e.text_leaf e.leaf
rules_open Expression = expression_opens
rules_open Prefix = refl
rules_open Statement = statement_opens
rules_open Item = item_opens
rules_open Block = refl
rules_open Literal = refl

-- ---- past the token

-- where f is refused for want of levels at a token, g takes it
pub record Past (f g : State → State) : Type 0 where
  pub goes_by : (w : Work) (us : List Token) → f (going w) ≡ stuck TooDeep us → length (rest_of (g (going w))) < length us

no_end : (form : Form) (ts : List Token) → is_one_of (class_of ts) (begins form) ≡ true → 0 < length ts
no_end form [] h = let never : true ≡ false = sym h ∙ ap (λ (c : Class). is_one_of c (begins form)) end_class ∙ end_begins form in absurd cc
no_end form (t ∷ ts) h = omega arith

beyond_past : (form : Form) → Past (beyond form) (within (suc (suc (suc zero))) form)
beyond_past form = record { goes_by = λ w us e. by (is_one_of (class_of w.rest) (begins form)) w us refl e }
  where
    by : (b : Bool) (w : Work) (us : List Token) → is_one_of (class_of w.rest) (begins form) ≡ b → stuck (if b then TooDeep else Unexpected) w.rest ≡ stuck TooDeep us → length (rest_of (within (suc (suc (suc zero))) form (going w))) < length us
    by true w us h e =
        let taken_now = (three_deeper zero form).takes_it w (no_end form w.rest h) (all_open (λ c. opened 3 form c) (begins form) (code (class_of w.rest)) (rules_open form) h) in
        omega (arith, taken_now, ap (λ (s : State). length (rest_of s)) e)
    by false w us h e = let never : true ≡ false = ap (λ (s : State). settled s) e in absurd cc

module _ (at at' : Form → State → State) (b : Below at) (b' : Below at') (d : (form : Form) → Deeper (at form) (at' form)) (l : (form : Form) → Past (at form) (at' form)) where
  no_step : {A : Type 0} (test : Test) (w : Work) (us : List Token) → take_one test (going w) ≡ stuck TooDeep us → A
  unfolding take_one
  no_step test w us e = by (passes_on test w.rest w.top.cover) w.rest e
    where
      by : {A : Type 0} (c : Bool) (ts : List Token) → (if c then taken ts w else stuck Unexpected ts) ≡ stuck TooDeep us → A
      by true [] e = absurd (let never : true ≡ false = ap (λ (s : State). settled s) e in cc)
      by true (t ∷ ts) e = absurd (let never : true ≡ false = ap (λ (s : State). settled s) e in cc)
      by false ts e = absurd (let never : true ≡ false = ap (λ (s : State). settled s) e in cc)

  unsettled : {A : Type 0} (s : State) (us : List Token) → settled s ≡ true → s ≡ stuck TooDeep us → A
  unsettled s us h e = absurd (let never : true ≡ false = sym h ∙ ap (λ (x : State). settled x) e in cc)

  -- one after the other, where the second is known to go by from where the first stood
  then_past : (f g f' g' : State → State) → Still g → Front g' → Deeper f f' → Past f f' → (w : Work) (us : List Token) → ((m : Work) → f (going w) ≡ going m → g (going m) ≡ stuck TooDeep us → length (rest_of (g' (going m))) < length us) → g (f (going w)) ≡ stuck TooDeep us → length (rest_of (g' (f' (going w)))) < length us
  then_past f g f' g' still front deeper past w us next e = by (f (going w)) refl
    where
      by : (s : State) → f (going w) ≡ s → length (rest_of (g' (f' (going w)))) < length us
      by (stuck why ts) k =
          let here : stuck why ts ≡ stuck TooDeep us = sym (still.stays why ts) ∙ ap (λ (s : State). g s) (sym k) ∙ e in
          omega (arith, past.goes_by w us (k ∙ here), ends_shorter _ _ (front.ends (f' (going w))))
      by (going m) k =
          let same : f' (going w) ≡ going m = deeper.same (going w) (ap (λ (s : State). settled s) k) ∙ k in
          omega (arith, next m k (ap (λ (s : State). g s) (sym k) ∙ e), ap (λ (s : State). length (rest_of (g' s))) same)

  chosen_past : (test : Test) (first second : Rule) → Past (run at first) (run at' first) → Past (run at second) (run at' second) → Past (run at (either test first second)) (run at' (either test first second))
  chosen_past test first second p q = record { goes_by = λ w us e. by (passes test (going w)) w us e }
    where
      by : (c : Bool) (w : Work) (us : List Token) → (if c then run at first (going w) else run at second (going w)) ≡ stuck TooDeep us → length (rest_of (if c then run at' first (going w) else run at' second (going w))) < length us
      by true w us e = p.goes_by w us e
      by false w us e = q.goes_by w us e

  module _ (test : Test) (rule : Rule) (t : takes rule ≡ true) (deeper : Deeper (run at rule) (run at' rule)) (past : Past (run at rule) (run at' rule)) where
    loop_past : (n : ℕ) (w : Work) (us : List Token) → left (going w) ≤ n → loop at b test rule t (going w) ≡ stuck TooDeep us → length (rest_of (loop at' b' test rule t (going w))) < length us
    loop_past zero w us most e = absurd (omega arith)
    loop_past (suc n) w us most e = elim (cases_Bool (passes test (going w))) [
      | inr k ↦ unsettled (going w) us refl (sym (loop_ends at b test rule t (going w) k) ∙ e)
      | inl k ↦
          let less = then_past (run at rule) (loop at b test rule t) (run at' rule) (loop at' b' test rule t) (run_still at b.still (many test rule)) (loop_front at' b' test rule t) deeper past w us
          (λ m step last. loop_past n m us (omega (arith, turn_less at b test rule t (going w) k, most, ap (λ (s : State). left s) step)) last)
          (sym (loop_goes at b test rule t (going w) k) ∙ e) in
          omega (arith, less, ap (λ (s : State). length (rest_of s)) (loop_goes at' b' test rule t (going w) k))
    ]

  pub run_past : (r : Rule) → looped r ≡ true → Past (run at r) (run at' r)
  unfolding after refused
  run_past nothing_more h = record { goes_by = λ w us e. unsettled (going w) us refl e }
  run_past (take test) h = record { goes_by = λ w us e. no_step test w us e }
  run_past (act action) h = record { goes_by = λ w us e. unsettled (going (work_after action w)) us refl e }
  run_past (inside form) h = l form
  run_past (first ▸ second) h =
      let (p, q) = both (looped first) (looped second) h in
      record { goes_by = λ w us e. then_past (run at first) (run at second) (run at' first) (run at' second) (run_still at b.still second) (run_front at' b'.front second) (run_deeper at at' b b' d first p) (run_past first p) w us (λ m step last. (run_past second q).goes_by m us last) e }
  run_past (either test first second) h =
      let (p, q) = both (looped first) (looped second) h in
      chosen_past test first second (run_past first p) (run_past second q)
  run_past (many test rule) h =
      let (p, q) = both (takes rule) (looped rule) h in
      record { goes_by = λ w us e. loop_past test rule p (run_deeper at at' b b' d rule q) (run_past rule q) (left (going w)) w us (omega arith) e }
  run_past refuse h = record { goes_by = λ w us e. unsettled (stuck Unexpected w.rest) us refl e }

-- ---- levels

deeper_trans : (f g h : State → State) → Deeper f g → Deeper g h → Deeper f h
deeper_trans f g h a b = record { same = λ s k. let e = a.same s k in b.same s (ap (λ (x : State). settled x) e ∙ k) ∙ e }

pub three_levels : (n : ℕ) (form : Form) → Deeper (within n form) (within (suc (suc (suc n))) form)
three_levels n form =
    deeper_trans (within n form) (within (suc (suc n)) form) (within (suc (suc (suc n))) form)
    (deeper_trans (within n form) (within (suc n) form) (within (suc (suc n)) form) (within_deeper n form) (within_deeper (suc n) form))
    (within_deeper (suc (suc n)) form)

pub within_past : (n : ℕ) (form : Form) → Past (within n form) (within (suc (suc (suc n))) form)
unfolding within
within_past zero form = beyond_past form
within_past (suc n) form = run_past (within n) (within (suc (suc (suc n)))) (within_below n) (within_below (suc (suc (suc n)))) (three_levels n) (within_past n) (rule_of form) (firm_looped (rule_of form) (rules_firm form))
