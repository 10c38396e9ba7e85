-- A form refuses at once what it does not begin with.
use Rattle.std.proofs.Common.{◌≡◌, ℕ, zero, suc, Bool, true, false, ◌&&◌, ◌||◌, if◌then◌else◌, List, [], ◌∷◌, inl, inr, refl, sym, ap, ◌∙◌}
use Rattle.std.specs.Prelude.{nat_eq, ◌⊎◌}
use Rattle.std.specs.List.{list_any}
use Rattle.std.proofs.lemmas.Bool.{cases_Bool, eqb-true}
use Rattle.js_lexer.specs.declared.token.Token.{Token}
use Rattle.parser_rules.specs.declared.class.Class.{Class}
use Rattle.parser_rules.specs.declared.form.Form.{Form}
use Rattle.parser_rules.specs.declared.form.Form.TheVariants.{Expression, Prefix, Statement, Item, Block, Literal}
use Rattle.parser_rules.specs.declared.form.Cover.{Cover}
use Rattle.parser_rules.specs.declared.form.Why.TheVariants.{Unexpected}
use Rattle.parser_rules.specs.Classes.{class_of, is_one_of, code}
use Rattle.parser_rules.specs.Work.{Work, State, going, stuck}
use Rattle.parser_rules.specs.Rules.{Test, Rule, nothing_more, take, act, inside, ◌▸◌, either, many, refuse, sees, sees_other, sees_on_line, sees_word, sees_key, sees_nonzero, sees_passing, after_line, may_end, may_be_parameters, must_be_parameters, passes, passes_on, after, work_after, take_one, refused, run}
use Rattle.parser_rules.specs.Grammar.{within, rule_of, begins}
use Rattle.parser_rules.specs.Expressions as e
use Rattle.parser_rules.specs.Statements as s
use Rattle.parser_rules.specs.Literals as l
use Rattle.parser_rules.proofs.Laws.{Still, run_still, same_rest}
use Rattle.parser_rules.proofs.Takes.{within_still}

-- ---- sets of classes

abbrev pub within_set : List Class → List Class → Bool
within_set cs [] = true
within_set cs (d ∷ ds) = is_one_of d cs && within_set cs ds

is_one : ℕ → List Class → Bool
is_one n cs = list_any (λ d. nat_eq n (code d)) cs

pub both : (a b : Bool) → (a && b) ≡ true → (a ≡ true) × (b ≡ true)
both true b h = (refl, h)
both false b h = absurd (let none : ⊥ = cc in none)

pub either_of : (a b : Bool) → (a || b) ≡ true → (a ≡ true) ⊎ (b ≡ true)
either_of true b h = inl refl
either_of false b h = inr h

-- a class of none of these is of none of those
pub none_of : (c : Class) (cs ds : List Class) → within_set cs ds ≡ true → is_one_of c cs ≡ false → is_one_of c ds ≡ false
unfolding is_one
none_of c cs [] h n = refl
none_of c cs (d ∷ ds) h n =
    let (p, q) = both (is_one_of d cs) (within_set cs ds) h in
    elim (cases_Bool (nat_eq (code c) (code d))) [
      | inl k ↦
          let same : is_one (code c) cs ≡ is_one (code d) cs = ap (λ (m : ℕ). is_one m cs) (eqb-true (code c) (code d) k) in
          let never : true ≡ false = sym p ∙ sym same ∙ n in
          absurd (let none : ⊥ = cc in none)
      | inr k ↦ rw k (none_of c cs ds q n)
    ]

-- ---- rules

-- only actions
abbrev pub idle : Rule → Bool
idle nothing_more = true
idle (take test) = false
idle (act action) = true
idle (inside form) = false
idle (first ▸ second) = idle first && idle second
idle (either test first second) = false
idle (many test rule) = false
idle refuse = false

-- the test is passed by tokens of these classes alone
abbrev pub asks : List Class → Test → Bool
asks cs (sees ds) = within_set cs ds
asks cs (sees_other ds) = false
asks cs (sees_on_line ds) = within_set cs ds
asks cs sees_word = false
asks cs sees_key = false
asks cs sees_nonzero = false
asks cs sees_passing = false
asks cs after_line = false
asks cs may_end = false
asks cs may_be_parameters = false
asks cs must_be_parameters = false

-- every other token is refused at once
abbrev pub shuts : List Class → Rule → Bool
shuts cs nothing_more = false
shuts cs (take test) = asks cs test
shuts cs (act action) = false
shuts cs (inside form) = within_set cs (begins form)
shuts cs (first ▸ second) = shuts cs first || (idle first && shuts cs second)
shuts cs (either test first second) = (asks cs test || shuts cs first) && shuts cs second
shuts cs (many test rule) = false
shuts cs refuse = true

-- a token that is of none of these classes is refused at once
pub record Shuts (cs : List Class) (f : State → State) : Type 0 where
  pub refuses : (w : Work) → is_one_of (class_of w.rest) cs ≡ false → f (going w) ≡ stuck Unexpected w.rest

-- reading goes on, and no token is taken
pub record Idles (f : State → State) : Type 0 where
  pub goes : (w : Work) → (v : Work) × (f (going w) ≡ going v) × (v.rest ≡ w.rest)

pub run_idle : (at : Form → State → State) (r : Rule) → idle r ≡ true → Idles (run at r)
unfolding after
run_idle at nothing_more h = record { goes = λ w. (w, refl, refl) }
run_idle at (take test) h = absurd (let none : ⊥ = cc in none)
run_idle at (act action) h = record { goes = λ w. (work_after action w, refl, same_rest action w) }
run_idle at (inside form) h = absurd (let none : ⊥ = cc in none)
run_idle at (first ▸ second) h =
    let (p, q) = both (idle first) (idle second) h in
    record {
      goes = λ w.
          let (v, e, same) = (run_idle at first p).goes w in
          let (u, e', same') = (run_idle at second q).goes v in
          (u, ap (λ (x : State). run at second x) e ∙ e', same' ∙ same);
    }
run_idle at (either test first second) h = absurd (let none : ⊥ = cc in none)
run_idle at (many test rule) h = absurd (let none : ⊥ = cc in none)
run_idle at refuse h = absurd (let none : ⊥ = cc in none)

asks_false : (cs : List Class) (test : Test) (ts : List Token) (cover : Cover) → asks cs test ≡ true → is_one_of (class_of ts) cs ≡ false → passes_on test ts cover ≡ false
asks_false cs (sees ds) ts cover h n = none_of (class_of ts) cs ds h n
asks_false cs (sees_other ds) ts cover h n = absurd (let none : ⊥ = cc in none)
asks_false cs (sees_on_line ds) ts cover h n = rw (none_of (class_of ts) cs ds h n) refl
asks_false cs sees_word ts cover h n = absurd (let none : ⊥ = cc in none)
asks_false cs sees_key ts cover h n = absurd (let none : ⊥ = cc in none)
asks_false cs sees_nonzero ts cover h n = absurd (let none : ⊥ = cc in none)
asks_false cs sees_passing ts cover h n = absurd (let none : ⊥ = cc in none)
asks_false cs after_line ts cover h n = absurd (let none : ⊥ = cc in none)
asks_false cs may_end ts cover h n = absurd (let none : ⊥ = cc in none)
asks_false cs may_be_parameters ts cover h n = absurd (let none : ⊥ = cc in none)
asks_false cs must_be_parameters ts cover h n = absurd (let none : ⊥ = cc in none)

take_shuts : (cs : List Class) (test : Test) → asks cs test ≡ true → Shuts cs (take_one test)
unfolding take_one
take_shuts cs test h = record { refuses = λ w n. rw (asks_false cs test w.rest w.top.cover h n) refl }

pub run_shuts : (cs : List Class) (at : Form → State → State) → ((form : Form) → Still (at form)) → ((form : Form) → Shuts (begins form) (at form)) → (r : Rule) → shuts cs r ≡ true → Shuts cs (run at r)
unfolding refused passes
run_shuts cs at still i nothing_more h = absurd (let none : ⊥ = cc in none)
run_shuts cs at still i (take test) h = take_shuts cs test h
run_shuts cs at still i (act action) h = absurd (let none : ⊥ = cc in none)
run_shuts cs at still i (inside form) h = record { refuses = λ w n. (i form).refuses w (none_of (class_of w.rest) cs (begins form) h n) }
run_shuts cs at still i (first ▸ second) h = elim (either_of (shuts cs first) (idle first && shuts cs second) h) [
  | inl p ↦ record { refuses = λ w n. ap (λ (x : State). run at second x) ((run_shuts cs at still i first p).refuses w n) ∙ (run_still at still second).stays Unexpected w.rest }
  | inr k ↦
      let (p, q) = both (idle first) (shuts cs second) k in
      record {
        refuses = λ w n.
            let (v, e, same) = (run_idle at first p).goes w in
            ap (λ (x : State). run at second x) e
            ∙ (run_shuts cs at still i second q).refuses v (ap (λ (ts : List Token). is_one_of (class_of ts) cs) same ∙ n)
            ∙ ap (λ (ts : List Token). stuck Unexpected ts) same;
      }
]
run_shuts cs at still i (either test first second) h =
    let (p, q) = both (asks cs test || shuts cs first) (shuts cs second) h in
    elim (either_of (asks cs test) (shuts cs first) p) [
      | inl a ↦ record { refuses = λ w n. rw (asks_false cs test w.rest w.top.cover a n) ((run_shuts cs at still i second q).refuses w n) }
      | inr a ↦ record { refuses = λ w n. chosen (passes_on test w.rest w.top.cover) w ((run_shuts cs at still i first a).refuses w n) ((run_shuts cs at still i second q).refuses w n) }
    ]
  where
    chosen : (b : Bool) (w : Work) → run at first (going w) ≡ stuck Unexpected w.rest → run at second (going w) ≡ stuck Unexpected w.rest → (if b then run at first (going w) else run at second (going w)) ≡ stuck Unexpected w.rest
    chosen true w p q = p
    chosen false w p q = q
run_shuts cs at still i (many test rule) h = absurd (let none : ⊥ = cc in none)
run_shuts cs at still i refuse h = record { refuses = λ w n. refl }

-- ---- forms

expression_shuts : shuts e.expression_begins e.expression ≡ true
unfolding e.expression e.covered e.named_first e.name_leaf e.own_name e.prefix_first e.primary_first e.primary e.number_leaf e.text_leaf e.array e.object e.function_expression e.construction e.word_leaf e.leaf
expression_shuts = refl

statement_shuts : shuts s.statement_begins s.statement ≡ true
unfolding s.statement s.empty_statement s.block s.if_statement s.while_statement s.for_statement s.try_statement s.simple_statement s.jump s.return_statement s.throw_statement s.expression_statement s.ended_expression e.expression_list
statement_shuts = refl

item_shuts : shuts s.item_begins s.item ≡ true
unfolding s.item s.let_declaration s.let_list s.const_declaration s.const_list s.function_declaration s.statement s.empty_statement s.block s.if_statement s.while_statement s.for_statement s.try_statement s.simple_statement s.jump s.return_statement s.throw_statement s.expression_statement s.ended_expression e.expression_list
item_shuts = refl

pub rules_shut : (form : Form) → shuts (begins form) (rule_of form) ≡ true
unfolding e.prefix s.block l.literal l.negative l.literal_array l.literal_object l.constant_word e.number_leaf e.text_leaf e.leaf
rules_shut Expression = expression_shuts
rules_shut Prefix = refl
rules_shut Statement = statement_shuts
rules_shut Item = item_shuts
rules_shut Block = refl
rules_shut Literal = refl

pub within_shuts : (n : ℕ) (form : Form) → Shuts (begins form) (within n form)
unfolding within
within_shuts zero form = record { refuses = λ w n. rw n refl }
within_shuts (suc n) form = run_shuts (begins form) (within n) (within_still n) (within_shuts n) (rule_of form) (rules_shut form)
