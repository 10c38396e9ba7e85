-- No foreign word is refused for want of levels, and neither is the end.
use Rattle.std.proofs.Common.{◌≡◌, ℕ, zero, suc, Bool, true, false, if◌then◌else◌, List, [], ◌∷◌, inl, inr, refl, sym, ap, ◌∙◌}
use Rattle.std.proofs.lemmas.Bool.{cases_Bool}
use Rattle.js_lexer.specs.declared.token.Token.{Token}
use Rattle.parser_rules.specs.declared.class.Class.{Class}
use Rattle.parser_rules.specs.declared.class.Class.TheVariants as classes
use Rattle.parser_rules.specs.declared.form.Form.{Form}
use Rattle.parser_rules.specs.declared.form.Form.TheVariants.{Expression, Prefix, Statement, Item, Block, Literal}
use Rattle.parser_rules.specs.declared.form.Why.TheVariants.{Unexpected, TooDeep}
use Rattle.parser_rules.specs.Classes.{class_of, is_one_of}
use Rattle.parser_rules.specs.Work.{Work, State, going, stuck}
use Rattle.parser_rules.specs.Rules.{Test, Action, Rule, nothing_more, take, act, inside, ◌▸◌, either, many, refuse, passes, passes_on, after, take_one, taken, refused, left, turns, repeated, run}
use Rattle.parser_rules.specs.Grammar.{within, beyond, rule_of, begins}
use Rattle.first_bad.proofs.Sunk.{foreign_begins}

-- reading stands for want of levels only at what begins a form
abbrev pub Fine : State → Type 0
Fine (going w) = Unit {0}
Fine (stuck Unexpected ts) = Unit {0}
Fine (stuck TooDeep ts) = (class_of ts ≡ classes.Foreign → ⊥) × (class_of ts ≡ classes.End → ⊥)

pub record Sinks (f : State → State) : Type 0 where
  pub fine : (s : State) → Fine s → Fine (f s)

take_sinks : (test : Test) → Sinks (take_one test)
unfolding take_one
take_sinks test = record { fine = of }
  where
    on : (ts : List Token) (w : Work) → Fine (taken ts w)
    on [] w = tt
    on (t ∷ ts) w = tt

    either_way : (b : Bool) (w : Work) → Fine (if b then taken w.rest w else stuck Unexpected w.rest)
    either_way true w = on w.rest w
    either_way false w = tt

    of : (s : State) → Fine s → Fine (take_one test s)
    of (going w) h = either_way (passes_on test w.rest w.top.cover) w
    of (stuck why ts) h = h

act_sinks : (action : Action) → Sinks (after action)
unfolding after
act_sinks action = record { fine = of }
  where
    of : (s : State) → Fine s → Fine (after action s)
    of (going w) h = tt
    of (stuck why ts) h = h

refuse_sinks : Sinks refused
unfolding refused
refuse_sinks = record { fine = of }
  where
    of : (s : State) → Fine s → Fine (refused s)
    of (going w) h = tt
    of (stuck why ts) h = h

turns_sink : (n : ℕ) (test : State → Bool) (turn : State → State) → Sinks turn → (s : State) → Fine s → Fine (turns n test turn s)
unfolding turns
turns_sink zero test turn l s h = h
turns_sink (suc n) test turn l s h = elim (cases_Bool (test s)) [
  | inl k ↦ rw k (turns_sink n test turn l (turn s) (l.fine s h))
  | inr k ↦ rw k h
]

repeated_sinks : (test : State → Bool) (turn : State → State) → Sinks turn → Sinks (repeated test turn)
unfolding repeated
repeated_sinks test turn l = record { fine = λ s h. turns_sink (left s) test turn l s h }

pub run_sinks : (at : Form → State → State) → ((form : Form) → Sinks (at form)) → (r : Rule) → Sinks (run at r)
run_sinks at l nothing_more = record { fine = λ s h. h }
run_sinks at l (take test) = take_sinks test
run_sinks at l (act action) = act_sinks action
run_sinks at l (inside form) = l form
run_sinks at l (first ▸ second) = record { fine = λ s h. (run_sinks at l second).fine (run at first s) ((run_sinks at l first).fine s h) }
run_sinks at l (either test first second) = record { fine = λ s h. chosen (passes test s) s ((run_sinks at l first).fine s h) ((run_sinks at l second).fine s h) }
  where
    chosen : (b : Bool) (s : State) → Fine (run at first s) → Fine (run at second s) → Fine (if b then run at first s else run at second s)
    chosen true s p q = p
    chosen false s p q = q
run_sinks at l (many test rule) = repeated_sinks (passes test) (run at rule) (run_sinks at l rule)
run_sinks at l refuse = refuse_sinks

pub end_begins : (form : Form) → is_one_of classes.End (begins form) ≡ false
end_begins Expression = refl
end_begins Prefix = refl
end_begins Statement = refl
end_begins Item = refl
end_begins Block = refl
end_begins Literal = refl

beyond_sinks : (form : Form) → Sinks (beyond form)
beyond_sinks form = record { fine = of }
  where
    other : (c d : Class) → is_one_of d (begins form) ≡ false → is_one_of c (begins form) ≡ true → c ≡ d → ⊥
    other c d n h e = let never : true ≡ false = sym h ∙ ap (λ (x : Class). is_one_of x (begins form)) e ∙ n in cc

    by_class : (b : Bool) (ts : List Token) → is_one_of (class_of ts) (begins form) ≡ b → Fine (stuck (if b then TooDeep else Unexpected) ts)
    by_class true ts h = (λ e. other (class_of ts) classes.Foreign (foreign_begins form) h e, λ e. other (class_of ts) classes.End (end_begins form) h e)
    by_class false ts h = tt

    of : (s : State) → Fine s → Fine (beyond form s)
    of (going w) h = by_class (is_one_of (class_of w.rest) (begins form)) w.rest refl
    of (stuck why ts) h = h

pub within_sinks : (n : ℕ) (form : Form) → Sinks (within n form)
unfolding within
within_sinks zero form = beyond_sinks form
within_sinks (suc n) form = run_sinks (within n) (within_sinks n) (rule_of form)
