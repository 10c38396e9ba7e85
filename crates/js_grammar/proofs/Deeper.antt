-- Where more levels may be open, whatever was read is read.
use Rattle.std.proofs.Common.{◌≡◌, ℕ, zero, suc, ◌+◌, ◌-◌, ◌≤◌, Bool, true, false, List, refl, sym, ap, ◌∙◌, subst, if◌then◌else◌, arith}
use Rattle.ivm_text.specs.declared.refusal.Refusal.{Refusal}
use Rattle.js_syntax.specs.Tree.{Trees}
use Rattle.js_lexer.specs.declared.token.Token.{Token}
use Rattle.parser_rules.specs.declared.form.Form.{Form}
use Rattle.parser_rules.specs.declared.form.Why.{Why}
use Rattle.parser_rules.specs.Work.{Work, State, going, stuck}
use Rattle.parser_rules.specs.Rules.{Rule, Test, nothing_more, take, act, inside, ◌▸◌, either, many, refuse, passes, left, turns, repeated, run}
use Rattle.parser_rules.specs.Grammar.{within, beyond, rule_of, reading, at_start, answer_of, accepted, rejected}
use Rattle.parser_rules.proofs.Laws.{Still, run_still}
use Rattle.parser_rules.proofs.Takes.{within_still}

-- where the one reads on, the other comes to the same
record Deeper (f g : State → State) : Type 0 where
  pub same : (s : State) (w : Work) → f s ≡ going w → g s ≡ going w

stuck_is_not : {why : Why} {ts : List Token} {w : Work} → stuck why ts ≡ going w → ⊥
stuck_is_not e = cc

-- ---- loops

module _ (test : Test) (f g : State → State) (d : Deeper f g) where
  turns_stand : (n : ℕ) (why : Why) (ts : List Token) → turns n (passes test) f (stuck why ts) ≡ stuck why ts
  unfolding turns passes
  turns_stand zero why ts = refl
  turns_stand (suc n) why ts = refl

  turns_deeper : (n : ℕ) → Deeper (turns n (passes test) f) (turns n (passes test) g)
  unfolding turns
  turns_deeper zero = record { same = λ s w e. e }
  turns_deeper (suc n) = record { same = λ s w e. chosen (turns_deeper n) (passes test s) s w e }
    where
      turned : Deeper (turns n (passes test) f) (turns n (passes test) g) → (s m : State) (w : Work) → f s ≡ m → turns n (passes test) f m ≡ going w → turns n (passes test) g (g s) ≡ going w
      turned ih s (going v) w e h = ap (λ (u : State). turns n (passes test) g u) (d.same s v e) ∙ ih.same (going v) w h
      turned ih s (stuck why ts) w e h = absurd (stuck_is_not (sym (turns_stand n why ts) ∙ h))

      chosen : Deeper (turns n (passes test) f) (turns n (passes test) g) → (b : Bool) (s : State) (w : Work) →
          (if b then turns n (passes test) f (f s) else s) ≡ going w → (if b then turns n (passes test) g (g s) else s) ≡ going w
      chosen ih true s w e = turned ih s (f s) w refl e
      chosen ih false s w e = e

-- ---- rules

module _ (at at' : Form → State → State) (still : (form : Form) → Still (at form)) (d : (form : Form) → Deeper (at form) (at' form)) where
  behind : (first second : Rule) → Deeper (run at first) (run at' first) → Deeper (run at second) (run at' second) → (s m : State) (w : Work) → run at first s ≡ m → run at second m ≡ going w →
      run at' second (run at' first s) ≡ going w
  behind first second a b s (going v) w e h = ap (λ (u : State). run at' second u) (a.same s v e) ∙ b.same (going v) w h
  behind first second a b s (stuck why ts) w e h = absurd (stuck_is_not (sym ((run_still at still second).stays why ts) ∙ h))

  chosen : (first second : Rule) → Deeper (run at first) (run at' first) → Deeper (run at second) (run at' second) → (b : Bool) (s : State) (w : Work) →
      (if b then run at first s else run at second s) ≡ going w → (if b then run at' first s else run at' second s) ≡ going w
  chosen first second a b true s w e = a.same s w e
  chosen first second a b false s w e = b.same s w e

  run_deeper : (r : Rule) → Deeper (run at r) (run at' r)
  unfolding repeated
  run_deeper nothing_more = record { same = λ s w e. e }
  run_deeper (take test) = record { same = λ s w e. e }
  run_deeper (act action) = record { same = λ s w e. e }
  run_deeper (inside form) = d form
  run_deeper (first ▸ second) = record { same = λ s w e. behind first second (run_deeper first) (run_deeper second) s (run at first s) w refl e }
  run_deeper (either test first second) = record { same = λ s w e. chosen first second (run_deeper first) (run_deeper second) (passes test s) s w e }
  run_deeper (many test rule) = record { same = λ s w e. (turns_deeper test (run at rule) (run at' rule) (run_deeper rule) (left s)).same s w e }
  run_deeper refuse = record { same = λ s w e. e }

-- ---- levels

one_deeper : (n : ℕ) (form : Form) → Deeper (within n form) (within (suc n) form)
unfolding within
one_deeper zero form = record { same = λ s w e. absurd (none s w e) }
  where
    none : (s : State) (w : Work) → beyond form s ≡ going w → ⊥
    none (going v) w e = stuck_is_not e
    none (stuck why ts) w e = stuck_is_not e
one_deeper (suc n) form = run_deeper (within n) (within (suc n)) (within_still n) (one_deeper n) (rule_of form)

further : (n k o : ℕ) (form : Form) → o ≡ k + n → Deeper (within n form) (within o form)
further n zero o form e = let same : n ≡ o = omega (arith, e) in subst (λ (m : ℕ). Deeper (within n form) (within m form)) same (record { same = λ s w h. h })
further n (suc k) o form e =
    let one : suc (k + n) ≡ o = omega (arith, e) in
    subst (λ (m : ℕ). Deeper (within n form) (within m form)) one
    (record { same = λ s w h. (one_deeper (k + n) form).same s w ((further n k (k + n) form refl).same s w h) })

-- the answer to a text that is accepted
module _ (n o : ℕ) (l : n ≤ o) (whole : Rule) (m : ℕ) (ts : List Token) (t : Trees) where
  refused_is_not : {r : Refusal} → rejected r ≡ accepted t → ⊥
  refused_is_not e = cc

  answered : (s : State) → run (within n) whole (at_start ts) ≡ s → answer_of m s ≡ accepted t → answer_of m (run (within o) whole (at_start ts)) ≡ accepted t
  answered (going w) e h = ap (λ (u : State). answer_of m u) ((run_deeper (within n) (within o) (within_still n) (λ form. further n (o - n) o form (omega (arith, l))) whole).same (at_start ts) w e) ∙ h
  answered (stuck why us) e h = absurd (refused_is_not h)

pub still_accepted : (n o : ℕ) → n ≤ o → (whole : Rule) (m : ℕ) (ts : List Token) (t : Trees) → answer_of m (reading n whole ts) ≡ accepted t → answer_of m (reading o whole ts) ≡ accepted t
still_accepted n o l whole m ts t h = answered n o l whole m ts t (run (within n) whole (at_start ts)) refl h
