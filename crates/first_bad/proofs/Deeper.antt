-- One more level changes nothing but refusals for want of levels.
use Rattle.std.proofs.Common.{◌≡◌, ℕ, zero, suc, ◌≤◌, Bool, true, false, if◌then◌else◌, inl, inr, refl, sym, ap, ◌∙◌, subst, arith}
use Rattle.std.proofs.lemmas.Bool.{cases_Bool}
use Rattle.parser_rules.specs.declared.form.Form.{Form}
use Rattle.parser_rules.specs.declared.form.Why.TheVariants.{Unexpected, TooDeep}
use Rattle.parser_rules.specs.Classes.{class_of, is_one_of}
use Rattle.parser_rules.specs.Work.{State, going, stuck}
use Rattle.parser_rules.specs.Rules.{Test, Rule, nothing_more, take, act, inside, ◌▸◌, either, many, refuse, passes, left, run}
use Rattle.parser_rules.specs.Grammar.{within, beyond, rule_of, begins}
use Rattle.parser_rules.proofs.Laws.{takes, Still, run_still}
use Rattle.parser_rules.proofs.Takes.{within_still}
use Rattle.first_bad.proofs.Begins.{both, within_shuts}
use Rattle.first_bad.proofs.Turns.{Below, loop, loop_ends, loop_goes, looped, turn_less, within_below}
use Rattle.first_bad.proofs.FirmRules.{firm_looped}
use Rattle.first_bad.proofs.FirmTable.{rules_firm}

-- not for want of levels
abbrev pub settled : State → Bool
settled (going w) = true
settled (stuck Unexpected ts) = true
settled (stuck TooDeep ts) = false

-- g does what f does where f is not refused for want of levels
pub record Deeper (f g : State → State) : Type 0 where
  pub same : (s : State) → settled (f s) ≡ true → g s ≡ f s

settled_before : (f : State → State) → Still f → (s : State) → settled (f s) ≡ true → settled s ≡ true
settled_before f still (going w) h = refl
settled_before f still (stuck why ts) h = subst (λ (s : State). settled s ≡ true) (still.stays why ts) h

module _ (at at' : Form → State → State) (b : Below at) (b' : Below at') (d : (form : Form) → Deeper (at form) (at' form)) where
  module _ (test : Test) (rule : Rule) (e : takes rule ≡ true) (l : Deeper (run at rule) (run at' rule)) where
    stand : (s : State) → passes test s ≡ false → loop at' b' test rule e s ≡ loop at b test rule e s
    stand s k = loop_ends at' b' test rule e s k ∙ sym (loop_ends at b test rule e s k)

    goes_on : (s : State) → passes test s ≡ true → settled (loop at b test rule e s) ≡ true → (settled (loop at b test rule e (run at rule s)) ≡ true → loop at' b' test rule e (run at rule s) ≡ loop at b test rule e (run at rule s)) → loop at' b' test rule e s ≡ loop at b test rule e s
    goes_on s k h ih =
        let again : loop at b test rule e s ≡ loop at b test rule e (run at rule s) = loop_goes at b test rule e s k in
        let h' : settled (loop at b test rule e (run at rule s)) ≡ true = sym (ap (λ (m : State). settled m) again) ∙ h in
        let first : settled (run at rule s) ≡ true = settled_before (loop at b test rule e) (run_still at b.still (many test rule)) (run at rule s) h' in
        loop_goes at' b' test rule e s k ∙ ap (λ (m : State). loop at' b' test rule e m) (l.same s first) ∙ ih h' ∙ sym again

    loop_deeper : (n : ℕ) (s : State) → left s ≤ n → settled (loop at b test rule e s) ≡ true → loop at' b' test rule e s ≡ loop at b test rule e s
    loop_deeper zero s bound h = elim (cases_Bool (passes test s)) [
      | inr k ↦ stand s k
      | inl k ↦ absurd (omega (arith, turn_less at b test rule e s k))
    ]
    loop_deeper (suc n) s bound h = elim (cases_Bool (passes test s)) [
      | inr k ↦ stand s k
      | inl k ↦ goes_on s k h (loop_deeper n (run at rule s) (omega (arith, turn_less at b test rule e s k)))
    ]

  pub run_deeper : (r : Rule) → looped r ≡ true → Deeper (run at r) (run at' r)
  run_deeper nothing_more e = record { same = λ s h. refl }
  run_deeper (take test) e = record { same = λ s h. refl }
  run_deeper (act action) e = record { same = λ s h. refl }
  run_deeper (inside form) e = d form
  run_deeper (first ▸ second) e =
      let (p, q) = both (looped first) (looped second) e in
      record {
        same = λ s h.
            ap (λ (m : State). run at' second m) ((run_deeper first p).same s (settled_before (run at second) (run_still at b.still second) (run at first s) h))
            ∙ (run_deeper second q).same (run at first s) h;
      }
  run_deeper (either test first second) e =
      let (p, q) = both (looped first) (looped second) e in
      record { same = λ s h. chosen (passes test s) s h ((run_deeper first p).same s) ((run_deeper second q).same s) }
    where
      chosen : (c : Bool) (s : State) → settled (if c then run at first s else run at second s) ≡ true → (settled (run at first s) ≡ true → run at' first s ≡ run at first s) → (settled (run at second s) ≡ true → run at' second s ≡ run at second s) → (if c then run at' first s else run at' second s) ≡ (if c then run at first s else run at second s)
      chosen true s h p q = p h
      chosen false s h p q = q h
  run_deeper (many test rule) e =
      let (p, q) = both (takes rule) (looped rule) e in
      record { same = λ s h. loop_deeper test rule p (run_deeper rule q) (left s) s (omega arith) h }
  run_deeper refuse e = record { same = λ s h. refl }

-- ---- levels

beyond_deeper : (form : Form) → Deeper (beyond form) (within 1 form)
unfolding within
beyond_deeper form = record { same = of }
  where
    of : (s : State) → settled (beyond form s) ≡ true → within 1 form s ≡ beyond form s
    of (stuck why ts) h = (within_still 1 form).stays why ts
    of (going w) h = elim (cases_Bool (is_one_of (class_of w.rest) (begins form))) [
      | inl k ↦ absurd (never k h)
      | inr k ↦ rw k ((within_shuts 1 form).refuses w k)
    ]
      where
        never : is_one_of (class_of w.rest) (begins form) ≡ true → settled (beyond form (going w)) ≡ true → ⊥
        never k h = let f : false ≡ true = subst (λ (b : Bool). settled (stuck (if b then TooDeep else Unexpected) w.rest) ≡ true) k h in cc

pub within_deeper : (n : ℕ) (form : Form) → Deeper (within n form) (within (suc n) form)
unfolding within
within_deeper zero form = beyond_deeper form
within_deeper (suc n) form = run_deeper (within n) (within (suc n)) (within_below n) (within_below (suc n)) (within_deeper n) (rule_of form) (firm_looped (rule_of form) (rules_firm form))
