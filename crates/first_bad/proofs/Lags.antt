-- Where less may be open, reading lags: it does the same, or stands for want of levels.
use Rattle.std.proofs.Common.{◌≡◌, ℕ, zero, suc, Bool, true, false, if◌then◌else◌, List, inl, inr, refl, ap, ◌∙◌, subst}
use Rattle.std.specs.Prelude.{◌⊎◌}
use Rattle.std.proofs.lemmas.Bool.{cases_Bool}
use Rattle.js_lexer.specs.declared.token.Token.{Token}
use Rattle.parser_rules.specs.declared.form.Form.{Form}
use Rattle.parser_rules.specs.declared.form.Why.TheVariants.{TooDeep}
use Rattle.parser_rules.specs.Work.{State, stuck}
use Rattle.parser_rules.specs.Rules.{Rule, Test, nothing_more, take, act, inside, ◌▸◌, either, many, refuse, passes, left, turns, repeated, run}
use Rattle.parser_rules.proofs.Laws.{Still, run_still}
use Rattle.first_bad.proofs.Front.{rest_of, Ends, Front, run_front, turns_front}

-- s stands for want of levels, and Gone holds of the tokens at which it stands and of those that t has left
abbrev pub Behind : (List Token → List Token → Type 0) → State → State → Type 0
Behind Gone s t = (us : List Token) × (s ≡ stuck TooDeep us) × Gone us (rest_of t)

abbrev pub Lag : (List Token → List Token → Type 0) → State → State → Type 0
Lag Gone s t = (s ≡ t) ⊎ Behind Gone s t

pub record Lags (Gone : List Token → List Token → Type 0) (f g : State → State) : Type 0 where
  pub lags : (s : State) → Lag Gone (f s) (g s)

module _ (Gone : List Token → List Token → Type 0) (further : (us x y : List Token) → Ends x y → Gone us y → Gone us x) where
  then_lags : (f g f' g' : State → State) → Still g → Front g' → Lags Gone f f' → Lags Gone g g' → (s : State) → Lag Gone (g (f s)) (g' (f' s))
  then_lags f g f' g' still front a b s = of (a.lags s)
    where
      of : Lag Gone (f s) (f' s) → Lag Gone (g (f s)) (g' (f' s))
      of (inl e) = subst (λ (m : State). Lag Gone (g (f s)) (g' m)) e (b.lags (f s))
      of (inr (us, e, p)) = inr (us, ap (λ (m : State). g m) e ∙ still.stays TooDeep us, further us (rest_of (g' (f' s))) (rest_of (f' s)) (front.ends (f' s)) p)

  module _ (test : Test) (f f' : State → State) (front : Front f') (l : Lags Gone f f') where
    turns_still : (n : ℕ) → Still (λ s. turns n (passes test) f s)
    unfolding turns passes
    turns_still zero = record { stays = λ why ts. refl }
    turns_still (suc n) = record { stays = λ why ts. refl }

    turns_lag : (n : ℕ) (s : State) → Lag Gone (turns n (passes test) f s) (turns n (passes test) f' s)
    unfolding turns
    turns_lag zero s = inl refl
    turns_lag (suc n) s = elim (cases_Bool (passes test s)) [
      | inl h ↦ rw h (then_lags f (λ m. turns n (passes test) f m) f' (λ m. turns n (passes test) f' m) (turns_still n) (record { ends = λ m. turns_front n (passes test) f' front m }) l (record { lags = λ m. turns_lag n m }) s)
      | inr h ↦ rw h (inl refl)
    ]

  module _ (at at' : Form → State → State) (still : (form : Form) → Still (at form)) (front : (form : Form) → Front (at' form)) (l : (form : Form) → Lags Gone (at form) (at' form)) where
    pub run_lags : (r : Rule) → Lags Gone (run at r) (run at' r)
    unfolding repeated
    run_lags nothing_more = record { lags = λ s. inl refl }
    run_lags (take test) = record { lags = λ s. inl refl }
    run_lags (act action) = record { lags = λ s. inl refl }
    run_lags (inside form) = l form
    run_lags (first ▸ second) = record { lags = λ s. then_lags (run at first) (run at second) (run at' first) (run at' second) (run_still at still second) (run_front at' front second) (run_lags first) (run_lags second) s }
    run_lags (either test first second) = record { lags = λ s. chosen (passes test s) s ((run_lags first).lags s) ((run_lags second).lags s) }
      where
        chosen : (b : Bool) (s : State) → Lag Gone (run at first s) (run at' first s) → Lag Gone (run at second s) (run at' second s) → Lag Gone (if b then run at first s else run at second s) (if b then run at' first s else run at' second s)
        chosen true s p q = p
        chosen false s p q = q
    run_lags (many test rule) = record { lags = λ s. turns_lag test (run at rule) (run at' rule) (run_front at' front rule) (run_lags rule) (left s) s }
    run_lags refuse = record { lags = λ s. inl refl }
