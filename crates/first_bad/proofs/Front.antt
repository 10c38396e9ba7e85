-- What is left is always the end of what there was.
use Rattle.std.proofs.Common.{◌≡◌, ℕ, zero, suc, Bool, true, false, if◌then◌else◌, List, [], ◌∷◌, ◌++◌, length, inl, inr, refl, sym, ap, ◌∙◌, append_assoc, arith, length-append}
use Rattle.std.proofs.lemmas.Bool.{cases_Bool}
use Rattle.js_lexer.specs.declared.token.Token.{Token}
use Rattle.parser_rules.specs.declared.form.Form.{Form}
use Rattle.parser_rules.specs.declared.form.Why.TheVariants.{Unexpected}
use Rattle.parser_rules.specs.Work.{Work, State, going, stuck}
use Rattle.parser_rules.specs.Rules.{Test, Action, Rule, nothing_more, take, act, inside, ◌▸◌, either, many, refuse, passes, passes_on, after, take_one, taken, refused, left, turns, repeated, run}
use Rattle.parser_rules.specs.Grammar.{within, beyond, rule_of}
use Rattle.parser_rules.proofs.Laws.{same_rest}

-- the tokens that are left, or that reading stands at
abbrev pub rest_of : State → List Token
rest_of (going w) = w.rest
rest_of (stuck why ts) = ts

-- the same with other tokens left
abbrev pub swap : List Token → State → State
swap ts (going w) = going (record w { rest = ts })
swap ts (stuck why us) = stuck why ts

-- x is an end of y
abbrev pub Ends : List Token → List Token → Type 0
Ends x y = (p : List Token) × (y ≡ p ++ x)

pub ends_trans : (x y z : List Token) → Ends x y → Ends y z → Ends x z
ends_trans x y z (p, e) (q, f) = (q ++ p, f ∙ ap (λ (u : List Token). q ++ u) e ∙ sym (append_assoc q p x))

pub record Front (f : State → State) : Type 0 where
  pub ends : (s : State) → Ends (rest_of (f s)) (rest_of s)

-- ---- steps

take_front : (test : Test) → Front (take_one test)
unfolding take_one
take_front test = record { ends = of }
  where
    on : (ts : List Token) (w : Work) → w.rest ≡ ts → Ends (rest_of (taken ts w)) w.rest
    on [] w e = ([], e)
    on (t ∷ ts) w e = (t ∷ [], e)

    either_way : (b : Bool) (w : Work) → Ends (rest_of (if b then taken w.rest w else stuck Unexpected w.rest)) w.rest
    either_way true w = on w.rest w refl
    either_way false w = ([], refl)

    of : (s : State) → Ends (rest_of (take_one test s)) (rest_of s)
    of (going w) = either_way (passes_on test w.rest w.top.cover) w
    of (stuck why ts) = ([], refl)

act_front : (action : Action) → Front (after action)
unfolding after
act_front action = record { ends = of }
  where
    of : (s : State) → Ends (rest_of (after action s)) (rest_of s)
    of (going w) = ([], sym (same_rest action w))
    of (stuck why ts) = ([], refl)

refuse_front : Front refused
unfolding refused
refuse_front = record { ends = of }
  where
    of : (s : State) → Ends (rest_of (refused s)) (rest_of s)
    of (going w) = ([], refl)
    of (stuck why ts) = ([], refl)

pub turns_front : (n : ℕ) (test : State → Bool) (turn : State → State) → Front turn → (s : State) → Ends (rest_of (turns n test turn s)) (rest_of s)
unfolding turns
turns_front zero test turn f s = ([], refl)
turns_front (suc n) test turn f s = elim (cases_Bool (test s)) [
  | inl h ↦ rw h (ends_trans (rest_of (turns n test turn (turn s))) (rest_of (turn s)) (rest_of s) (turns_front n test turn f (turn s)) (f.ends s))
  | inr h ↦ rw h ([], refl)
]

repeated_front : (test : State → Bool) (turn : State → State) → Front turn → Front (repeated test turn)
unfolding repeated
repeated_front test turn f = record { ends = λ s. turns_front (left s) test turn f s }

-- ---- rules

pub run_front : (at : Form → State → State) → ((form : Form) → Front (at form)) → (r : Rule) → Front (run at r)
run_front at i nothing_more = record { ends = λ s. ([], refl) }
run_front at i (take test) = take_front test
run_front at i (act action) = act_front action
run_front at i (inside form) = i form
run_front at i (first ▸ second) =
    record { ends = λ s. ends_trans (rest_of (run at second (run at first s))) (rest_of (run at first s)) (rest_of s) ((run_front at i second).ends (run at first s)) ((run_front at i first).ends s) }
run_front at i (either test first second) = record { ends = λ s. chosen (passes test s) s ((run_front at i first).ends s) ((run_front at i second).ends s) }
  where
    chosen : (b : Bool) (s : State) → Ends (rest_of (run at first s)) (rest_of s) → Ends (rest_of (run at second s)) (rest_of s) → Ends (rest_of (if b then run at first s else run at second s)) (rest_of s)
    chosen true s p q = p
    chosen false s p q = q
run_front at i (many test rule) = repeated_front (passes test) (run at rule) (run_front at i rule)
run_front at i refuse = refuse_front

beyond_front : (form : Form) → Front (beyond form)
beyond_front form = record { ends = of }
  where
    of : (s : State) → Ends (rest_of (beyond form s)) (rest_of s)
    of (going w) = ([], refl)
    of (stuck why ts) = ([], refl)

pub within_front : (n : ℕ) (form : Form) → Front (within n form)
unfolding within
within_front zero form = beyond_front form
within_front (suc n) form = run_front (within n) (within_front n) (rule_of form)

-- ---- lists that end alike

pub no_front : (p x : List Token) → x ≡ p ++ x → p ≡ []
no_front [] x e = refl
no_front (t ∷ p) x e = absurd (omega (arith, ap (λ (u : List Token). length u) e, length-append p x))

tail_of : List Token → List Token
tail_of [] = []
tail_of (t ∷ ts) = ts

pub same_tail : (q r : Token) (x y : List Token) → q ∷ x ≡ r ∷ y → x ≡ y
unfolding tail_of
same_tail q r x y e = ap (λ (z : List Token). tail_of z) e

head_or : List Token → Token → Token
head_or [] d = d
head_or (t ∷ ts) d = t

-- two fronts of one list before the same end are one
pub same_front : (p q x : List Token) → p ++ x ≡ q ++ x → p ≡ q
unfolding head_or tail_of
same_front [] q x e = sym (no_front q x e)
same_front (t ∷ p) [] x e = no_front (t ∷ p) x (sym e)
same_front (t ∷ p) (u ∷ q) x e =
    let h : t ≡ u = ap (λ (z : List Token). head_or z t) e in
    let r : p ≡ q = same_front p q x (ap (λ (z : List Token). tail_of z) e) in
    λ i. h i ∷ r i
