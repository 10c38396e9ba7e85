-- What every rule does: it takes tokens, or stands still.
use Rattle.std.proofs.Common.{◌≡◌, ℕ, zero, suc, ◌+◌, ◌<◌, ◌≤◌, Bool, true, false, ◌&&◌, ◌||◌, not, cond, if◌then◌else◌, List, [], ◌∷◌, length, inl, inr, Option, None, Some, refl, sym, ap, ◌∙◌, subst, arith}
use Rattle.std.proofs.lemmas.Bool.{cases_Bool}
use Rattle.std.specs.Prelude.{◌⊎◌}
use Rattle.js_syntax.specs.declared.kind.Kind.{Kind}
use Rattle.js_lexer.specs.declared.token.Token.{Token}
use Rattle.parser_rules.specs.declared.form.Form.{Form}
use Rattle.parser_rules.specs.declared.form.Why.{Why}
use Rattle.parser_rules.specs.declared.form.Why.TheVariants.{Unexpected}
use Rattle.parser_rules.specs.Work.{Work, State, going, stuck, preceded_by, closed_in, paired_of, unwrapped_in, named_by, declared_by, keyed_by, valued_by, shorthand_of, last_name, offered_part, offered_as, bare_name, Part, Frame}
use Rattle.parser_rules.specs.Rules.{Test, Action, Rule, nothing_more, take, act, inside, ◌▸◌, either, many, refuse, passes, passes_on, after, work_after, take_one, taken, refused, left, turns, repeated, run, open_form, open_prefix, precede, precede_operator, close, pair, unwrap, name_it, declare, key, value, shorthand, offer, parameters_only, clear, omit}

-- whether a rule takes a token, where reading goes on after it
abbrev pub takes : Rule → Bool
takes nothing_more = false
takes (take test) = true
takes (act action) = false
takes (inside form) = true
takes (first ▸ second) = takes first || takes second
takes (either test first second) = takes first && takes second
takes (many test rule) = false
takes refuse = true

-- never more is left
pub record Keeps (f : State → State) : Type 0 where
  pub at_most : (s : State) → left (f s) ≤ left s

-- less is left, unless reading stood already
pub record Eats (f : State → State) : Type 0 where
  pub less : (s : State) → 0 < left s → left (f s) < left s

pub keeps_from_eats : (f : State → State) → Eats f → ((why : Why) (ts : List Token) → f (stuck why ts) ≡ stuck why ts) → Keeps f
keeps_from_eats f e still = record { at_most = λ s. all s }
  where
    all : (s : State) → left (f s) ≤ left s
    all (going w) = omega (arith, (e.less (going w)))
    all (stuck why ts) = rw (still why ts) (omega arith)

-- ---- tokens and actions

pub take_eats : (test : Test) → Eats (take_one test)
unfolding take_one
take_eats test = record { less = λ s. of s }
  where
    on : (ts : List Token) (w : Work) → w.rest ≡ ts → left (taken ts w) < suc (length w.rest)
    on [] w e = omega arith
    on (t ∷ ts) w e = omega (arith, ap length e)

    either_way : (b : Bool) (w : Work) → left (if b then taken w.rest w else stuck Unexpected w.rest) < suc (length w.rest)
    either_way true w = on w.rest w refl
    either_way false w = omega arith

    of : (s : State) → 0 < left s → left (take_one test s) < left s
    of (going w) h = either_way (passes_on test w.rest w.top.cover) w
    of (stuck why ts) h = absurd (omega arith)

pub take_keeps : (test : Test) → Keeps (take_one test)
unfolding take_one
take_keeps test = keeps_from_eats (take_one test) (take_eats test) (λ why ts. refl)

pub refuse_eats : Eats refused
unfolding refused
refuse_eats = record { less = λ s. of s }
  where
    of : (s : State) → 0 < left s → left (refused s) < left s
    of (going w) h = omega arith
    of (stuck why ts) h = absurd (omega arith)

pub refuse_keeps : Keeps refused
unfolding refused
refuse_keeps = keeps_from_eats refused refuse_eats (λ why ts. refl)

preceded_rest : (kind : Kind) (ps : List Part) (w : Work) → (preceded_by kind ps w).rest ≡ w.rest
preceded_rest kind [] w = refl
preceded_rest kind (p ∷ ps) w = refl

closed_rest : (fs : List Frame) (w : Work) → (closed_in fs w).rest ≡ w.rest
closed_rest [] w = refl
closed_rest (f ∷ fs) w = refl

paired_rest : (kind : Kind) (ps : List Part) (w : Work) → (paired_of kind ps w).rest ≡ w.rest
paired_rest kind [] w = refl
paired_rest kind (p ∷ []) w = refl
paired_rest kind (p ∷ q ∷ ps) w = refl

unwrapped_rest : (ps : List Part) (fs : List Frame) (w : Work) → (unwrapped_in ps fs w).rest ≡ w.rest
unwrapped_rest [] fs w = refl
unwrapped_rest (p ∷ ps) [] w = refl
unwrapped_rest (p ∷ ps) (f ∷ fs) w = refl

named_rest : (ts : List Token) (w : Work) → (named_by ts w).rest ≡ w.rest
named_rest [] w = refl
named_rest (t ∷ ts) w = refl

declared_rest : (ts : List Token) (w : Work) → (declared_by ts w).rest ≡ w.rest
declared_rest [] w = refl
declared_rest (t ∷ ts) w = refl

keyed_rest : (ts : List Token) (w : Work) → (keyed_by ts w).rest ≡ w.rest
keyed_rest [] w = refl
keyed_rest (t ∷ ts) w = refl

valued_rest : (ts : List Token) (w : Work) → (valued_by ts w).rest ≡ w.rest
valued_rest [] w = refl
valued_rest (t ∷ ts) w = refl

shorthand_rest : (p : Option (List ℕ × ℕ)) (w : Work) → (shorthand_of p w).rest ≡ w.rest
shorthand_rest None w = refl
shorthand_rest (Some p) w = refl

offered_as_rest : (p : Option (List ℕ × ℕ)) (w : Work) → (offered_as p w).rest ≡ w.rest
offered_as_rest None w = refl
offered_as_rest (Some p) w = refl

offered_rest : (ps : List Part) (w : Work) → (offered_part ps w).rest ≡ w.rest
offered_rest [] w = refl
offered_rest (p ∷ ps) w = offered_as_rest (bare_name p) w

-- no action takes a token
pub same_rest : (action : Action) (w : Work) → (work_after action w).rest ≡ w.rest
same_rest (open_form kind) w = refl
same_rest open_prefix w = refl
same_rest (precede kind) w = preceded_rest kind w.top.parts w
same_rest precede_operator w = preceded_rest _ w.top.parts w
same_rest close w = closed_rest w.below w
same_rest (pair kind) w = paired_rest kind w.top.parts w
same_rest unwrap w = unwrapped_rest w.top.parts w.below w
same_rest name_it w = named_rest w.rest w
same_rest declare w = declared_rest w.rest w
same_rest key w = keyed_rest w.rest w
same_rest value w = valued_rest w.rest w
same_rest shorthand w = shorthand_rest (last_name w.top.names w.top.places) w
same_rest offer w = offered_rest w.top.parts w
same_rest parameters_only w = refl
same_rest clear w = refl
same_rest omit w = refl

pub after_keeps : (action : Action) → Keeps (after action)
unfolding after
after_keeps action = record { at_most = λ s. of s }
  where
    of : (s : State) → left (after action s) ≤ left s
    of (going w) = omega (arith, ap (λ (ts : List Token). length ts) (same_rest action w))
    of (stuck why ts) = omega arith

-- ---- turns

pub turns_keep : (n : ℕ) (test : State → Bool) (turn : State → State) → Keeps turn → (s : State) → left (turns n test turn s) ≤ left s
unfolding turns
turns_keep zero test turn k s = omega arith
turns_keep (suc n) test turn k s = elim (cases_Bool (test s)) [
  | inl h ↦ rw h (omega (arith, turns_keep n test turn k (turn s), k.at_most s))
  | inr h ↦ rw h (omega arith)
]

-- where the test is passed, a turn takes a token
pub record Turning (test : State → Bool) (turn : State → State) : Type 0 where
  pub less : (s : State) → test s ≡ true → left (turn s) < left s

turns_stop : (n : ℕ) (test : State → Bool) (turn : State → State) (s : State) → test s ≡ false → turns n test turn s ≡ s
unfolding turns
turns_stop zero test turn s h = refl
turns_stop (suc n) test turn s h = rw h refl

turns_go : (n : ℕ) (test : State → Bool) (turn : State → State) (s : State) → test s ≡ true → turns (suc n) test turn s ≡ turns n test turn (turn s)
unfolding turns
turns_go n test turn s h = rw h refl

-- as many turns as there are tokens are enough
turns_enough : (n m : ℕ) (test : State → Bool) (turn : State → State) → Turning test turn → (s : State) → left s ≤ n → left s ≤ m → turns n test turn s ≡ turns m test turn s
turns_enough zero m test turn t s p q = elim (cases_Bool (test s)) [
  | inl h ↦ absurd (omega (arith, t.less s h))
  | inr h ↦ turns_stop zero test turn s h ∙ sym (turns_stop m test turn s h)
]
turns_enough (suc n) zero test turn t s p q = elim (cases_Bool (test s)) [
  | inl h ↦ absurd (omega (arith, t.less s h))
  | inr h ↦ turns_stop (suc n) test turn s h ∙ sym (turns_stop zero test turn s h)
]
turns_enough (suc n) (suc m) test turn t s p q = elim (cases_Bool (test s)) [
  | inl h ↦ turns_go n test turn s h ∙ turns_enough n m test turn t (turn s) (omega (arith, t.less s h)) (omega (arith, t.less s h)) ∙ sym (turns_go m test turn s h)
  | inr h ↦ turns_stop (suc n) test turn s h ∙ sym (turns_stop (suc m) test turn s h)
]

pub repeated_go : (test : State → Bool) (turn : State → State) → Turning test turn → (s : State) → test s ≡ true → repeated test turn s ≡ repeated test turn (turn s)
unfolding repeated
repeated_go test turn t s h =
    turns_enough (left s) (suc (left s)) test turn t s (omega arith) (omega arith)
    ∙ turns_go (left s) test turn s h
    ∙ turns_enough (left s) (left (turn s)) test turn t (turn s) (omega (arith, t.less s h)) (omega arith)

pub repeated_end : (test : State → Bool) (turn : State → State) (s : State) → test s ≡ false → repeated test turn s ≡ s
unfolding repeated
repeated_end test turn s h = turns_stop (left s) test turn s h

pub repeated_keeps : (test : State → Bool) (turn : State → State) → Keeps turn → Keeps (repeated test turn)
unfolding repeated
repeated_keeps test turn k = record { at_most = λ s. turns_keep (left s) test turn k s }

-- ---- rules

-- what stands further inside takes tokens
pub record Inside (at : Form → State → State) : Type 0 where
  pub eats : (form : Form) → Eats (at form)
  pub keeps : (form : Form) → Keeps (at form)

nothing_or_more : (n : ℕ) → (n ≡ 0) ⊎ (0 < n)
nothing_or_more zero = inl refl
nothing_or_more (suc n) = inr (omega arith)

or_cases : (a b : Bool) → (a || b) ≡ true → (a ≡ true) ⊎ (b ≡ true)
or_cases true b h = inl refl
or_cases false b h = inr h

and_cases : (a b : Bool) → (a && b) ≡ true → (a ≡ true) × (b ≡ true)
and_cases true b h = (refl, h)
and_cases false b h = absurd (let none : ⊥ = cc in none)

pub run_keeps : (at : Form → State → State) → Inside at → (r : Rule) → Keeps (run at r)
run_keeps at i nothing_more = record { at_most = λ s. omega arith }
run_keeps at i (take test) = take_keeps test
run_keeps at i (act action) = after_keeps action
run_keeps at i (inside form) = i.keeps form
run_keeps at i (first ▸ second) = record { at_most = λ s. omega (arith, (run_keeps at i first).at_most s, (run_keeps at i second).at_most (run at first s)) }
run_keeps at i (either test first second) = record { at_most = λ s. chosen (passes test s) s ((run_keeps at i first).at_most s) ((run_keeps at i second).at_most s) }
  where
    chosen : (b : Bool) (s : State) → left (run at first s) ≤ left s → left (run at second s) ≤ left s → left (if b then run at first s else run at second s) ≤ left s
    chosen true s p q = p
    chosen false s p q = q
run_keeps at i (many test rule) = repeated_keeps (passes test) (run at rule) (run_keeps at i rule)
run_keeps at i refuse = refuse_keeps

eats_none : {f : State → State} → false ≡ true → Eats f
eats_none e = absurd (let none : ⊥ = cc in none)

pub run_eats : (at : Form → State → State) → Inside at → (r : Rule) → takes r ≡ true → Eats (run at r)
run_eats at i nothing_more e = eats_none e
run_eats at i (take test) e = take_eats test
run_eats at i (act action) e = eats_none e
run_eats at i (inside form) e = i.eats form
run_eats at i (first ▸ second) e = elim (or_cases (takes first) (takes second) e) [
  | inl h ↦ record { less = λ s p. omega (arith, (run_eats at i first h).less s p, (run_keeps at i second).at_most (run at first s)) }
  | inr h ↦ record { less = λ s p. later s p (run at first s) ((run_keeps at i first).at_most s) ((run_keeps at i second).at_most (run at first s)) (λ q. (run_eats at i second h).less (run at first s) q) }
]
  where
    later : (s : State) → 0 < left s → (m : State) → left m ≤ left s → left (run at second m) ≤ left m → (0 < left m → left (run at second m) < left m) → left (run at second m) < left s
    later s p m a b f = elim (nothing_or_more (left m)) [ inl z ↦ omega arith | inr q ↦ omega (arith, f q) ]
run_eats at i (either test first second) e =
    let (p, q) = and_cases (takes first) (takes second) e in
    record { less = λ s h. chosen (passes test s) s ((run_eats at i first p).less s h) ((run_eats at i second q).less s h) }
  where
    chosen : (b : Bool) (s : State) → left (run at first s) < left s → left (run at second s) < left s → left (if b then run at first s else run at second s) < left s
    chosen true s p q = p
    chosen false s p q = q
run_eats at i (many test rule) e = eats_none e
run_eats at i refuse e = refuse_eats

-- where a test is passed, reading goes on
pub passed_goes : (test : Test) (s : State) → passes test s ≡ true → 0 < left s
unfolding passes
passed_goes test (going w) h = omega arith
passed_goes test (stuck why ts) h = absurd (let none : ⊥ = cc in none)

pub turning : (at : Form → State → State) → Inside at → (test : Test) (r : Rule) → takes r ≡ true → Turning (passes test) (run at r)
turning at i test r e = record { less = λ s h. (run_eats at i r e).less s (passed_goes test s h) }

-- ---- where reading stands, it stays

pub record Still (f : State → State) : Type 0 where
  pub stays : (why : Why) (ts : List Token) → f (stuck why ts) ≡ stuck why ts

pub run_still : (at : Form → State → State) → ((form : Form) → Still (at form)) → (r : Rule) → Still (run at r)
unfolding take_one after passes repeated turns refused
run_still at i nothing_more = record { stays = λ why ts. refl }
run_still at i (take test) = record { stays = λ why ts. refl }
run_still at i (act action) = record { stays = λ why ts. refl }
run_still at i (inside form) = i form
run_still at i (first ▸ second) = record { stays = λ why ts. ap (λ (s : State). run at second s) ((run_still at i first).stays why ts) ∙ (run_still at i second).stays why ts }
run_still at i (either test first second) = record { stays = λ why ts. (run_still at i second).stays why ts }
run_still at i (many test rule) = record { stays = λ why ts. refl }
run_still at i refuse = record { stays = λ why ts. refl }
