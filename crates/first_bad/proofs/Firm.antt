-- A rule that stops in front of a token has looked at nothing behind it, whatever `new` is there.
use Rattle.std.proofs.Common.{◌≡◌, Bool, true, false, ◌&&◌, ◌||◌, not, if◌then◌else◌, List, [], ◌∷◌, ◌++◌, length, inl, inr, refl, sym, ap, ◌∙◌, subst, append_assoc, arith, length-append}
use Rattle.std.specs.Prelude.{◌⊎◌}
use Rattle.std.proofs.lemmas.Bool.{cases_Bool}
use Rattle.js_syntax.specs.declared.kind.Kind.TheVariants as kinds
use Rattle.js_lexer.specs.declared.token.Token.{Token}
use Rattle.parser_rules.specs.declared.class.Class.{Class}
use Rattle.parser_rules.specs.declared.class.Class.TheVariants as classes
use Rattle.parser_rules.specs.declared.form.Cover.{Cover}
use Rattle.parser_rules.specs.declared.form.Why.{Why}
use Rattle.parser_rules.specs.declared.form.Why.TheVariants.{Unexpected}
use Rattle.parser_rules.specs.Classes.{class_of, is_one_of}
use Rattle.parser_rules.specs.Work.{Work, State, going, stuck}
use Rattle.parser_rules.specs.Rules.{Test, Action, sees, sees_other, sees_on_line, sees_word, sees_key, sees_nonzero, sees_passing, after_line, may_end, may_be_parameters, must_be_parameters, passes, passes_on, is_line, after, work_after, take_one, taken, refused, prefix_kind, operator_kind}
use Rattle.parser_rules.proofs.Laws.{Still, same_rest}
use Rattle.first_bad.proofs.Front.{rest_of, swap, Front, no_front, same_front}
use Rattle.first_bad.proofs.Views.{act_kinds, put, test_same}
use Rattle.first_bad.proofs.Words.{is_new, class_fixed, out, new_out, new_or_foreign}

abbrev pub goes : State → Bool
goes (going w) = true
goes (stuck why ts) = false

-- reading goes on in front of t, or t has one class before both ends
abbrev pub Stops : State → Token → List Token → List Token → Type 0
Stops s t v v' = (goes s ≡ true) ⊎ (class_of (t ∷ v) ≡ class_of (t ∷ v'))

abbrev pub FirmAt : (State → State) → State → Type 0
FirmAt f s = (p : List Token) (t : Token) (v v' : List Token) → rest_of s ≡ p ++ t ∷ v → rest_of (f s) ≡ t ∷ v → Stops (f s) t v v' → f (swap (p ++ t ∷ v') s) ≡ swap (t ∷ v') (f s)

pub record Firm (f : State → State) : Type 0 where
  pub alike : (s : State) → FirmAt f s

pub stuck_firm : (f : State → State) → Still f → (why : Why) (ts : List Token) → FirmAt f (stuck why ts)
stuck_firm f still why ts p t v v' e stop c =
    let here : ts ≡ t ∷ v = sym (ap (λ (s : State). rest_of s) (still.stays why ts)) ∙ stop in
    let none : p ≡ [] = no_front p (t ∷ v) (sym here ∙ e) in
    still.stays why (p ++ t ∷ v') ∙ ap (λ (q : List Token). stuck why (q ++ t ∷ v')) none ∙ ap (λ (s : State). swap (t ∷ v') s) (sym (still.stays why ts))

abbrev pub PutFirm : (State → State) → Type 0
PutFirm f = (w : Work) (p : List Token) (t : Token) (v v' : List Token) → rest_of (f (going (put (p ++ t ∷ v) w))) ≡ t ∷ v → Stops (f (going (put (p ++ t ∷ v) w))) t v v' → f (going (put (p ++ t ∷ v') w)) ≡ swap (t ∷ v') (f (going (put (p ++ t ∷ v) w)))

pub firm_from : (f : State → State) → Still f → PutFirm f → Firm f
firm_from f still l = record { alike = of }
  where
    of : (s : State) → FirmAt f s
    of (stuck why ts) = stuck_firm f still why ts
    of (going w) = λ p t v v' e stop c.
        let same : w ≡ put (p ++ t ∷ v) w = ap (λ (ts : List Token). put ts w) e in
        subst (λ (u : Work). rest_of (f (going u)) ≡ t ∷ v → Stops (f (going u)) t v v' → f (going (put (p ++ t ∷ v') u)) ≡ swap (t ∷ v') (f (going u))) (sym same) (λ stop' c'. l w p t v v' stop' c') stop c

-- ---- tests

-- the test does not tell `new` from foreign words
abbrev pub blind : Test → Bool
blind (sees cs) = out cs
blind (sees_other cs) = out cs
blind (sees_on_line cs) = out cs
blind sees_word = true
blind sees_key = true
blind sees_nonzero = true
blind sees_passing = true
blind after_line = true
blind may_end = true
blind may_be_parameters = true
blind must_be_parameters = true

new_same : (q : Token) (x y : List Token) (cs : List Class) → is_new q ≡ true → out cs ≡ true → is_one_of (class_of (q ∷ x)) cs ≡ is_one_of (class_of (q ∷ y)) cs
new_same q x y cs n h = new_out q x cs n h ∙ sym (new_out q y cs n h)

blind_new : (test : Test) (q : Token) (x y : List Token) (cover : Cover) → blind test ≡ true → is_new q ≡ true → passes_on test (q ∷ x) cover ≡ passes_on test (q ∷ y) cover
blind_new (sees cs) q x y cover h n = new_same q x y cs n h
blind_new (sees_other cs) q x y cover h n = ap (λ (b : Bool). not b) (new_same q x y cs n h)
blind_new (sees_on_line cs) q x y cover h n = ap (λ (b : Bool). b && not (is_line (q ∷ x))) (new_same q x y cs n h)
blind_new sees_word q x y cover h n = refl
blind_new sees_key q x y cover h n = refl
blind_new sees_nonzero q x y cover h n = refl
blind_new sees_passing q x y cover h n = refl
blind_new after_line q x y cover h n = refl
blind_new may_end q x y cover h n = ap (λ (b : Bool). b || is_line (q ∷ x)) (new_same q x y (classes.BraceClose ∷ classes.End ∷ []) n refl)
blind_new may_be_parameters q x y cover h n = refl
blind_new must_be_parameters q x y cover h n = refl

pub blind_same : (test : Test) (q : Token) (x y : List Token) (cover : Cover) → blind test ≡ true → passes_on test (q ∷ x) cover ≡ passes_on test (q ∷ y) cover
blind_same test q x y cover h = elim (cases_Bool (is_new q)) [
  | inl n ↦ blind_new test q x y cover h n
  | inr n ↦ test_same test q x y cover (class_fixed q x y n)
]

-- the tokens in view are one
pub blind_on : (test : Test) (p : List Token) (t : Token) (v v' : List Token) (cover : Cover) → blind test ≡ true → passes_on test (p ++ t ∷ v') cover ≡ passes_on test (p ++ t ∷ v) cover
blind_on test [] t v v' cover h = blind_same test t v' v cover h
blind_on test (q ∷ p) t v v' cover h = blind_same test q (p ++ t ∷ v') (p ++ t ∷ v) cover h

pub blind_passes : (test : Test) (s : State) (p : List Token) (t : Token) (v v' : List Token) → blind test ≡ true → rest_of s ≡ p ++ t ∷ v → passes test (swap (p ++ t ∷ v') s) ≡ passes test s
unfolding passes
blind_passes test (going w) p t v v' h e = blind_on test p t v v' w.top.cover h ∙ ap (λ (ts : List Token). passes_on test ts w.top.cover) (sym e)
blind_passes test (stuck why ts) p t v v' h e = refl

-- ---- steps

pub longer : (q : Token) (p x : List Token) → q ∷ (p ++ x) ≡ x → ⊥
longer q p x e = omega (arith, ap (λ (u : List Token). length u) e, length-append p x)

-- what a test that is passed, or is not, makes of a token
taken_if : Bool → List Token → Work → State
taken_if b ts w = if b then taken ts (put ts w) else stuck Unexpected ts

pub take_firm : (test : Test) → blind test ≡ true → Firm (take_one test)
unfolding take_one taken_if
take_firm test blinded = firm_from (take_one test) (record { stays = λ why ts. refl }) of
  where
    of : PutFirm (take_one test)
    of w [] t v v' stop c = elim (cases_Bool (passes_on test (t ∷ v) w.top.cover)) [
      | inl h ↦ absurd (longer t [] v (sym (subst (λ (b : Bool). rest_of (taken_if b (t ∷ v) w) ≡ t ∷ v) h stop)))
      | inr h ↦ rw (h, blind_same test t v' v w.top.cover blinded ∙ h) refl
    ]
    of w (q ∷ p) t v v' stop c = elim (cases_Bool (passes_on test (q ∷ (p ++ t ∷ v)) w.top.cover)) [
      | inl h ↦
          let none : p ≡ [] = no_front p (t ∷ v) (sym (subst (λ (b : Bool). rest_of (taken_if b (q ∷ (p ++ t ∷ v)) w) ≡ t ∷ v) h stop)) in
          rw (h, blind_same test q (p ++ t ∷ v') (p ++ t ∷ v) w.top.cover blinded ∙ h) (ap (λ (u : List Token). going (put (u ++ t ∷ v') w)) none)
      | inr h ↦ absurd (longer q p (t ∷ v) (subst (λ (b : Bool). rest_of (taken_if b (q ∷ (p ++ t ∷ v)) w) ≡ t ∷ v) h stop))
    ]

one_prefix : (q : Token) (x y : List Token) → prefix_kind (class_of (q ∷ x)) ≡ prefix_kind (class_of (q ∷ y))
one_prefix q x y = elim (cases_Bool (is_new q)) [
  | inl n ↦ none q x n ∙ sym (none q y n)
  | inr n ↦ ap (λ (c : Class). prefix_kind c) (class_fixed q x y n)
]
  where
    none : (q : Token) (x : List Token) → is_new q ≡ true → prefix_kind (class_of (q ∷ x)) ≡ kinds.Absent
    none q x n = elim (new_or_foreign q x n) [ inl h ↦ ap (λ (c : Class). prefix_kind c) h | inr h ↦ ap (λ (c : Class). prefix_kind c) h ]

one_operator : (q : Token) (x y : List Token) → operator_kind (class_of (q ∷ x)) ≡ operator_kind (class_of (q ∷ y))
one_operator q x y = elim (cases_Bool (is_new q)) [
  | inl n ↦ none q x n ∙ sym (none q y n)
  | inr n ↦ ap (λ (c : Class). operator_kind c) (class_fixed q x y n)
]
  where
    none : (q : Token) (x : List Token) → is_new q ≡ true → operator_kind (class_of (q ∷ x)) ≡ kinds.Absent
    none q x n = elim (new_or_foreign q x n) [ inl h ↦ ap (λ (c : Class). operator_kind c) h | inr h ↦ ap (λ (c : Class). operator_kind c) h ]

pub act_always : (action : Action) (q : Token) (x y : List Token) (w : Work) → work_after action (put (q ∷ y) w) ≡ put (q ∷ y) (work_after action (put (q ∷ x) w))
act_always action q x y w = act_kinds action q x y w (one_prefix q x y) (one_operator q x y)

pub act_firm : (action : Action) → Firm (after action)
unfolding after
act_firm action = firm_from (after action) (record { stays = λ why ts. refl }) of
  where
    of : PutFirm (after action)
    of w p t v v' stop c =
        let none : p ≡ [] = no_front p (t ∷ v) (sym stop ∙ same_rest action (put (p ++ t ∷ v) w)) in
        subst (λ (u : List Token). after action (going (put (u ++ t ∷ v') w)) ≡ swap (t ∷ v') (after action (going (put (u ++ t ∷ v) w)))) (sym none)
        (ap (λ (x : Work). going x) (act_always action t v v' w))

pub refuse_firm : Firm refused
unfolding refused
refuse_firm = firm_from refused (record { stays = λ why ts. refl }) of
  where
    of : PutFirm refused
    of w p t v v' stop c = let none : p ≡ [] = no_front p (t ∷ v) (sym stop) in ap (λ (u : List Token). stuck Unexpected (u ++ t ∷ v')) none

pub nothing_firm : Firm (λ s. s)
nothing_firm = record { alike = λ s p t v v' e stop c. let none : p ≡ [] = no_front p (t ∷ v) (sym stop ∙ e) in ap (λ (u : List Token). swap (u ++ t ∷ v') s) none }

-- ---- one after the other

goes_before : (g : State → State) → Still g → (m : State) → goes (g m) ≡ true → goes m ≡ true
goes_before g still (going w) h = refl
goes_before g still (stuck why ts) h = subst (λ (s : State). goes s ≡ true) (still.stays why ts) h

-- where more was taken, reading went on before
goes_since : (g : State → State) → Still g → (m : State) (q : Token) (p x : List Token) → rest_of m ≡ q ∷ (p ++ x) → rest_of (g m) ≡ x → goes m ≡ true
goes_since g still (going w) q p x e f = refl
goes_since g still (stuck why ts) q p x e f = absurd (longer q p x (sym e ∙ sym (ap (λ (s : State). rest_of s) (still.stays why ts)) ∙ f))

pub then_firm : (f g : State → State) → Still g → Front f → Front g → (s : State) → FirmAt f s → FirmAt g (f s) → FirmAt (λ m. g (f m)) s
then_firm f g still ff gf s lf lg p t v v' e stop c =
    let (p1, e1) = ff.ends s in
    let (p2, e2) = gf.ends (f s) in
    let mid : rest_of (f s) ≡ p2 ++ t ∷ v = e2 ∙ ap (λ (u : List Token). p2 ++ u) stop in
    let e1' : rest_of s ≡ p1 ++ (p2 ++ t ∷ v) = e1 ∙ ap (λ (u : List Token). p1 ++ u) mid in
    let parts : p ≡ p1 ++ p2 = same_front p (p1 ++ p2) (t ∷ v) (sym e ∙ e1' ∙ sym (append_assoc p1 p2 (t ∷ v))) in
    ap (λ (u : List Token). g (f (swap (u ++ t ∷ v') s))) parts
    ∙ ap (λ (u : List Token). g (f (swap u s))) (append_assoc p1 p2 (t ∷ v'))
    ∙ ap (λ (m : State). g m) (first_part p1 p2 e1' mid)
    ∙ lg p2 t v v' mid stop c
  where
    passed_on : Stops (g (f s)) t v v' → Stops (f s) t v v'
    passed_on (inl h) = inl (goes_before g still (f s) h)
    passed_on (inr h) = inr h

    first_part : (p1 p2 : List Token) → rest_of s ≡ p1 ++ (p2 ++ t ∷ v) → rest_of (f s) ≡ p2 ++ t ∷ v → f (swap (p1 ++ (p2 ++ t ∷ v')) s) ≡ swap (p2 ++ t ∷ v') (f s)
    first_part p1 [] e1 mid = lf p1 t v v' e1 mid (passed_on c)
    first_part p1 (q ∷ p2) e1 mid = lf p1 q (p2 ++ t ∷ v) (p2 ++ t ∷ v') e1 mid (inl (goes_since g still (f s) q p2 (t ∷ v) mid stop))
