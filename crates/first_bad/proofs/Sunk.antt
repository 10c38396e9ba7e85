-- Where a `new` that begins a construction is refused, one that begins none is refused too.
use Rattle.std.proofs.Common.{◌≡◌, ℕ, zero, suc, ◌≤◌, Bool, true, false, ◌&&◌, ◌||◌, not, if◌then◌else◌, List, [], ◌∷◌, ◌++◌, codes, bytes_eq, inl, inr, refl, sym, ap, ◌∙◌, subst, append_assoc, arith}
use Rattle.std.proofs.lemmas.Bool.{cases_Bool}
use Rattle.js_lexer.specs.declared.token.Token.{Token}
use Rattle.parser_rules.specs.declared.class.Class.{Class}
use Rattle.parser_rules.specs.declared.class.Class.TheVariants as classes
use Rattle.parser_rules.specs.declared.form.Form.{Form}
use Rattle.parser_rules.specs.declared.form.Form.TheVariants.{Expression, Prefix, Statement, Item, Block, Literal}
use Rattle.parser_rules.specs.declared.form.Why.{Why}
use Rattle.parser_rules.specs.declared.form.Why.TheVariants.{Unexpected, TooDeep}
use Rattle.parser_rules.specs.Classes.{class_of, is_one_of, begins_construction, is_among, constructors, is_punct_token, is_word_token}
use Rattle.parser_rules.specs.Work.{Work, State, going, stuck}
use Rattle.parser_rules.specs.Rules.{Test, Rule, nothing_more, take, act, inside, ◌▸◌, either, many, refuse, passes, passes_on, take_one, taken, refused, after, work_after, left, run}
use Rattle.parser_rules.specs.Grammar.{within, beyond, rule_of, begins}
use Rattle.parser_rules.proofs.Laws.{takes, Still, run_still}
use Rattle.first_bad.proofs.Begins.{both, either_of, shuts}
use Rattle.first_bad.proofs.Front.{rest_of, swap, Front, run_front, no_front, same_front}
use Rattle.first_bad.proofs.Views.{put, test_same}
use Rattle.first_bad.proofs.Turns.{loop, loop_ends, loop_front, loop_goes, turn_front, turn_less}
use Rattle.first_bad.proofs.Words.{is_new, class_fixed, class_of_new, new_or_not, name_not_new, not_true, Opening, new_opens}
use Rattle.first_bad.proofs.Far.{unit, far, unit_heads, by_class}
use Rattle.first_bad.proofs.Walk.{sees_class}
use Rattle.first_bad.proofs.Firm.{goes, Firm, blind, blind_on, blind_passes, longer}
use Rattle.first_bad.proofs.FirmRules.{Firmly, firm, run_firm, apart, plain, class_near, foreign_shut, unit_shuts}
use Rattle.first_bad.proofs.FirmTable.{rules_firm, within_firmly}

-- `new` begins a construction before one end, and none before the other
pub record Turned (n : Token) (u u' : List Token) : Type 0 where
  pub word : is_new n ≡ true
  pub was : class_of (n ∷ u) ≡ classes.New
  pub becomes : class_of (n ∷ u') ≡ classes.Foreign

abbrev pub SunkAt : (State → State) → Work → Type 0
SunkAt f w = (p : List Token) (n : Token) (u u' : List Token) (why : Why) → Turned n u u' → f (going (put (p ++ n ∷ u) w)) ≡ stuck why (n ∷ u) → f (going (put (p ++ n ∷ u') w)) ≡ stuck Unexpected (n ∷ u')

pub record Sunk (f : State → State) : Type 0 where
  pub also : (w : Work) → SunkAt f w

pub going_stuck : {A : Type 0} (w : Work) (why : Why) (ts : List Token) → going w ≡ stuck why ts → A
going_stuck w why ts e = absurd (let never : true ≡ false = ap (λ (s : State). goes s) e in cc)

rest_same : (s : State) (why : Why) (ts : List Token) → s ≡ stuck why ts → rest_of s ≡ ts
rest_same s why ts e = ap (λ (x : State). rest_of x) e

-- ---- the token in view

new_no_name : (n : Token) (x : List Token) → is_new n ≡ true → begins_construction (n ∷ x) ≡ false
new_no_name n x h = elim (cases_Bool (begins_construction (n ∷ x))) [
  | inr k ↦ k
  | inl k ↦ absurd (never x k)
]
  where
    never : (x : List Token) → begins_construction (n ∷ x) ≡ true → ⊥
    never [] k = cc
    never (o ∷ x) k =
        let listed = is_among constructors n.text in
        let ispunct = is_punct_token o.kind in
        let (r, _) = both (is_word_token n.kind && listed && ispunct) (bytes_eq (codes "(") o.text) k in
        let (r', _) = both (is_word_token n.kind && listed) ispunct r in
        let (_, b) = both (is_word_token n.kind) listed r' in
        let no : true ≡ false = sym h ∙ name_not_new n b in
        cc

pub class_turned : (q : Token) (p : List Token) (n : Token) (u u' : List Token) → is_new n ≡ true → class_of (q ∷ (p ++ n ∷ u)) ≡ class_of (q ∷ (p ++ n ∷ u'))
class_turned q p n u u' h = elim (cases_Bool (is_new q)) [
  | inr k ↦ class_fixed q (p ++ n ∷ u) (p ++ n ∷ u') k
  | inl k ↦ of p k
]
  where
    of : (p : List Token) → is_new q ≡ true → class_of (q ∷ (p ++ n ∷ u)) ≡ class_of (q ∷ (p ++ n ∷ u'))
    of [] k = class_of_new q (n ∷ u) k ∙ ap (λ (b : Bool). if b then classes.New else classes.Foreign) (new_no_name n u h ∙ sym (new_no_name n u' h)) ∙ sym (class_of_new q (n ∷ u') k)
    of (b ∷ p) k = class_near q b p n u u' k

same_before : (test : Test) (q : Token) (p : List Token) (n : Token) (u u' : List Token) (w : Work) → is_new n ≡ true → passes test (going (put (q ∷ (p ++ n ∷ u')) w)) ≡ passes test (going (put (q ∷ (p ++ n ∷ u)) w))
unfolding passes
same_before test q p n u u' w h = sym (test_same test q (p ++ n ∷ u) (p ++ n ∷ u') w.top.cover (class_turned q p n u u' h))

-- ---- one after the other

-- what is asked of what comes second
abbrev Next : (State → State) → Work → Token → List Token → List Token → Why → Type 0
Next g m n u u' why = (p : List Token) → m.rest ≡ p ++ n ∷ u → g (going m) ≡ stuck why (n ∷ u) → g (going (put (p ++ n ∷ u') m)) ≡ stuck Unexpected (n ∷ u')

next_from : (g : State → State) → Sunk g → (m : Work) (n : Token) (u u' : List Token) (why : Why) → Turned n u u' → Next g m n u u' why
next_from g l m n u u' why t p e k =
    let same : m ≡ put (p ++ n ∷ u) m = ap (λ (ts : List Token). put ts m) e in
    l.also m p n u u' why t (ap (λ (x : Work). g (going x)) (sym same) ∙ k)

then_sunk : (f g : State → State) → Still g → Front f → Front g → Firm f → Sunk f → (w : Work) (p : List Token) (n : Token) (u u' : List Token) (why : Why) → Turned n u u' → ((m : Work) → f (going (put (p ++ n ∷ u) w)) ≡ going m → Next g m n u u' why) → g (f (going (put (p ++ n ∷ u) w))) ≡ stuck why (n ∷ u) → g (f (going (put (p ++ n ∷ u') w))) ≡ stuck Unexpected (n ∷ u')
then_sunk f g still ff gf steady lf w p n u u' why t lg e = of (f (going (put (p ++ n ∷ u) w))) refl
  where
    first_part : (p1 p2 : List Token) (m : Work) → p ++ n ∷ u ≡ p1 ++ (p2 ++ n ∷ u) → f (going (put (p ++ n ∷ u) w)) ≡ going m → m.rest ≡ p2 ++ n ∷ u → f (going (put (p1 ++ (p2 ++ n ∷ u')) w)) ≡ going (put (p2 ++ n ∷ u') m)
    first_part p1 [] m a k mid =
        steady.alike (going (put (p ++ n ∷ u) w)) p1 n u u' a (ap (λ (s : State). rest_of s) k ∙ mid) (inl (ap (λ (s : State). goes s) k)) ∙ ap (λ (s : State). swap (n ∷ u') s) k
    first_part p1 (q ∷ p2) m a k mid =
        steady.alike (going (put (p ++ n ∷ u) w)) p1 q (p2 ++ n ∷ u) (p2 ++ n ∷ u') a (ap (λ (s : State). rest_of s) k ∙ mid) (inl (ap (λ (s : State). goes s) k)) ∙ ap (λ (s : State). swap (q ∷ (p2 ++ n ∷ u')) s) k

    of : (m : State) → f (going (put (p ++ n ∷ u) w)) ≡ m → g (f (going (put (p ++ n ∷ u') w))) ≡ stuck Unexpected (n ∷ u')
    of (stuck why' ts) k =
        let here : stuck why' ts ≡ stuck why (n ∷ u) = sym (still.stays why' ts) ∙ ap (λ (s : State). g s) (sym k) ∙ e in
        ap (λ (s : State). g s) (lf.also w p n u u' why t (k ∙ here)) ∙ still.stays Unexpected (n ∷ u')
    of (going m) k =
        let (p2, e2) = gf.ends (going m) in
        let last : g (going m) ≡ stuck why (n ∷ u) = ap (λ (s : State). g s) (sym k) ∙ e in
        let mid : m.rest ≡ p2 ++ n ∷ u = e2 ∙ ap (λ (x : List Token). p2 ++ x) (rest_same (g (going m)) why (n ∷ u) last) in
        let (p1, e1) = ff.ends (going (put (p ++ n ∷ u) w)) in
        let all : p ++ n ∷ u ≡ (p1 ++ p2) ++ n ∷ u = e1 ∙ ap (λ (x : List Token). p1 ++ x) (ap (λ (s : State). rest_of s) k ∙ mid) ∙ sym (append_assoc p1 p2 (n ∷ u)) in
        let parts : p ≡ p1 ++ p2 = same_front p (p1 ++ p2) (n ∷ u) all in
        ap (λ (x : List Token). g (f (going (put (x ++ n ∷ u') w)))) parts
        ∙ ap (λ (x : List Token). g (f (going (put x w)))) (append_assoc p1 p2 (n ∷ u'))
        ∙ ap (λ (s : State). g s) (first_part p1 p2 m (ap (λ (x : List Token). x ++ n ∷ u) parts ∙ append_assoc p1 p2 (n ∷ u)) k mid)
        ∙ lg m k p2 mid last

-- ---- steps

take_sunk : (test : Test) → blind test ≡ true → Sunk (take_one test)
unfolding take_one
take_sunk test h = record { also = of }
  where
    abbrev_if : Bool → List Token → Work → State
    abbrev_if b ts w = if b then taken ts (put ts w) else stuck Unexpected ts

    taken_stuck : {A : Type 0} (q : Token) (p : List Token) (w : Work) (why : Why) (ts : List Token) → taken (q ∷ p) w ≡ stuck why ts → A
    taken_stuck q p w why ts e = going_stuck (put p w) why ts e

    of : (w : Work) → SunkAt (take_one test) w
    of w [] n u u' why t e = elim (cases_Bool (passes_on test (n ∷ u) w.top.cover)) [
      | inl k ↦ taken_stuck n u (put (n ∷ u) w) why (n ∷ u) (subst (λ (b : Bool). (if b then taken (n ∷ u) (put (n ∷ u) w) else stuck Unexpected (n ∷ u)) ≡ stuck why (n ∷ u)) k e)
      | inr k ↦ rw (blind_on test [] n u u' w.top.cover h ∙ k) refl
    ]
    of w (q ∷ p) n u u' why t e = elim (cases_Bool (passes_on test (q ∷ (p ++ n ∷ u)) w.top.cover)) [
      | inl k ↦ taken_stuck q (p ++ n ∷ u) (put (q ∷ (p ++ n ∷ u)) w) why (n ∷ u) (subst (λ (b : Bool). (if b then taken (q ∷ (p ++ n ∷ u)) (put (q ∷ (p ++ n ∷ u)) w) else stuck Unexpected (q ∷ (p ++ n ∷ u))) ≡ stuck why (n ∷ u)) k e)
      | inr k ↦ absurd (longer q p (n ∷ u) (rest_same (stuck Unexpected (q ∷ (p ++ n ∷ u))) why (n ∷ u) (subst (λ (b : Bool). (if b then taken (q ∷ (p ++ n ∷ u)) (put (q ∷ (p ++ n ∷ u)) w) else stuck Unexpected (q ∷ (p ++ n ∷ u))) ≡ stuck why (n ∷ u)) k e)))
    ]

refuse_sunk : Sunk refused
unfolding refused
refuse_sunk = record {
  also = λ w p n u u' why t e.
      let none : p ≡ [] = no_front p (n ∷ u) (sym (rest_same (refused (going (put (p ++ n ∷ u) w))) why (n ∷ u) e)) in
      ap (λ (x : List Token). stuck Unexpected (x ++ n ∷ u')) none;
}

-- ---- rules

module _ (at : Form → State → State) (f : Firmly at) (l : (form : Form) → Sunk (at form)) where
  unit_sunk : (r : Rule) → unit r ≡ true → Sunk (run at r)
  unit_sunk r h = record { also = of }
    where
      headed : {A : Type 0} (w : Work) (ts : List Token) (why : Why) (us : List Token) → Opening ts → run at r (going (put ts w)) ≡ stuck why us → A
      headed w ts why us o e =
          let k = unit_heads at r h (put ts w) o in
          going_stuck (put o.rest k.work) why us (sym (ap (λ (x : List Token). run at r (going (put x w))) o.is ∙ k.always o.rest) ∙ e)

      of : (w : Work) → SunkAt (run at r) w
      of w [] n u u' why t e = headed w (n ∷ u) why (n ∷ u) (new_opens (n ∷ u) t.was) e
      of w (q ∷ p) n u u' why t e = elim (new_or_not (q ∷ (p ++ n ∷ u))) [
        | inl k ↦ headed w (q ∷ (p ++ n ∷ u)) why (n ∷ u) (new_opens (q ∷ (p ++ n ∷ u)) k) e
        | inr k ↦ absurd (longer q p (n ∷ u) (sym (rest_same _ Unexpected (q ∷ (p ++ n ∷ u)) ((unit_shuts at f r h).refuses (put (q ∷ (p ++ n ∷ u)) w) k)) ∙ rest_same _ why (n ∷ u) e))
      ]

  module _ (test : Test) (first second : Rule) (a : Sunk (run at first)) (b : Sunk (run at second)) where
    abbrev chosen : State → State
    chosen s = if passes test s then run at first s else run at second s

    way : Bool → List Token → Work → State
    way c ts w = if c then run at first (going (put ts w)) else run at second (going (put ts w))

    sunk_same : (w : Work) (p : List Token) (n : Token) (u u' : List Token) (why : Why) → Turned n u u' → passes test (going (put (p ++ n ∷ u') w)) ≡ passes test (going (put (p ++ n ∷ u) w)) → chosen (going (put (p ++ n ∷ u) w)) ≡ stuck why (n ∷ u) → chosen (going (put (p ++ n ∷ u') w)) ≡ stuck Unexpected (n ∷ u')
    unfolding way
    sunk_same w p n u u' why t same e = elim (cases_Bool (passes test (going (put (p ++ n ∷ u) w)))) [
      | inl h ↦ rw (same ∙ h) (a.also w p n u u' why t (subst (λ (c : Bool). way c (p ++ n ∷ u) w ≡ stuck why (n ∷ u)) h e))
      | inr h ↦ rw (same ∙ h) (b.also w p n u u' why t (subst (λ (c : Bool). way c (p ++ n ∷ u) w ≡ stuck why (n ∷ u)) h e))
    ]

  either_sunk : (test : Test) (first second : Rule) → Firm (run at first) → Firm (run at second) → Sunk (run at first) → Sunk (run at second) → (blind test || apart test first second) ≡ true → Sunk (run at (either test first second))
  either_sunk test first second i j a b h = record { also = of }
    where
      of : (w : Work) → SunkAt (run at (either test first second)) w
      of w (q ∷ p) n u u' why t e = sunk_same test first second a b w (q ∷ p) n u u' why t (same_before test q p n u u' w t.word) e
      of w [] n u u' why t e = elim (either_of (blind test) (apart test first second) h) [
        | inl k ↦ sunk_same test first second a b w [] n u u' why t (blind_passes test (going (put (n ∷ u) w)) [] n u u' k refl) e
        | inr k ↦
            let (x, y) = both (by_class test && (sees_class test classes.New && not (sees_class test classes.Foreign))) ((takes first && takes second) && (far first && shuts plain second)) k in
            let (h1, x') = both (by_class test) (sees_class test classes.New && not (sees_class test classes.Foreign)) x in
            let (h2, h3) = both (sees_class test classes.New) (not (sees_class test classes.Foreign)) x' in
            let (y', y'') = both (takes first && takes second) (far first && shuts plain second) y in
            let (t1, t2) = both (takes first) (takes second) y' in
            let (f1, f2) = both (far first) (shuts plain second) y'' in
            foreign_shut at f test first second i j h1 h2 (not_true (sees_class test classes.Foreign) h3) t1 t2 f1 f2 w (n ∷ u') t.becomes
      ]

  module _ (test : Test) (rule : Rule) (k : takes rule ≡ true) (h : blind test ≡ true) (i : Firm (run at rule)) (a : Sunk (run at rule)) where
    abbrev again : State → State
    again s = loop at f.below test rule k s

    stands : {A : Type 0} (w : Work) (why : Why) (ts : List Token) → passes test (going w) ≡ false → again (going w) ≡ stuck why ts → A
    stands w why ts q e = going_stuck w why ts (sym (loop_ends at f.below test rule k (going w) q) ∙ e)

    turns : (w : Work) (p : List Token) (n : Token) (u u' : List Token) (why : Why) → Turned n u u' → passes test (going (put (p ++ n ∷ u) w)) ≡ true → ((m : Work) → run at rule (going (put (p ++ n ∷ u) w)) ≡ going m → Next again m n u u' why) → again (going (put (p ++ n ∷ u) w)) ≡ stuck why (n ∷ u) → again (going (put (p ++ n ∷ u') w)) ≡ stuck Unexpected (n ∷ u')
    turns w p n u u' why t q next e =
        loop_goes at f.below test rule k (going (put (p ++ n ∷ u') w)) (blind_passes test (going (put (p ++ n ∷ u) w)) p n u u' h refl ∙ q)
        ∙ then_sunk (run at rule) again (run_still at f.below.still (many test rule)) (turn_front at f.below test rule k) (loop_front at f.below test rule k) i a w p n u u' why t next (sym (loop_goes at f.below test rule k (going (put (p ++ n ∷ u) w)) q) ∙ e)

    loop_sunk : (b : ℕ) (w : Work) → left (going w) ≤ b → (n : Token) (u u' : List Token) (why : Why) → Turned n u u' → Next again w n u u' why
    loop_sunk zero w bound n u u' why t p e r = absurd (omega arith)
    loop_sunk (suc b) w bound n u u' why t p e r =
        let same : w ≡ put (p ++ n ∷ u) w = ap (λ (ts : List Token). put ts w) e in
        let r' : again (going (put (p ++ n ∷ u) w)) ≡ stuck why (n ∷ u) = ap (λ (x : Work). again (going x)) (sym same) ∙ r in
        let bound' : left (going (put (p ++ n ∷ u) w)) ≤ suc b = subst (λ (x : Work). left (going x) ≤ suc b) same bound in
        elim (cases_Bool (passes test (going (put (p ++ n ∷ u) w)))) [
          | inr q ↦ stands (put (p ++ n ∷ u) w) why (n ∷ u) q r'
          | inl q ↦ turns w p n u u' why t q (λ m step. loop_sunk b m (omega (arith, turn_less at f.below test rule k (going (put (p ++ n ∷ u) w)) q, bound', ap (λ (s : State). left s) step)) n u u' why t) r'
        ]

    many_sunk : Sunk again
    many_sunk = record { also = λ w p n u u' why t e. loop_sunk (left (going (put (p ++ n ∷ u) w))) (put (p ++ n ∷ u) w) (omega arith) n u u' why t p refl e }

  pub run_sunk : (r : Rule) → firm r ≡ true → Sunk (run at r)
  unfolding after
  run_sunk nothing_more e = record { also = λ w p n u u' why t r. going_stuck (put (p ++ n ∷ u) w) why (n ∷ u) r }
  run_sunk (take test) e = take_sunk test e
  run_sunk (act action) e = record { also = λ w p n u u' why t r. going_stuck (work_after action (put (p ++ n ∷ u) w)) why (n ∷ u) r }
  run_sunk (inside form) e = l form
  run_sunk (first ▸ second) e = elim (either_of (firm first && firm second) (unit (first ▸ second)) e) [
    | inr u ↦ unit_sunk (first ▸ second) u
    | inl k ↦
        let (p, q) = both (firm first) (firm second) k in
        record { also = λ w x n u u' why t r. then_sunk (run at first) (run at second) (run_still at f.below.still second) (run_front at f.below.front first) (run_front at f.below.front second) (run_firm at f first p) (run_sunk first p) w x n u u' why t (λ m step. next_from (run at second) (run_sunk second q) m n u u' why t) r }
  ]
  run_sunk (either test first second) e =
      let (h, k) = both (blind test || apart test first second) (firm first && firm second) e in
      let (p, q) = both (firm first) (firm second) k in
      either_sunk test first second (run_firm at f first p) (run_firm at f second q) (run_sunk first p) (run_sunk second q) h
  run_sunk (many test rule) e =
      let (h, k) = both (blind test) (takes rule && firm rule) e in
      let (p, q) = both (takes rule) (firm rule) k in
      many_sunk test rule p h (run_firm at f rule q) (run_sunk rule q)
  run_sunk refuse e = refuse_sunk

pub foreign_begins : (form : Form) → is_one_of classes.Foreign (begins form) ≡ false
foreign_begins Expression = refl
foreign_begins Prefix = refl
foreign_begins Statement = refl
foreign_begins Item = refl
foreign_begins Block = refl
foreign_begins Literal = refl

beyond_sunk : (form : Form) → Sunk (beyond form)
beyond_sunk form = record {
  also = λ w p n u u' why t e.
      let none : p ≡ [] = no_front p (n ∷ u) (sym (rest_same _ why (n ∷ u) e)) in
      ap (λ (x : List Token). beyond form (going (put (x ++ n ∷ u') w))) none
      ∙ ap (λ (b : Bool). stuck (if b then TooDeep else Unexpected) (n ∷ u')) (ap (λ (c : Class). is_one_of c (begins form)) t.becomes ∙ foreign_begins form);
}

pub within_sunk : (n : ℕ) (form : Form) → Sunk (within n form)
unfolding within
within_sunk zero form = beyond_sunk form
within_sunk (suc n) form = run_sunk (within n) (within_firmly n) (within_sunk n) (rule_of form) (rules_firm form)
